-- What rows that are found by a text or by a number of theirs give.
use Rattle.std.specs.Prelude.{◌≡◌, ℕ, ◌==◌, Bool, true, false, List, [], ◌∷◌, reverse, map, flat_map, take, drop, filter, find, Option}
use Rattle.std.specs.List.{cons_option}
use Rattle.std.specs.Option.{option_or}
use Rattle.std.specs.Ordering.{nat_cmp}
use Rattle.std.specs.BTreeMap.{get}
use Rattle.row_rules.specs.Words.{same_text, Row, OrderRow, LotRow, ReservedRow}
use Rattle.row_rules.specs.Plans.{named_row}
use Rattle.row_rules.specs.declared.row_index.RowsByText.{RowsByText}
use Rattle.row_rules.specs.declared.row_index.RowsByNumber.{RowsByNumber}

-- the rows beside a key
abbrev pub rows_at : {X : Type 0} → List (List ℕ × X) → List ℕ → List X
rows_at pairs key = map (λ p. p.1) (filter (λ p. same_text key p.0) pairs)

-- the rows at these places, each beside the key of its place
abbrev pub rows_placed : {X : Type 0} → List X → List (List ℕ × ℕ) → List (List ℕ × X)
rows_placed rows places = flat_map (λ p. map (λ r. (p.0, r)) (take 1 (drop p.1 rows))) places

-- the rows beside a key, or others where no rows stand beside keys
abbrev pub rows_or : {X : Type 0} → List X → List (List ℕ × X) → List ℕ → List X
rows_or others [] key = others
rows_or others (p ∷ ps) key = rows_at (p ∷ ps) key

-- the rows that are given for a text: its key is the text from the last character to the first
abbrev pub rows_given : {X : Type 0} → RowsByText X → List ℕ → List X
rows_given found k = rows_or found.others.now found.sorted (reverse k)

-- the row that is given for a number
abbrev pub row_given : {X : Type 0} → (X → ℕ) → RowsByNumber X → ℕ → Option X
row_given number found n = option_or (get nat_cmp found.firsts n) (find (λ r. n == number r) found.others.now)

-- for each text the rows with it are given, in their order; others may be given too
abbrev pub GivesRows : {X : Type 0} → (X → List ℕ) → (List ℕ → List X) → List X → Type 0
GivesRows text given rows = (k : List ℕ) → filter (λ r. same_text k (text r)) (given k) ≡ filter (λ r. same_text k (text r)) rows

-- for each number the first row of it is given
abbrev pub GivesFirst : {X : Type 0} → (X → ℕ) → (ℕ → Option X) → List X → Type 0
GivesFirst number given rows = (n : ℕ) → given n ≡ find (λ r. n == number r) rows

-- the plan's rows by the names of these orders and lots
abbrev pub rows_named : (ℕ → Option OrderRow) → (ℕ → Option LotRow) → List Row → List ReservedRow
rows_named order lot [] = []
rows_named order lot (r ∷ rs) = cons_option (named_row (order r.booking) (lot r.lot) r.qty) (rows_named order lot rs)

-- In order

-- an order: of two, one at most stands before the other; and what does not stand behind one that stands before a third stands before the third
pub record IsOrder {X : Type 0} (earlier : X → X → Bool) : Type 0 where
  pub turned : (x y : X) → earlier x y ≡ true → earlier y x ≡ false
  pub further : (x y z : X) → earlier y x ≡ false → earlier y z ≡ true → earlier x z ≡ true

-- the first of a list stands before x
abbrev pub first_before : {X : Type 0} → (X → X → Bool) → List X → X → Bool
first_before earlier [] x = false
first_before earlier (y ∷ ys) x = earlier y x

-- no element stands before the one in front of it
abbrev pub IsInOrder : {X : Type 0} → (X → X → Bool) → List X → Type 0
IsInOrder earlier [] = Unit {0}
IsInOrder earlier (x ∷ xs) = (first_before earlier xs x ≡ false) × IsInOrder earlier xs
