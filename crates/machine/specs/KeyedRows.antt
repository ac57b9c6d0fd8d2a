-- Rows under keys: a list that has, of a look-up, the rows that are needed.
use Rattle.std.specs.Prelude.{◌≡◌, ℕ, Bool, true, not, ◌&&◌, List, [], ◌∷◌, find, Option, Some}
use Rattle.std.specs.List.{list_any}
use Rattle.machine.specs.Words.{same_text, LotId}
use Rattle.machine.specs.Postings.{is_lot}

abbrev pub no_two : {R : Type 0} → (R → R → Bool) → List R → Bool
no_two same [] = true
no_two same (r ∷ rs) = not (list_any (same r) rs) && no_two same rs

-- each of these rows is the table's under its key, and its key is allowed
abbrev pub AreOwn : {K R : Type 0} → (R → K) → (K → Bool) → (K → Option R) → List R → Type 0
AreOwn key allowed row [] = Unit {0}
AreOwn key allowed row (r ∷ rs) = (allowed (key r) ≡ true) × (row (key r) ≡ Some r) × AreOwn key allowed row rs

-- a needed key is found as the table has it; no row is foreign, and none is there twice
pub record AreRows {K R : Type 0} (same : K → K → Bool) (key : R → K) (needed allowed : K → Bool) (row : K → Option R) (rows : List R) : Type 0 where
  pub found : (k : K) → needed k ≡ true → find (λ r. same k (key r)) rows ≡ row k
  pub own : AreOwn key allowed row rows
  pub once : no_two (λ r s. same (key r) (key s)) rows ≡ true

-- Keys of two parts

abbrev pub LotBin : Type 0
LotBin = LotId × List ℕ

abbrev pub OrderItem : Type 0
OrderItem = List ℕ × List ℕ

abbrev pub OrderLot : Type 0
OrderLot = List ℕ × LotId

abbrev pub same_cell : LotBin → LotBin → Bool
same_cell k m = is_lot k.0 m.0 && same_text k.1 m.1

abbrev pub same_line : OrderItem → OrderItem → Bool
same_line k m = same_text k.0 m.0 && same_text k.1 m.1

abbrev pub same_share : OrderLot → OrderLot → Bool
same_share k m = same_text k.0 m.0 && is_lot k.1 m.1
