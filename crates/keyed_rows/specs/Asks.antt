-- Queries of the rows in which columns of the key have the texts that are sought.
use Rattle.std.specs.Prelude.{◌≡◌, ℕ, ◌+◌, Bool, true, ◌&&◌, nat_le, bytes_eq, List, [], ◌∷◌, map}
use Rattle.std.specs.List.{AllByRecursion}
use Rattle.keyed_rows.specs.Words.{Text, Row, column, bytes, Term, Tables, is_word, is_the_text, AreRows, Columns, COLUMNS_MAX, tests_from, by_rowid}
use Rattle.values.specs.declared.lot.LotId.{LotId}
use Rattle.keyed_rows.specs.Described.{Described, Query, QueryIs}

-- a column that is compared: where it stands, which text of a key it has, and the text that is sought
pub record Compared (K B : Type 0) : Type 0 where
  pub place : ℕ
  pub of : K → List ℕ
  pub sought : B → List ℕ

-- a query: its text, and the columns that it compares
pub record Asks (K B : Type 0) : Type 0 where
  pub text : List ℕ
  pub columns : List (Compared K B)

abbrev pub compared : {K B : Type 0} → ℕ → (K → List ℕ) → (B → List ℕ) → Compared K B
compared place of sought = record { place = place; of = of; sought = sought }

-- a column of a key that is sought
abbrev pub of_key : {K : Type 0} → ℕ → (K → List ℕ) → Compared K K
of_key place of = compared place of of

-- for all rows
abbrev pub for_all : {K B : Type 0} → List ℕ → Asks K B
for_all text = record { text = text; columns = [] }

-- for those that have a text in one column
abbrev pub by_text : {K : Type 0} → List ℕ → ℕ → (K → List ℕ) → Asks K (List ℕ)
by_text text place of = record { text = text; columns = compared place of (λ t. t) ∷ [] }

-- for those of a lot, in two columns from this place on
abbrev pub by_lot : {K : Type 0} → List ℕ → ℕ → (K → LotId) → Asks K LotId
by_lot text place of = record { text = text; columns = compared place (λ k. (of k).gtin) (λ l. l.gtin) ∷ compared (place + 1) (λ k. (of k).lot) (λ l. l.lot) ∷ [] }

-- for that of a key
abbrev pub by_key : {K : Type 0} → List ℕ → List (Compared K K) → Asks K K
by_key text columns = record { text = text; columns = columns }

-- this one and each after it
abbrev pub with_each : {C : Type 0} → (C → Bool) → C → List C → Bool
with_each test c [] = test c
with_each test c (e ∷ cs) = test c && with_each test e cs

abbrev pub each : {C : Type 0} → (C → Bool) → List C → Bool
each test [] = true
each test (c ∷ cs) = with_each test c cs

-- the key has the texts that are sought
abbrev pub is_sought : {K B : Type 0} → List (Compared K B) → B → K → Bool
is_sought columns by k = each (λ c. bytes_eq (c.sought by) (c.of k)) columns

abbrev pub params_of : {K B : Type 0} → List (Compared K B) → B → Row
params_of columns by = map (λ c. Text (c.sought by)) columns

abbrev pub tests_of : {K B : Type 0} → List (Compared K B) → List Term
tests_of columns = tests_from (map (λ c. c.place) columns) 0

abbrev pub query_of : {X K B : Type 0} → Described X K → Asks K B → Query X K B
query_of d a = record {
  may = λ by. true;
  text = a.text;
  params = params_of a.columns;
  tests = tests_of a.columns;
  order = by_rowid;
  wanted = λ by s. is_sought a.columns by (d.key s);
  stored = λ by r. each (λ c. is_the_text (c.sought by) (column r c.place)) a.columns;
}

-- the rows are those that are sought, each once
abbrev pub AreSought : {X K B : Type 0} → Described X K → Asks K B → B → Tables → List X → Type 0
AreSought d a by t rows = AreRows d.same d.key (is_sought a.columns by) (d.look t) rows

-- ---- what holds of them

-- a typed row has this text of its key in the column at this place
pub record IsText {X K : Type 0} (d : Described X K) (place : ℕ) (of : K → List ℕ) : Type 0 where
  pub rule : List ℕ → Bool
  pub has : (r : Row) → d.is r ≡ true → is_word rule (column r place) ≡ true
  pub reads : (r : Row) → of (d.key (d.reads r)) ≡ bytes (column r place)

abbrev pub AreTexts : {X K B : Type 0} → Described X K → List (Compared K B) → Type 0
AreTexts d columns = AllByRecursion (λ c. IsText d c.place c.of) columns

-- the text means the query, and its parameters are what so many columns say
pub record IsAsked {X K B : Type 0} (c : Columns B) (count : ℕ) (d : Described X K) (a : Asks K B) : Type 0 where
  pub few : nat_le count COLUMNS_MAX ≡ true
  pub fits : (by : B) → c.fits by ≡ true
  pub cells : (by : B) → c.cells by ≡ params_of a.columns by
  pub is : QueryIs d (query_of d a)
  pub texts : AreTexts d a.columns
