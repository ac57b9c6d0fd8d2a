-- Two lists of rows as one table.
use Rattle.std.specs.Prelude.{◌≡◌, ◌≢◌, ℕ, Bool, true, List, [], ◌∷◌, find, take, drop, if◌then◌else◌}
use Rattle.std.specs.declared.cmp.Ordering.{Ordering}
use Rattle.std.specs.declared.cmp.Ordering.TheVariants.{Less, Equal}
use Rattle.std.specs.Ordering.{nat_cmp, ordering_then, is_eq, is_gt}
use Rattle.std.specs.Cmp.{IsTotalOrder}
use Rattle.std.specs.Cmp.Lexicographic.{slice_cmp}
use Rattle.whole_tables.specs.Words.{Database, LotId, Tables, no_two, Described, rule_of}
use Rattle.whole_tables.specs.declared.key.RowKey.{RowKey}
use Rattle.whole_tables.specs.declared.key.TableName.{TableName}
use Rattle.whole_tables.specs.Differing.{RowDiffers, rule_called, SameTable, SameCalled}

-- each key has one row at most
abbrev pub AreOnce : {K X : Type 0} → (K → K → Bool) → (X → K) → List X → Type 0
AreOnce same key xs = no_two (λ x y. same (key x) (key y)) xs ≡ true

-- each look-up finds the same
abbrev pub FindAlike : {K X : Type 0} → (K → K → Bool) → (X → K) → List X → List X → Type 0
FindAlike {K} same key xs ys = (k : K) → find (λ x. same k (key x)) xs ≡ find (λ x. same k (key x)) ys

-- this look-up does not, and each of a lesser key does
pub record IsFirstOther {K X : Type 0} (same : K → K → Bool) (key : X → K) (order : K → K → Ordering) (xs ys : List X) (k : K) : Type 0 where
  pub differs : find (λ x. same k (key x)) xs ≢ find (λ x. same k (key x)) ys
  pub first : (j : K) → order j k ≡ Less → find (λ x. same j (key x)) xs ≡ find (λ x. same j (key x)) ys

abbrev pub lesser : {K : Type 0} → (K → K → Ordering) → K → K → K
lesser order a b = if is_gt (order a b) then b else a

-- the lists differ in their first rows, of which this is the lesser key
abbrev pub Begin : {K X : Type 0} → (X → K) → (K → K → Ordering) → List X → List X → K → Type 0
Begin key order [] [] k = ⊥
Begin key order [] (y ∷ ys) k = k ≡ key y
Begin key order (x ∷ xs) [] k = k ≡ key x
Begin key order (x ∷ xs) (y ∷ ys) k = (x ≢ y) × (k ≡ lesser order (key x) (key y))

-- they do so after rows that are the same
pub record ArePartedAt {K X : Type 0} (key : X → K) (order : K → K → Ordering) (xs ys : List X) (k : K) : Type 0 where
  pub place : ℕ
  pub same : take place xs ≡ take place ys
  pub differ : Begin key order (drop place xs) (drop place ys) k

-- The table is the one that is called so, the order of its keys is total and takes the same keys as equal, and a key tells the
-- row of the books.
pub record IsCompared {X K : Type 0} (d : Described X K) (name : TableName) (order : K → K → Ordering) (named : K → RowKey) : Type 0 where
  pub called : rule_called name ≡ rule_of d
  pub alike : (a b : Database) → SameTable d a b → SameCalled name a b
  pub total : IsTotalOrder order
  pub same_is : (a b : K) → is_eq (order a b) ≡ d.same a b
  pub differs : (k : K) (a b : Tables) → d.look a k ≢ d.look b k → RowDiffers (named k) a b

-- The orders of keys: one key, texts by their bytes, lots by GTIN and lot, pairs by the first part and then by the second

abbrev pub one_cmp : Unit {0} → Unit {0} → Ordering
one_cmp a b = Equal

abbrev pub text_cmp : List ℕ → List ℕ → Ordering
text_cmp = slice_cmp nat_cmp

abbrev pub lot_cmp : LotId → LotId → Ordering
lot_cmp a b = ordering_then (text_cmp a.gtin b.gtin) (text_cmp a.lot b.lot)

abbrev pub pair_cmp : {K L : Type 0} → (K → K → Ordering) → (L → L → Ordering) → K × L → K × L → Ordering
pair_cmp R S a b = ordering_then (R a.0 b.0) (S a.1 b.1)
