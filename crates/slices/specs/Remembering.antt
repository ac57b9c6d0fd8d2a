-- The rows that are known by what they were sought by, and reads that are answered from them.
use Rattle.std.specs.Prelude.{◌≡◌, ◌⊎◌, ℕ, true, List, [], ◌∷◌, reverse, Some, IfSome}
use Rattle.std.specs.Ordering.{is_eq, nat_cmp}
use Rattle.std.specs.declared.cmp.Ordering.{Ordering}
use Rattle.std.specs.Cmp.Lexicographic.{slice_cmp}
use Rattle.slices.specs.Words.{Tables, BinRow, ItemRow, LeastRow, RecallRow, Put, AreLeastOf, RowMap, rows_at, KnowsNone, ForgetsBy, Remembers}
use Rattle.tables.specs.Bins.{AreBinsOf}
use Rattle.tables.specs.Items.{AreItemsOf}
use Rattle.tables.specs.Recalls.{AreRecallsOf}
use Rattle.slices.specs.Reading.{Knowing}
use Rattle.slices.specs.Following.{KnowsFollowed, KnowsNoneFollowed}
use Rattle.slices.specs.declared.rows_known.RowsKnown.{RowsKnown}

-- What is known of one table is so

-- items by their GTINs
abbrev pub KnowsItems : Tables → RowMap (List ℕ) ItemRow → Type 0
KnowsItems t m = Remembers (slice_cmp nat_cmp) reverse (λ by found. AreItemsOf by t found) m

-- what items ask for, by their GTINs
abbrev pub KnowsLeast : Tables → RowMap (List ℕ) LeastRow → Type 0
KnowsLeast t m = Remembers (slice_cmp nat_cmp) reverse (λ by found. AreLeastOf by t found) m

-- bins by their names
abbrev pub KnowsBins : Tables → RowMap (List ℕ) BinRow → Type 0
KnowsBins t m = Remembers (slice_cmp nat_cmp) reverse (λ by found. AreBinsOf by t found) m

-- recalls by the GTINs of their items
abbrev pub KnowsRecalls : Tables → RowMap (List ℕ) RecallRow → Type 0
KnowsRecalls t m = Remembers (slice_cmp nat_cmp) reverse (λ by found. AreRecallsOf by t found) m

-- so of all
pub record KnowsRows (t : Tables) (known : RowsKnown) : Type 0 where
  pub items : KnowsItems t known.items.rows
  pub least : KnowsLeast t known.least.rows
  pub bins : KnowsBins t known.bins.rows
  pub recalls : KnowsRecalls t known.recalls.rows
  pub followed : KnowsFollowed t known.followed

-- nothing is known
pub record KnowsNoRows (known : RowsKnown) : Type 0 where
  pub items : KnowsNone (slice_cmp nat_cmp) known.items.rows
  pub least : KnowsNone (slice_cmp nat_cmp) known.least.rows
  pub bins : KnowsNone (slice_cmp nat_cmp) known.bins.rows
  pub recalls : KnowsNone (slice_cmp nat_cmp) known.recalls.rows
  pub followed : KnowsNoneFollowed known.followed

-- of what does not follow what is written: what is known after was known before, and is not sought with a row that a change puts
pub record ForgetsPut (puts : Put) (old new : RowsKnown) : Type 0 where
  pub items : ForgetsBy (slice_cmp nat_cmp) (λ (r : ItemRow). reverse r.gtin) puts.items old.items.rows new.items.rows
  pub least : ForgetsBy (slice_cmp nat_cmp) (λ (r : LeastRow). reverse r.gtin) puts.least old.least.rows new.least.rows
  pub bins : ForgetsBy (slice_cmp nat_cmp) (λ (r : BinRow). reverse r.name) puts.bins old.bins.rows new.bins.rows
  pub recalls : ForgetsBy (slice_cmp nat_cmp) (λ (r : RecallRow). reverse r.lot.gtin) puts.recalls old.recalls.rows new.recalls.rows

-- what a read tells holds of the tables if what is known before it does, and then what is known after it does too
abbrev pub Learning : {X : Type 0} → RowsKnown → RowsKnown → (Tables → X → Type 0) → Tables → X → Type 0
Learning old new = Knowing (λ t. KnowsRows t old) (λ t. KnowsRows t new)

-- Rows that are known one by one

module _ {K R : Type 0} (cmp : K → K → Ordering) (key : R → K) where
  -- one of these rows alone, under its key
  abbrev pub IsAlone : List R → K → List R → Type 0
  IsAlone [] q found = ⊥
  IsAlone (r ∷ rows) q found = ((is_eq (cmp (key r) q) ≡ true) × (found ≡ r ∷ [])) ⊎ IsAlone rows q found

  -- what is known after was known before, or it is one of these rows alone, under its key
  abbrev pub LearnsEach : List R → RowMap K R → RowMap K R → Type 0
  LearnsEach rows old new = (q : K) → IfSome (rows_at cmp new q) (λ found. IsAlone rows q found ⊎ (rows_at cmp old q ≡ Some found))
