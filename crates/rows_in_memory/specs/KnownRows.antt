-- Rows that are known by what they were sought by.
use Rattle.std.specs.Prelude.{◌≡◌, ◌⊎◌, ℕ, ◌+◌, length, Bool, true, false, not, if◌then◌else◌, List, [], ◌∷◌, ◌++◌, filter, Option, Some, None, IfSome, Vec}
use Rattle.std.specs.declared.alloc.Global.{Global}
use Rattle.std.specs.List.{list_any, sum_by}
use Rattle.std.specs.Ordering.{is_eq}
use Rattle.std.specs.declared.cmp.Ordering.{Ordering}
use Rattle.std.specs.BTreeMap.{BTreeMap, get, values}
use Rattle.rows_in_memory.specs.declared.known_lists.KnownLists.{KnownLists}

-- lists of rows by the keys of what they were sought by, and whether they have all rows
abbrev pub RowMap : Type 0 → Type 0 → Type 0
RowMap = KnownLists

-- what a list weighs: 1, and each of its rows 1 more
abbrev pub list_weight : {R : Type 0} → Vec R Global → ℕ
list_weight rows = length rows.items + 1

-- what lists weigh together
abbrev pub map_weight : {K R : Type 0} → BTreeMap K (Vec R Global) → ℕ
map_weight m = sum_by list_weight (values m)

-- the list without the row under the key of this one, and with the row in its place
abbrev pub without_row : {R : Type 0} → (R → R → Bool) → R → List R → List R
without_row same r rows = filter (λ x. not (same x r)) rows

abbrev pub with_put : {R : Type 0} → (R → R → Bool) → R → List R → List R
with_put same r rows = without_row same r rows ++ r ∷ []

-- the list with the row behind its others, of which none has its key if it is new
abbrev pub placed : {R : Type 0} → (R → R → Bool) → Bool → R → List R → List R
placed same is_new r rows = (if is_new then rows else without_row same r rows) ++ r ∷ []

-- the rows of a list; where there is none, there are no rows if the lists have all
abbrev pub rows_in : {R : Type 0} → Bool → Option (Vec R Global) → Option (List R)
rows_in whole (Some v) = Some v.items
rows_in whole None = if whole then Some [] else None

module _ {K R : Type 0} (cmp : K → K → Ordering) where
  -- the rows that are known under a key
  abbrev pub rows_at : RowMap K R → K → Option (List R)
  rows_at m k = rows_in m.whole (get cmp m.lists k)

  abbrev pub KnowsNone : RowMap K R → Type 0
  KnowsNone m = (q : K) → rows_at m q ≡ None

  -- what is known after was known before
  abbrev pub IsPart : RowMap K R → RowMap K R → Type 0
  IsPart old new = (q : K) → IfSome (rows_at new q) (λ found. rows_at old q ≡ Some found)

  -- or it is these rows, under this key
  abbrev pub LearnsAt : K → List R → RowMap K R → RowMap K R → Type 0
  LearnsAt k rows old new = (q : K) → IfSome (rows_at new q) (λ found. ((is_eq (cmp k q) ≡ true) × (found ≡ rows)) ⊎ (rows_at old q ≡ Some found))

  -- what is known after was known before, and not under this key
  abbrev pub ForgetsAt : K → RowMap K R → RowMap K R → Type 0
  ForgetsAt k old new = (q : K) → IfSome (rows_at new q) (λ found. (rows_at old q ≡ Some found) × (is_eq (cmp k q) ≡ false))

  -- what is known after was known before, and not under the key of one of these rows
  abbrev pub ForgetsBy : (R → K) → List R → RowMap K R → RowMap K R → Type 0
  ForgetsBy key rows old new = (q : K) → IfSome (rows_at new q) (λ found. (rows_at old q ≡ Some found) × (list_any (λ r. is_eq (cmp (key r) q)) rows ≡ false))

  -- what is known after was known before, with this change under this key
  abbrev pub ChangesAt : K → (List R → List R) → RowMap K R → RowMap K R → Type 0
  ChangesAt k change old new = (q : K) → IfSome (rows_at new q) (λ found. (before : List R) × (rows_at old q ≡ Some before) × (found ≡ (if is_eq (cmp k q) then change before else before)))

  -- the list that is known under a key, with the changes of the rows whose key it is
  abbrev pub each_changed : (R → K) → (R → List R → List R) → List R → K → List R → List R
  each_changed key change [] q before = before
  each_changed key change (r ∷ rs) q before = each_changed key change rs q (if is_eq (cmp (key r) q) then change r before else before)

  -- what is known after was known before, with the changes of these rows
  abbrev pub ChangesBy : (R → K) → (R → List R → List R) → List R → RowMap K R → RowMap K R → Type 0
  ChangesBy key change rows old new = (q : K) → IfSome (rows_at new q) (λ found. (before : List R) × (rows_at old q ≡ Some before) × (found ≡ each_changed key change rows q before))

  -- what is known after is this row alone, under this key, or was known before
  abbrev pub SetsAt : K → R → RowMap K R → RowMap K R → Type 0
  SetsAt k r old new = (q : K) → IfSome (rows_at new q) (λ found. (if is_eq (cmp k q) then Some (r ∷ []) else rows_at old q) ≡ Some found)

  -- under a key, the last of the rows whose key it is, alone, or what was known before
  abbrev pub last_set : (R → K) → List R → K → Option (List R) → Option (List R)
  last_set key [] q before = before
  last_set key (r ∷ rs) q before = last_set key rs q (if is_eq (cmp (key r) q) then Some (r ∷ []) else before)

  -- what is known after is each of these rows alone, under its key, one after another, or was known before
  abbrev pub SetsBy : (R → K) → List R → RowMap K R → RowMap K R → Type 0
  SetsBy key rows old new = (q : K) → IfSome (rows_at new q) (λ found. last_set key rows q (rows_at old q) ≡ Some found)

  -- what is known after was known before, or it is those of these rows whose key it is
  abbrev pub KnowsAll : (R → K) → List R → RowMap K R → RowMap K R → Type 0
  KnowsAll key rows old new = (q : K) → IfSome (rows_at new q) (λ found. (found ≡ filter (λ r. is_eq (cmp (key r) q)) rows) ⊎ (rows_at old q ≡ Some found))

  -- what is known of the rows that are sought is so
  abbrev pub Remembers : {B : Type 0} → (B → K) → (B → List R → Type 0) → RowMap K R → Type 0
  Remembers {B} key are m = (by : B) → IfSome (rows_at m (key by)) (are by)
