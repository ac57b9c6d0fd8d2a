-- In the plan of an item no booking has two rows of one lot, and no row is of nothing.
use Rattle.machine.proofs.Words.{◌≡◌, ℕ, ◌+◌, ◌<◌, Bool, true, false, ◌&&◌, not, List, [], ◌∷◌, ◌++◌, refl, ap, ◌∙◌, arith, ◌==◌, ◌||◌, if◌then◌else◌, ℤ, filter, map, list_any, eqb-true, placed, in_order, Demand, Supply, Row, Stretch, overlap, row_of, rows_of_demand, rows_of_stretches, demands_laid, supplies_laid, Act, KnownLot, lots, lots_of, is_shippable, demands, supplies, supply_of, goes_before, shippable_lots, item_postings, plan, IsHistory, no_two}
use Rattle.machine.proofs.Numbers.{unequal_above, unequal_turned}
use Rattle.machine.proofs.Tests.{or_none, and_later_false}
use Rattle.machine.proofs.histories.Falling.{AllBelow, AreFalling}
use Rattle.machine.proofs.histories.Lots.{lots_numbered}
use Rattle.machine.proofs.Apart.{AreApart}
use Rattle.machine.proofs.histories.Served.{demands_apart}

-- Lists in which no two have one number

module _ {X : Type 0} (number : X → ℕ) where
  abbrev pub none_has : ℕ → List X → Bool
  none_has n xs = list_any (λ x. n == number x) xs

  abbrev pub Distinct : List X → Type 0
  Distinct [] = Unit {0}
  Distinct (x ∷ xs) = (none_has (number x) xs ≡ false) × Distinct xs

  has_kept : (keep : X → Bool) (n : ℕ) (xs : List X) → none_has n xs ≡ false → none_has n (filter keep xs) ≡ false
  has_kept keep n [] e = refl
  has_kept keep n (x ∷ xs) e =
      let two = or_none (n == number x) (none_has n xs) e in
      elim (keep x) as (λ b. none_has n (if b then x ∷ filter keep xs else filter keep xs) ≡ false) [
        | true ↦ (λ i. two.0 i || has_kept keep n xs two.1 i)
        | false ↦ has_kept keep n xs two.1
      ]

  distinct_kept : (keep : X → Bool) (xs : List X) → Distinct xs → Distinct (filter keep xs)
  distinct_kept keep [] h = tt
  distinct_kept keep (x ∷ xs) h = elim (keep x) as (λ b. Distinct (if b then x ∷ filter keep xs else filter keep xs)) [
    | true ↦ (has_kept keep (number x) xs h.0, distinct_kept keep xs h.1)
    | false ↦ distinct_kept keep xs h.1
  ]

  has_placed : (before : X → X → Bool) (n : ℕ) (x : X) (ys : List X) → (n == number x) ≡ false → none_has n ys ≡ false → none_has n (placed before x ys) ≡ false
  has_placed before n x [] e f = (λ i. e i || false)
  has_placed before n x (y ∷ ys) e f =
      let two = or_none (n == number y) (none_has n ys) f in
      elim (before y x) as (λ b. none_has n (if b then y ∷ placed before x ys else x ∷ y ∷ ys) ≡ false) [
        | true ↦ (λ i. two.0 i || has_placed before n x ys e two.1 i)
        | false ↦ (λ i. e i || f i)
      ]

  distinct_placed : (before : X → X → Bool) (x : X) (ys : List X) → none_has (number x) ys ≡ false → Distinct ys → Distinct (placed before x ys)
  distinct_placed before x [] e h = (refl, tt)
  distinct_placed before x (y ∷ ys) e h =
      let two = or_none (number x == number y) (none_has (number x) ys) e in
      elim (before y x) as (λ b. Distinct (if b then y ∷ placed before x ys else x ∷ y ∷ ys)) [
        | true ↦ (has_placed before (number y) x ys (unequal_turned (number x) (number y) two.0) h.0, distinct_placed before x ys two.1 h.1)
        | false ↦ (e, h)
      ]

  has_ordered : (before : X → X → Bool) (n : ℕ) (xs : List X) → none_has n xs ≡ false → none_has n (in_order before xs) ≡ false
  has_ordered before n [] e = refl
  has_ordered before n (x ∷ xs) e =
      let two = or_none (n == number x) (none_has n xs) e in
      has_placed before n x (in_order before xs) two.0 (has_ordered before n xs two.1)

  distinct_ordered : (before : X → X → Bool) (xs : List X) → Distinct xs → Distinct (in_order before xs)
  distinct_ordered before [] h = tt
  distinct_ordered before (x ∷ xs) h = distinct_placed before x (in_order before xs) (has_ordered before (number x) xs h.0) (distinct_ordered before xs h.1)

pub unequal_back : (a b : ℕ) → a < b → (a == b) ≡ false
unequal_back a b h = elim (a == b) as (λ t. (a == b) ≡ t → t ≡ false) [ true ↦ λ e. let z : a ≡ b = eqb-true a b e in absurd (omega arith) | false ↦ λ e. refl ] refl

below_has_none : (n : ℕ) (ks : List KnownLot) → AllBelow (λ (k : KnownLot). k.came) n ks → none_has (λ (k : KnownLot). k.came) n ks ≡ false
below_has_none n [] h = refl
below_has_none n (k ∷ ks) h = (λ i. unequal_above k.came n h.0 i || below_has_none n ks h.1 i)

lots_distinct : (ks : List KnownLot) → AreFalling (λ (k : KnownLot). k.came) ks → Distinct (λ (k : KnownLot). k.came) ks
lots_distinct [] h = tt
lots_distinct (k ∷ ks) h = (below_has_none k.came ks h.0, lots_distinct ks h.1)

-- Stretches

abbrev Names : List Stretch → Type 0
Names ss = Distinct (λ (s : Stretch). s.name) ss

laid_has : (n x : ℕ) (ds : List Demand) → list_any (λ (d : Demand). n == d.booking) ds ≡ false → none_has (λ (s : Stretch). s.name) n (demands_laid x ds) ≡ false
laid_has n x [] h = refl
laid_has n x (d ∷ ds) h = let two = or_none (n == d.booking) (list_any (λ (d : Demand). n == d.booking) ds) h in (λ i. two.0 i || laid_has n (x + d.need) ds two.1 i)

demands_named : (x : ℕ) (ds : List Demand) → AreApart (λ (d e : Demand). d.booking == e.booking) ds → Names (demands_laid x ds)
demands_named x [] h = tt
demands_named x (d ∷ ds) h = (laid_has d.booking (x + d.need) ds h.0, demands_named (x + d.need) ds h.1)

module _ (avail : KnownLot → Supply) (named : (k : KnownLot) → (avail k).lot ≡ k.came) where
  lots_laid_have : (n y : ℕ) (ks : List KnownLot) → none_has (λ (k : KnownLot). k.came) n ks ≡ false → none_has (λ (s : Stretch). s.name) n (supplies_laid y (map avail ks)) ≡ false
  lots_laid_have n y [] e = refl
  lots_laid_have n y (k ∷ ks) e =
      let two = or_none (n == k.came) (none_has (λ (k : KnownLot). k.came) n ks) e in
      (λ i. (ap (λ m. n == m) (named k) ∙ two.0) i || lots_laid_have n (y + (avail k).avail) ks two.1 i)

  lots_named : (y : ℕ) (ks : List KnownLot) → Distinct (λ (k : KnownLot). k.came) ks → Names (supplies_laid y (map avail ks))
  lots_named y [] h = tt
  lots_named y (k ∷ ks) h = (ap (λ m. none_has (λ (s : Stretch). s.name) m (supplies_laid (y + (avail k).avail) (map avail ks))) (named k) ∙ lots_laid_have k.came (y + (avail k).avail) ks h.0, lots_named (y + (avail k).avail) ks h.1)

-- Rows

abbrev pub same_pair : Row → Row → Bool
same_pair r s = (s.booking == r.booking) && (s.lot == r.lot)

abbrev pub AllSome : List Row → Type 0
AllSome [] = Unit {0}
AllSome (r ∷ rs) = ((r.qty == 0) ≡ false) × AllSome rs

some_append : (rs ss : List Row) → AllSome rs → AllSome ss → AllSome (rs ++ ss)
some_append [] ss h k = k
some_append (r ∷ rs) ss h k = (h.0, some_append rs ss h.1 k)

some_of_demand : (d : Stretch) (ss : List Stretch) → AllSome (rows_of_demand ss d)
some_of_demand d [] = tt
some_of_demand d (s ∷ ss) = elim (overlap d s == 0) as (λ b. (overlap d s == 0) ≡ b → AllSome (if not b then row_of d s ∷ rows_of_demand ss d else rows_of_demand ss d)) [
  | true ↦ λ e. some_of_demand d ss
  | false ↦ λ e. (e, some_of_demand d ss)
] refl

some_rows : (ds ss : List Stretch) → AllSome (rows_of_stretches ds ss)
some_rows [] ss = tt
some_rows (d ∷ ds) ss = some_append (rows_of_demand ss d) (rows_of_stretches ds ss) (some_of_demand d ss) (some_rows ds ss)

any_append : (t : Row → Bool) (rs ss : List Row) → list_any t rs ≡ false → list_any t ss ≡ false → list_any t (rs ++ ss) ≡ false
any_append t [] ss e f = f
any_append t (r ∷ rs) ss e f = let two = or_none (t r) (list_any t rs) e in (λ i. two.0 i || any_append t rs ss two.1 f i)

-- no row of the demand is of that lot, and no row of other demands is of that booking
no_other_lot : (r : Row) (d : Stretch) (ss : List Stretch) → none_has (λ (s : Stretch). s.name) r.lot ss ≡ false → list_any (same_pair r) (rows_of_demand ss d) ≡ false
no_other_lot r d [] e = refl
no_other_lot r d (s ∷ ss) e =
    let two = or_none (r.lot == s.name) (none_has (λ (s : Stretch). s.name) r.lot ss) e in
    elim (overlap d s == 0) as (λ b. list_any (same_pair r) (if not b then row_of d s ∷ rows_of_demand ss d else rows_of_demand ss d) ≡ false) [
      | true ↦ no_other_lot r d ss two.1
      | false ↦ (λ i. and_later_false (d.name == r.booking) (s.name == r.lot) (unequal_turned r.lot s.name two.0) i || no_other_lot r d ss two.1 i)
    ]

of_other : (r : Row) (d : Stretch) (ss : List Stretch) → (d.name == r.booking) ≡ false → list_any (same_pair r) (rows_of_demand ss d) ≡ false
of_other r d [] e = refl
of_other r d (s ∷ ss) e = elim (overlap d s == 0) as (λ b. list_any (same_pair r) (if not b then row_of d s ∷ rows_of_demand ss d else rows_of_demand ss d) ≡ false) [
  | true ↦ of_other r d ss e
  | false ↦ (λ i. (e i && (s.name == r.lot)) || of_other r d ss e i)
]

no_other_booking : (r : Row) (ds ss : List Stretch) → none_has (λ (s : Stretch). s.name) r.booking ds ≡ false → list_any (same_pair r) (rows_of_stretches ds ss) ≡ false
no_other_booking r [] ss e = refl
no_other_booking r (d ∷ ds) ss e =
    let two = or_none (r.booking == d.name) (none_has (λ (s : Stretch). s.name) r.booking ds) e in
    any_append (same_pair r) (rows_of_demand ss d) (rows_of_stretches ds ss) (of_other r d ss (unequal_turned r.booking d.name two.0)) (no_other_booking r ds ss two.1)

once_in_demand : (d : Stretch) (ss : List Stretch) (rest : List Row) → Names ss → ((r : Row) → r.booking ≡ d.name → list_any (same_pair r) rest ≡ false) → no_two same_pair rest ≡ true
    → no_two same_pair (rows_of_demand ss d ++ rest) ≡ true
once_in_demand d [] rest h other e = e
once_in_demand d (s ∷ ss) rest h other e = elim (overlap d s == 0) as (λ b. no_two same_pair ((if not b then row_of d s ∷ rows_of_demand ss d else rows_of_demand ss d) ++ rest) ≡ true) [
  | true ↦ once_in_demand d ss rest h.1 other e
  | false ↦
      (λ i. not (any_append (same_pair (row_of d s)) (rows_of_demand ss d) rest (no_other_lot (row_of d s) d ss h.0) (other (row_of d s) refl) i) && once_in_demand d ss rest h.1 other e i)
]

once_rows : (ds ss : List Stretch) → Names ds → Names ss → no_two same_pair (rows_of_stretches ds ss) ≡ true
once_rows [] ss h k = refl
once_rows (d ∷ ds) ss h k =
    once_in_demand d ss (rows_of_stretches ds ss) k (λ r e. no_other_booking r ds ss (ap (λ n. none_has (λ (s : Stretch). s.name) n ds) e ∙ h.0)) (once_rows ds ss h.1 k)

-- no lot stands twice among those that may be shipped
pub shippable_distinct : (first : ℤ) (acts : List Act) (g : List ℕ) → Distinct (λ (k : KnownLot). k.came) (shippable_lots first acts g)
shippable_distinct first acts g =
    distinct_ordered (λ (k : KnownLot). k.came) goes_before (filter (is_shippable first acts) (lots_of acts g))
    (distinct_kept (λ (k : KnownLot). k.came) (is_shippable first acts) (lots_of acts g) (distinct_kept (λ (k : KnownLot). k.came) _ (lots acts) (lots_distinct (lots acts) (lots_numbered acts).falling)))

module _ (first : ℤ) (acts : List Act) (history : IsHistory first acts) (g : List ℕ) where
  pub plan_once : no_two same_pair (plan first acts g) ≡ true
  plan_once =
      once_rows (demands_laid 0 (demands first acts g)) (supplies_laid 0 (supplies first acts g)) (demands_named 0 (demands first acts g) (demands_apart first acts g history))
      (lots_named (supply_of acts (item_postings first acts g)) (λ k. refl) 0 (shippable_lots first acts g) (shippable_distinct first acts g))

  pub plan_some : AllSome (plan first acts g)
  plan_some = some_rows (demands_laid 0 (demands first acts g)) (supplies_laid 0 (supplies first acts g))
