-- Bookings of two classes of orders, the urgent ones served first.
use borrow.Author.Tests.{ltb-false, ltb-true, lt-ltb}
use Rattle.machine.proofs.Words.{◌≡◌, ℕ, ◌+◌, ◌≤◌, ◌<◌, Bool, true, false, ◌&&◌, not, List, [], ◌∷◌, ◌++◌, refl, ap, sym, ◌∙◌, subst, arith, eq-eqb, ◌==◌, ◌||◌, if◌then◌else◌, ℤ, filter, map, flat_map, reverse, nat_lt, list_any, AllByRecursion, eqb-true, same_text, OrderLine, total, plan_total, Demand, IsOrder, AllAfter, IsRising, same_non_zero, wanted, Act, Posting, Placed, orders, IsHistory, Booking, booking_of, lines_of_item, need, demand_of, demands, item_postings, is_urgent}
use Rattle.machine.proofs.Tests.{and_false}
use Rattle.machine.proofs.Numbers.{unequal_below, unequal_above}
use Rattle.machine.proofs.Apart.{AreApart}
use Rattle.machine.proofs.histories.Falling.{AllBelow, AreFalling}
use Rattle.machine.proofs.histories.Orders.{AllSingle, orders_single, orders_numbered}
use Rattle.machine.proofs.histories.Bookings.{RisingDemands, AfterDemands, wanted_by, are_lower, map_append, turned, turned_cons, rising_turned, total_append, total_turned, total_flat}

-- Numbers of two classes: an urgent one comes before each other, and within a class the lower one

abbrev pub comes_first : (ℕ → Bool) → ℕ → ℕ → Bool
comes_first u m n = if u m then (if u n then nat_lt m n else true) else (if u n then false else nat_lt m n)

module _ (u : ℕ → Bool) where
  number_below : (a b : ℕ) → nat_lt a b ≡ true → (a == b) ≡ false
  number_below a b h = unequal_below a b (ltb-true a b h)

  number_above : (a b : ℕ) → nat_lt a b ≡ true → (b == a) ≡ false
  number_above a b h = unequal_above a b (ltb-true a b h)

  -- numbers of different classes are different
  classes_differ : (a b : ℕ) (x y : Bool) → u a ≡ x → u b ≡ y → (x ≡ y → ⊥) → (a == b) ≡ false
  classes_differ a b x y e f apart = elim (a == b) as (λ t. (a == b) ≡ t → t ≡ false) [
    | true ↦ λ t. absurd (apart (sym e ∙ ap u (eqb-true a b t) ∙ f))
    | false ↦ λ t. refl
  ] refl

  differ : true ≡ false → ⊥
  differ e = cc

  differ_back : false ≡ true → ⊥
  differ_back e = cc

  first_apart : (a b : ℕ) (x y : Bool) → u a ≡ x → u b ≡ y → (if x then (if y then nat_lt a b else true) else (if y then false else nat_lt a b)) ≡ true → ((a == b) ≡ false) × ((b == a) ≡ false)
  first_apart a b true true e f h = (number_below a b h, number_above a b h)
  first_apart a b true false e f h = (classes_differ a b true false e f differ, classes_differ b a false true f e differ_back)
  first_apart a b false true e f h = let g : false ≡ true = h in cc
  first_apart a b false false e f h = (number_below a b h, number_above a b h)

  later : (a b c : ℕ) → nat_lt a b ≡ true → nat_lt b c ≡ true → nat_lt a c ≡ true
  later a b c h k = further (ltb-true a b h) (ltb-true b c k)
    where
      further : a < b → b < c → nat_lt a c ≡ true
      further h k = lt-ltb a c (omega arith)

  first_further : (a b c : ℕ) (x y z : Bool) → (if x then (if y then nat_lt a b else true) else (if y then false else nat_lt a b)) ≡ true → (if y then (if z then nat_lt b c else true) else (if z then false else nat_lt b c)) ≡ true
      → (if x then (if z then nat_lt a c else true) else (if z then false else nat_lt a c)) ≡ true
  first_further a b c true true true h k = later a b c h k
  first_further a b c true true false h k = refl
  first_further a b c true false true h k = let g : false ≡ true = k in cc
  first_further a b c true false false h k = refl
  first_further a b c false true z h k = let g : false ≡ true = h in cc
  first_further a b c false false true h k = let g : false ≡ true = k in cc
  first_further a b c false false false h k = later a b c h k

  neither : (a b : ℕ) → nat_lt a b ≡ false → nat_lt b a ≡ false → a ≡ b
  neither a b h k = same (ltb-false a b h) (ltb-false b a k)
    where
      same : b ≤ a → a ≤ b → a ≡ b
      same h k = omega arith

  first_one : (a b : ℕ) (x y : Bool) → (if x then (if y then nat_lt a b else true) else (if y then false else nat_lt a b)) ≡ false → (if y then (if x then nat_lt b a else true) else (if x then false else nat_lt b a)) ≡ false → a ≡ b
  first_one a b true true h k = neither a b h k
  first_one a b true false h k = let g : true ≡ false = h in cc
  first_one a b false true h k = let g : true ≡ false = k in cc
  first_one a b false false h k = neither a b h k

  pub classes_order : IsOrder (comes_first u) (λ a b. a == b)
  classes_order = record {
    own = λ a. eq-eqb a a refl;
    apart = λ a b h. (first_apart a b (u a) (u b) refl refl h).0;
    apart_back = λ a b h. (first_apart a b (u a) (u b) refl refl h).1;
    further = λ a b c h k. first_further a b c (u a) (u b) (u c) h k;
    one = λ a b h k. first_one a b (u a) (u b) h k;
  }

  -- Demands of one class that rise by number rise in this order, and behind urgent ones stand the others

  abbrev pub AreServed : List Demand → Type 0
  AreServed ds = IsRising (comes_first u) (λ a b. a == b) (λ (d : Demand). d.booking) (λ d. d.need) ds

  abbrev Behind : ℕ → List Demand → Type 0
  Behind n ds = AllAfter (comes_first u) (λ a b. a == b) (λ (d : Demand). d.booking) (λ d. d.need) n ds

  abbrev pub AllClass : Bool → List Demand → Type 0
  AllClass c ds = AllByRecursion (λ (d : Demand). u d.booking ≡ c) ds

  same_class_first : (c : Bool) (m n : ℕ) → u m ≡ c → u n ≡ c → nat_lt m n ≡ true → comes_first u m n ≡ true
  same_class_first c m n e f h = (λ i. if e i then (if f i then nat_lt m n else true) else (if f i then false else nat_lt m n)) ∙ by_class c
    where
      by_class : (c : Bool) → (if c then (if c then nat_lt m n else true) else (if c then false else nat_lt m n)) ≡ true
      by_class true = h
      by_class false = h

  behind_in_class : (c : Bool) (n : ℕ) (ds : List Demand) → u n ≡ c → AllClass c ds → AfterDemands n ds → Behind n ds
  behind_in_class c n [] e k h = tt
  behind_in_class c n (d ∷ ds) e k h = (same_class_first c n d.booking e k.0 h.0, behind_in_class c n ds e k.1 h.1)

  pub served_in_class : (c : Bool) (ds : List Demand) → AllClass c ds → RisingDemands ds → AreServed ds
  served_in_class c [] k h = tt
  served_in_class c (d ∷ ds) k h = (behind_in_class c d.booking ds k.0 k.1 h.0, served_in_class c ds k.1 h.1)

  others_behind : (n : ℕ) (es : List Demand) → u n ≡ true → AllClass false es → Behind n es
  others_behind n [] e k = tt
  others_behind n (d ∷ es) e k = ((λ i. if e i then (if k.0 i then nat_lt n d.booking else true) else (if k.0 i then false else nat_lt n d.booking)), others_behind n es e k.1)

  behind_both : (n : ℕ) (ds es : List Demand) → Behind n ds → Behind n es → Behind n (ds ++ es)
  behind_both n [] es h k = k
  behind_both n (d ∷ ds) es h k = (h.0, behind_both n ds es h.1 k)

  pub served_both : (ds es : List Demand) → AllClass true ds → AllClass false es → AreServed ds → AreServed es → AreServed (ds ++ es)
  served_both [] es k l h m = m
  served_both (d ∷ ds) es k l h m = (behind_both d.booking ds es h.0 (others_behind d.booking es k.0 l), served_both ds es k.1 l h.1 m)

  none_behind : (n : ℕ) (ds : List Demand) → Behind n ds → list_any (λ (d : Demand). n == d.booking) ds ≡ false
  none_behind n [] h = refl
  none_behind n (d ∷ ds) h = (λ i. (first_apart n d.booking (u n) (u d.booking) refl refl h.0).0 i || none_behind n ds h.1 i)

  pub served_apart : (ds : List Demand) → AreServed ds → AreApart (λ (d e : Demand). d.booking == e.booking) ds
  served_apart [] h = tt
  served_apart (d ∷ ds) h = (none_behind d.booking ds h.0, served_apart ds h.1)

-- The class of an order by its number

module _ (urgent : Placed → Bool) where
  abbrev pub class_in : List Placed → ℕ → Bool
  class_in os n = list_any (λ (p : Placed). urgent p && (p.act == n)) os

  none_numbered : (n : ℕ) (os : List Placed) → AllBelow (λ (p : Placed). p.act) n os → class_in os n ≡ false
  none_numbered n [] h = refl
  none_numbered n (p ∷ os) h = (λ i. (ap (λ b. urgent p && b) (unequal_below p.act n h.0) ∙ and_false (urgent p)) i || none_numbered n os h.1 i)

  classes_behind : (x : Placed) (os ps : List Placed) → AllBelow (λ (p : Placed). p.act) x.act ps → AllByRecursion (λ (p : Placed). class_in os p.act ≡ urgent p) ps → AllByRecursion (λ (p : Placed). class_in (x ∷ os) p.act ≡ urgent p) ps
  classes_behind x os [] h k = tt
  classes_behind x os (p ∷ ps) h k = ((λ i. (ap (λ b. urgent x && b) (unequal_above p.act x.act h.0) ∙ and_false (urgent x)) i || class_in os p.act) ∙ k.0, classes_behind x os ps h.1 k.1)

  pub classes_told : (os : List Placed) → AreFalling (λ (p : Placed). p.act) os → AllByRecursion (λ (p : Placed). class_in os p.act ≡ urgent p) os
  classes_told [] h = tt
  classes_told (x ∷ os) h = (own (urgent x) (x.act == x.act) (class_in os x.act) (eq-eqb x.act x.act refl) (none_numbered x.act os h.0), classes_behind x os os h.0 (classes_told os h.1))
    where
      own : (a b c : Bool) → b ≡ true → c ≡ false → (a && b) || c ≡ a
      own true b c e f = ap (λ t. t || c) e
      own false b c e f = f

  urgent_kept : (u : ℕ → Bool) (os : List Placed) → AllByRecursion (λ (p : Placed). u p.act ≡ urgent p) os → AllByRecursion (λ (p : Placed). u p.act ≡ true) (filter urgent os)
  urgent_kept u [] h = tt
  urgent_kept u (p ∷ os) h = elim (urgent p) as (λ b. urgent p ≡ b → AllByRecursion (λ (p : Placed). u p.act ≡ true) (if b then p ∷ filter urgent os else filter urgent os)) [
    | true ↦ λ e. (h.0 ∙ e, urgent_kept u os h.1)
    | false ↦ λ e. urgent_kept u os h.1
  ] refl

  others_kept : (u : ℕ → Bool) (os : List Placed) → AllByRecursion (λ (p : Placed). u p.act ≡ urgent p) os → AllByRecursion (λ (p : Placed). u p.act ≡ false) (filter (λ p. not (urgent p)) os)
  others_kept u [] h = tt
  others_kept u (p ∷ os) h = elim (urgent p) as (λ b. urgent p ≡ b → AllByRecursion (λ (p : Placed). u p.act ≡ false) (if not b then p ∷ filter (λ p. not (urgent p)) os else filter (λ p. not (urgent p)) os)) [
    | true ↦ λ e. others_kept u os h.1
    | false ↦ λ e. (h.0 ∙ e, others_kept u os h.1)
  ] refl

  below_kept : (keep : Placed → Bool) (n : ℕ) (os : List Placed) → AllBelow (λ (p : Placed). p.act) n os → AllBelow (λ (p : Placed). p.act) n (filter keep os)
  below_kept keep n [] h = tt
  below_kept keep n (p ∷ os) h = elim (keep p) as (λ b. AllBelow (λ (p : Placed). p.act) n (if b then p ∷ filter keep os else filter keep os)) [ true ↦ (h.0, below_kept keep n os h.1) | false ↦ below_kept keep n os h.1 ]

  falling_kept : (keep : Placed → Bool) (os : List Placed) → AreFalling (λ (p : Placed). p.act) os → AreFalling (λ (p : Placed). p.act) (filter keep os)
  falling_kept keep [] h = tt
  falling_kept keep (p ∷ os) h = elim (keep p) as (λ b. AreFalling (λ (p : Placed). p.act) (if b then p ∷ filter keep os else filter keep os)) [ true ↦ (below_kept keep p.act os h.0, falling_kept keep os h.1) | false ↦ falling_kept keep os h.1 ]

  single_kept : (keep : Placed → Bool) (os : List Placed) → AllSingle os → AllSingle (filter keep os)
  single_kept keep [] h = tt
  single_kept keep (p ∷ os) h = elim (keep p) as (λ b. AllSingle (if b then p ∷ filter keep os else filter keep os)) [ true ↦ (h.0, single_kept keep os h.1) | false ↦ single_kept keep os h.1 ]

  -- Bookings of orders of a class are of that class

  -- the bookings of an item: those of urgent orders by act number, then the others by act number
  abbrev pub served : List ℕ → List Placed → List Booking
  served g os = reverse (flat_map (lines_of_item g) (filter urgent os)) ++ reverse (flat_map (lines_of_item g) (filter (λ p. not (urgent p)) os))

  module _ (acts : List Act) (ps : List Posting) (u : ℕ → Bool) (c : Bool) where
    abbrev Booked : List Booking → Type 0
    Booked bs = AllByRecursion (λ (b : Booking). u b.act ≡ c) bs

    booked_both : (bs cs : List Booking) → Booked bs → Booked cs → Booked (bs ++ cs)
    booked_both [] cs h k = k
    booked_both (b ∷ bs) cs h k = (h.0, booked_both bs cs h.1 k)

    lines_booked : (p : Placed) (ls : List OrderLine) → u p.act ≡ c → Booked (map (booking_of p) ls)
    lines_booked p [] e = tt
    lines_booked p (l ∷ ls) e = (e, lines_booked p ls e)

    orders_booked : (g : List ℕ) (os : List Placed) → AllByRecursion (λ (p : Placed). u p.act ≡ c) os → Booked (flat_map (lines_of_item g) os)
    orders_booked g [] h = tt
    orders_booked g (p ∷ os) h = booked_both (lines_of_item g p) (flat_map (lines_of_item g) os) (lines_booked p (filter (λ l. same_text g l.gtin) p.lines) h.0) (orders_booked g os h.1)

    class_both : (ds es : List Demand) → AllClass u c ds → AllClass u c es → AllClass u c (ds ++ es)
    class_both [] es h k = k
    class_both (d ∷ ds) es h k = (h.0, class_both ds es h.1 k)

    class_turned : (bs : List Booking) → Booked bs → AllClass u c (turned acts ps bs)
    class_turned [] h = tt
    class_turned (b ∷ bs) h = subst (AllClass u c) (sym (turned_cons acts ps b bs)) (class_both (turned acts ps bs) (demand_of acts ps b ∷ []) (class_turned bs h.1) (h.0, tt))

  module _ (acts : List Act) (ps : List Posting) (g : List ℕ) (os : List Placed) (single : AllSingle os) (falling : AreFalling (λ (p : Placed). p.act) os) where
    abbrev u : ℕ → Bool
    u = class_in os

    abbrev first_ones : List Placed
    first_ones = filter urgent os

    abbrev last_ones : List Placed
    last_ones = filter (λ p. not (urgent p)) os

    in_two : map (demand_of acts ps) (served g os) ≡ turned acts ps (flat_map (lines_of_item g) first_ones) ++ turned acts ps (flat_map (lines_of_item g) last_ones)
    in_two = map_append (demand_of acts ps) (reverse (flat_map (lines_of_item g) first_ones)) (reverse (flat_map (lines_of_item g) last_ones))

    classes : AllByRecursion (λ (p : Placed). u p.act ≡ urgent p) os
    classes = classes_told os falling

    ones : AllClass u true (turned acts ps (flat_map (lines_of_item g) first_ones))
    ones = class_turned acts ps u true (flat_map (lines_of_item g) first_ones) (orders_booked acts ps u true g first_ones (urgent_kept u os classes))

    -- the demands of the others have numbers of no urgent order
    pub others : AllClass u false (turned acts ps (flat_map (lines_of_item g) last_ones))
    others = class_turned acts ps u false (flat_map (lines_of_item g) last_ones) (orders_booked acts ps u false g last_ones (others_kept u os classes))

    -- the demands rise in the order of service
    pub served_rise : AreServed u (map (demand_of acts ps) (served g os))
    served_rise =
        subst (AreServed u) (sym in_two)
        (served_both u (turned acts ps (flat_map (lines_of_item g) first_ones)) (turned acts ps (flat_map (lines_of_item g) last_ones)) ones others
        (served_in_class u true _ ones (rising_turned acts ps _ (are_lower g first_ones (single_kept urgent os single) (falling_kept urgent os falling))))
        (served_in_class u false _ others (rising_turned acts ps _ (are_lower g last_ones (single_kept (λ p. not (urgent p)) os single) (falling_kept (λ p. not (urgent p)) os falling)))))

    -- and no booking stands twice
    pub bookings_apart : AreApart (λ (d e : Demand). d.booking == e.booking) (map (demand_of acts ps) (served g os))
    bookings_apart = served_apart u (map (demand_of acts ps) (served g os)) served_rise

  module _ (acts : List Act) (ps : List Posting) (g : List ℕ) (os : List Placed) where
    abbrev first_class : List Placed
    first_class = filter urgent os

    abbrev last_class : List Placed
    last_class = filter (λ p. not (urgent p)) os

    two_parts : map (demand_of acts ps) (served g os) ≡ turned acts ps (flat_map (lines_of_item g) first_class) ++ turned acts ps (flat_map (lines_of_item g) last_class)
    two_parts = map_append (demand_of acts ps) (reverse (flat_map (lines_of_item g) first_class)) (reverse (flat_map (lines_of_item g) last_class))

    parted : (f : Placed → ℕ) (qs : List Placed) → total f (filter urgent qs) + total f (filter (λ p. not (urgent p)) qs) ≡ total f qs
    parted f [] = refl
    parted f (q ∷ qs) = elim (urgent q) as (λ b. total f (if b then q ∷ filter urgent qs else filter urgent qs) + total f (if not b then q ∷ filter (λ p. not (urgent p)) qs else filter (λ p. not (urgent p)) qs) ≡ f q + total f qs) [
      | true ↦ omega (arith, parted f qs)
      | false ↦ omega (arith, parted f qs)
    ]

    -- what is wanted under a number, order by order, whatever their class
    pub wanted_in_two : (n : ℕ) → plan_total (λ (d : Demand). if n == d.booking then d.need else 0) (map (demand_of acts ps) (served g os)) ≡ total (λ p. total (λ b. if n == b.act then need acts ps b else 0) (lines_of_item g p)) os
    wanted_in_two n =
        let f : Demand → ℕ = λ (d : Demand). if n == d.booking then d.need else 0 in
        let w : Booking → ℕ = λ (b : Booking). if n == b.act then need acts ps b else 0 in
        let ones = flat_map (lines_of_item g) first_class in
        let others = flat_map (lines_of_item g) last_class in
        ap (plan_total f) two_parts
        ∙ omega (arith, total_append acts ps f (turned acts ps ones) (turned acts ps others), total_turned acts ps f ones, total_turned acts ps f others, total_flat w g first_class, total_flat w g last_class, parted (λ p. total w (lines_of_item g p)) os)

-- The demands of an item

-- whether a number is that of an urgent order
abbrev pub urgent_number : List Act → ℕ → Bool
urgent_number acts = class_in is_urgent (orders acts)

pub demands_rise : (first : ℤ) (acts : List Act) (g : List ℕ) → IsHistory first acts → AreServed (urgent_number acts) (demands first acts g)
demands_rise first acts g history = served_rise is_urgent acts (item_postings first acts g) g (orders acts) (orders_single first acts history) (orders_numbered acts).falling

pub demands_apart : (first : ℤ) (acts : List Act) (g : List ℕ) → IsHistory first acts → AreApart (λ (d e : Demand). d.booking == e.booking) (demands first acts g)
demands_apart first acts g history = bookings_apart is_urgent acts (item_postings first acts g) g (orders acts) (orders_single first acts history) (orders_numbered acts).falling

-- what is wanted under a number, order by order
pub demands_told : (first : ℤ) (acts : List Act) (g : List ℕ) (n : ℕ)
    → wanted_by n (demands first acts g) ≡ total (λ p. total (λ b. if n == b.act then need acts (item_postings first acts g) b else 0) (lines_of_item g p)) (orders acts)
demands_told first acts g n = wanted_in_two is_urgent acts (item_postings first acts g) g (orders acts) n

-- demands in this order that want the same under each number make the same plan
pub same_wanted : (first : ℤ) (acts : List Act) (g : List ℕ) → IsHistory first acts → (ds : List Demand) → AreServed (urgent_number acts) ds
    → ((n : ℕ) → wanted_by n ds ≡ wanted_by n (demands first acts g)) → wanted ds ≡ wanted (demands first acts g)
same_wanted first acts g history ds rise told =
    same_non_zero (comes_first (urgent_number acts)) (λ a b. a == b) (λ d. d.booking) (λ d. d.need) (classes_order (urgent_number acts)) (λ c d e f. (λ i. record { booking = e i; need = f i })) ds (demands first acts g) rise (demands_rise first acts g history) told
