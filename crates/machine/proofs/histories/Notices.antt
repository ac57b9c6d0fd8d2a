-- A recall notice names exactly the bins and the shipments with units of the lot.
use Rattle.machine.proofs.Words.{◌≡◌, ℕ, suc, ◌+◌, ◌≤◌, ◌<◌, Bool, true, false, ◌&&◌, not, List, [], ◌∷◌, ◌++◌, length, refl, ap, sym, ◌∙◌, subst, arith, eq-eqb, ◌==◌, ◌||◌, if◌then◌else◌, filter, map, reverse, None, ℤ, list_any, list_all, eqb-true, reverse-append, same_text, LotId, placed, in_order, Key, NewBin, Command, Bin, Ship, BinUnits, ShippedUnits, ShipmentRow, Act, balance, is_lot, is_shipment, bins, shipments, shipments_after, postings, in_bin, text_before, has_bin_units, has_shipped_units, shipped_units, verdict, IsHistory, IsListing, Traced}
use Rattle.machine.proofs.Numbers.{equal_turned}
use Rattle.machine.proofs.Tests.{same_tests, same_text_is, same_text_refl, same_text_turned, and_both, or_none, not_true}
use Rattle.machine.proofs.histories.Accepted.{bin_accepted}
use Rattle.machine.proofs.Apart.{AreApart, any_found, apart-filter, distinct_names}
use Rattle.machine.proofs.histories.KnownPlaces.{unknown_bin_is_empty, unknown_shipment_is_empty}

-- Tests over a list

any-append : {X : Type 0} (test : X → Bool) (xs ys : List X) → list_any test (xs ++ ys) ≡ list_any test xs || list_any test ys
any-append test [] ys = refl
any-append test (x ∷ xs) ys = ap (λ b. test x || b) (any-append test xs ys) ∙ or_turned (test x) (list_any test xs) (list_any test ys)
  where
    or_turned : (a b c : Bool) → a || (b || c) ≡ (a || b) || c
    or_turned true b c = refl
    or_turned false b c = refl

or_swapped : (a b : Bool) → a || b ≡ b || a
or_swapped true true = refl
or_swapped true false = refl
or_swapped false true = refl
or_swapped false false = refl

any_reversed : {X : Type 0} (test : X → Bool) (xs : List X) → list_any test (reverse xs) ≡ list_any test xs
any_reversed test [] = refl
any_reversed test (x ∷ xs) =
    ap (list_any test) (reverse-append (x ∷ []) xs) ∙ any-append test (reverse xs) (x ∷ []) ∙ (λ i. any_reversed test xs i || plain (test x) i) ∙ or_swapped (list_any test xs) (test x)
  where
    plain : (a : Bool) → a || false ≡ a
    plain true = refl
    plain false = refl

any_placed : {X : Type 0} (before : X → X → Bool) (test : X → Bool) (x : X) (xs : List X) → list_any test (placed before x xs) ≡ test x || list_any test xs
any_placed before test x [] = refl
any_placed before test x (y ∷ ys) =
    elim (before y x) as (λ b. list_any test (if b then y ∷ placed before x ys else x ∷ y ∷ ys) ≡ test x || (test y || list_any test ys)) [
      | true ↦ ap (λ b. test y || b) (any_placed before test x ys) ∙ exchanged (test y) (test x) (list_any test ys)
      | false ↦ refl
    ]
  where
    exchanged : (a b c : Bool) → a || (b || c) ≡ b || (a || c)
    exchanged true true c = refl
    exchanged true false c = refl
    exchanged false true c = refl
    exchanged false false c = refl

any_in_order : {X : Type 0} (before : X → X → Bool) (test : X → Bool) (xs : List X) → list_any test (in_order before xs) ≡ list_any test xs
any_in_order before test [] = refl
any_in_order before test (x ∷ xs) = any_placed before test x (in_order before xs) ∙ ap (λ b. test x || b) (any_in_order before test xs)

all_placed : {X : Type 0} (before : X → X → Bool) (test : X → Bool) (x : X) (xs : List X) → test x ≡ true → list_all test xs ≡ true → list_all test (placed before x xs) ≡ true
all_placed before test x [] e h = λ i. e i && true
all_placed before test x (y ∷ ys) e h =
    let two = and_both (test y) (list_all test ys) h in
    elim (before y x) as (λ b. list_all test (if b then y ∷ placed before x ys else x ∷ y ∷ ys) ≡ true) [
      | true ↦ (λ i. two.0 i && all_placed before test x ys e two.1 i)
      | false ↦ (λ i. e i && h i)
    ]

all_in_order : {X : Type 0} (before : X → X → Bool) (test : X → Bool) (xs : List X) → list_all test xs ≡ true → list_all test (in_order before xs) ≡ true
all_in_order before test [] h = refl
all_in_order before test (x ∷ xs) h =
    let two = and_both (test x) (list_all test xs) h in
    all_placed before test x (in_order before xs) two.0 (all_in_order before test xs two.1)

module _ {X : Type 0} (same : X → X → Bool) (turned : (x y : X) → same x y ≡ same y x) where
  apart_placed : (before : X → X → Bool) (x : X) (xs : List X) → list_any (same x) xs ≡ false → AreApart same xs → AreApart same (placed before x xs)
  apart_placed before x [] e h = (refl, tt)
  apart_placed before x (y ∷ ys) e h =
      let two = or_none (same x y) (list_any (same x) ys) e in
      elim (before y x) as (λ b. AreApart same (if b then y ∷ placed before x ys else x ∷ y ∷ ys)) [
        | true ↦ (any_placed before (same y) x ys ∙ (λ i. (turned y x ∙ two.0) i || h.0 i), apart_placed before x ys two.1 h.1)
        | false ↦ (e, h)
      ]

  apart_in_order : (before : X → X → Bool) (xs : List X) → AreApart same xs → AreApart same (in_order before xs)
  apart_in_order before [] h = tt
  apart_in_order before (x ∷ xs) h = apart_placed before x (in_order before xs) (any_in_order before (same x) xs ∙ h.0) (apart_in_order before xs h.1)

  apart_last : (xs : List X) (x : X) → AreApart same xs → list_any (same x) xs ≡ false → AreApart same (xs ++ x ∷ [])
  apart_last [] x h e = (refl, tt)
  apart_last (y ∷ ys) x h e =
      let two = or_none (same x y) (list_any (same x) ys) e in
      (any-append (same y) ys (x ∷ []) ∙ (λ i. h.0 i || ((turned y x ∙ two.0) i || false)), apart_last ys x h.1 two.1)

  apart_reversed : (xs : List X) → AreApart same xs → AreApart same (reverse xs)
  apart_reversed [] h = tt
  apart_reversed (x ∷ xs) h = subst (AreApart same) (sym (reverse-append (x ∷ []) xs)) (apart_last (reverse xs) x (apart_reversed xs h.1) (any_reversed (same x) xs ∙ h.0))

any_mapped : {X Y : Type 0} (f : X → Y) (test : Y → Bool) (xs : List X) → list_any test (map f xs) ≡ list_any (λ x. test (f x)) xs
any_mapped f test [] = refl
any_mapped f test (x ∷ xs) = ap (λ b. test (f x) || b) (any_mapped f test xs)

apart_mapped : {X Y : Type 0} (f : X → Y) (same : Y → Y → Bool) (xs : List X) → AreApart (λ x y. same (f x) (f y)) xs → AreApart same (map f xs)
apart_mapped f same [] h = tt
apart_mapped f same (x ∷ xs) h = (any_mapped f (same (f x)) xs ∙ h.0, apart_mapped f same xs h.1)

any_kept : {X Y : Type 0} (f : X → Y) (keep test : Y → Bool) (xs : List X) → list_any test (filter keep (map f xs)) ≡ list_any (λ x. keep (f x) && test (f x)) xs
any_kept f keep test [] = refl
any_kept f keep test (x ∷ xs) =
    elim (keep (f x)) as (λ b. list_any test (if b then f x ∷ filter keep (map f xs) else filter keep (map f xs)) ≡ (b && test (f x)) || list_any (λ y. keep (f y) && test (f y)) xs) [
      | true ↦ ap (λ b. test (f x) || b) (any_kept f keep test xs)
      | false ↦ any_kept f keep test xs
    ]

all_kept : {X Y : Type 0} (f : X → Y) (keep test : Y → Bool) → ((x : X) → test (f x) ≡ true) → (xs : List X) → list_all test (filter keep (map f xs)) ≡ true
all_kept f keep test h [] = refl
all_kept f keep test h (x ∷ xs) =
    elim (keep (f x)) as (λ b. list_all test (if b then f x ∷ filter keep (map f xs) else filter keep (map f xs)) ≡ true) [
      | true ↦ (λ i. h x i && all_kept f keep test h xs i)
      | false ↦ all_kept f keep test h xs
    ]

any_gives : {X : Type 0} (test : X → Bool) (r : Bool) → ((x : X) → test x ≡ true → r ≡ true) → (xs : List X) → list_any test xs ≡ true → r ≡ true
any_gives test r h [] e = let f : false ≡ true = e in cc
any_gives test r h (x ∷ xs) e =
    elim (test x) as (λ b. test x ≡ b → b || list_any test xs ≡ true → r ≡ true) [ true ↦ λ t f. h x t | false ↦ λ t f. any_gives test r h xs f ] refl e

found_gives : {X : Type 0} (look test : X → Bool) → ((x : X) → look x ≡ true → test x ≡ true) → (xs : List X) → list_any look xs ≡ true → list_any test xs ≡ true
found_gives look test h [] e = e
found_gives look test h (x ∷ xs) e =
    elim (look x) as (λ b. look x ≡ b → b || list_any look xs ≡ true → test x || list_any test xs ≡ true) [
      | true ↦ λ t f. ap (λ b. b || list_any test xs) (h x t)
      | false ↦ λ t f. or_later (test x) (found_gives look test h xs f)
    ] refl e
  where
    or_later : (a : Bool) {b : Bool} → b ≡ true → a || b ≡ true
    or_later true g = refl
    or_later false g = g

-- A listing of what is known, by a name

module _ {X U K : Type 0} (same : K → K → Bool) (is : (k j : K) → same k j ≡ true → k ≡ j) (own : (k : K) → same k k ≡ true)
    (name_of : X → K) (line : X → U) (name : U → K) (qty : U → ℕ) (named : (x : X) → name (line x) ≡ name_of x)
    (balance_of : K → ℕ) (told : (x : X) → qty (line x) ≡ balance_of (name_of x)) (xs : List X) where
  abbrev some : U → Bool
  some u = not (qty u == 0)

  abbrev all_lines : List U
  all_lines = filter some (map line xs)

  line_is : (k : K) (x : X) → some (line x) && same k (name (line x)) ≡ true → not (balance_of k == 0) ≡ true
  line_is k x e =
      let two = and_both (some (line x)) (same k (name (line x))) e in
      let key : k ≡ name_of x = is k (name (line x)) two.1 ∙ named x in
      (λ i. not (balance_of (key i) == 0)) ∙ (λ i. not (sym (told x) i == 0)) ∙ two.0

  is_line : (k : K) → not (balance_of k == 0) ≡ true → (x : X) → same k (name_of x) ≡ true → some (line x) && same k (name (line x)) ≡ true
  is_line k e x t =
      let key : k ≡ name_of x = is k (name_of x) t in
      let units : some (line x) ≡ true = (λ i. not ((told x ∙ ap balance_of (sym key)) i == 0)) ∙ e in
      (λ i. units i && (ap (same k) (named x) ∙ t) i)

  pub listed_names : (k : K) → (list_any (λ x. same k (name_of x)) xs ≡ false → balance_of k ≡ 0) → list_any (λ u. same k (name u)) all_lines ≡ not (balance_of k == 0)
  listed_names k empty =
      any_kept line some (λ u. same k (name u)) xs
      ∙ same_tests _ _ (any_gives (λ x. some (line x) && same k (name (line x))) (not (balance_of k == 0)) (line_is k) xs)
      (λ e. found_gives (λ x. same k (name_of x)) (λ x. some (line x) && same k (name (line x))) (is_line k e) xs (must_be e))
    where
      must_be : not (balance_of k == 0) ≡ true → list_any (λ x. same k (name_of x)) xs ≡ true
      must_be e = elim (list_any (λ x. same k (name_of x)) xs) as (λ b. list_any (λ x. same k (name_of x)) xs ≡ b → b ≡ true) [
        | true ↦ λ t. refl
        | false ↦ λ t.
            let f : (balance_of k == 0) ≡ true = eq-eqb (balance_of k) 0 (empty t) in
            let g : (balance_of k == 0) ≡ false = not_true (balance_of k == 0) e in
            cc
      ] refl

  pub listed_quantities : list_all (λ u. qty u == balance_of (name u)) all_lines ≡ true
  listed_quantities = all_kept line some (λ u. qty u == balance_of (name u)) (λ x. eq-eqb (qty (line x)) (balance_of (name (line x))) (told x ∙ ap balance_of (sym (named x)))) xs

-- Bins and shipments

abbrev same_bin : NewBin → NewBin → Bool
same_bin a b = same_text a.bin b.bin

bins_apart_after : (first : ℤ) (before : List Act) (key : Key) (c : Command) → verdict first before c ≡ None → AreApart same_bin (bins before) → AreApart same_bin (bins (record { key = key; command = c } ∷ before))
bins_apart_after first before key (Bin b) ok h = (sym (any_found (λ (x : NewBin). same_text b.bin x.bin) (bins before)) ∙ (bin_accepted first before b ok).new, h)
bins_apart_after first before key _ ok h = h

pub bins_apart : (first : ℤ) (acts : List Act) → IsHistory first acts → AreApart same_bin (bins acts)
bins_apart first [] h = (refl, tt)
bins_apart first (act ∷ before) h = bins_apart_after first before act.key act.command h.1.passes (bins_apart first before h.0)

abbrev same_shipment : ShipmentRow → ShipmentRow → Bool
same_shipment s t = s.number == t.number

-- numbers of shipments are at most their count
abbrev NumberedUpTo : ℕ → List ShipmentRow → Type 0
NumberedUpTo n [] = Unit {0}
NumberedUpTo n (s ∷ ss) = (s.number ≤ n) × NumberedUpTo n ss

record AreCounted (ss : List ShipmentRow) : Type 0 where
  low : NumberedUpTo (length ss) ss
  apart : AreApart same_shipment ss

up_to_more : (m n : ℕ) (ss : List ShipmentRow) → m ≤ n → NumberedUpTo m ss → NumberedUpTo n ss
up_to_more m n [] e h = tt
up_to_more m n (s ∷ ss) e h = (omega (arith, h.0), up_to_more m n ss e h.1)

none_has : (n m : ℕ) (ss : List ShipmentRow) → n < m → NumberedUpTo n ss → list_any (λ (s : ShipmentRow). m == s.number) ss ≡ false
none_has n m [] e h = refl
none_has n m (s ∷ ss) e h = λ i. differs i || none_has n m ss e h.1 i
  where
    differs : (m == s.number) ≡ false
    differs = elim (m == s.number) as (λ b. (m == s.number) ≡ b → b ≡ false) [ true ↦ λ t. let z : m ≡ s.number = eqb-true m s.number t in absurd (omega (arith, h.0)) | false ↦ λ t. refl ] refl

counted_after : (first : ℤ) (before : List Act) (c : Command) (ss : List ShipmentRow) → AreCounted ss → AreCounted (shipments_after first before c ss)
counted_after first before (Ship o) ss h = record {
  low = (omega arith, up_to_more (length ss) (suc (length ss)) ss (omega arith) h.low);
  apart = (none_has (length ss) (length ss + 1) ss (omega arith) h.low, h.apart);
}
counted_after first before _ ss h = h

shipments_counted : (first : ℤ) (acts : List Act) → AreCounted (shipments first acts)
shipments_counted first [] = record { low = tt; apart = tt }
shipments_counted first (act ∷ before) = counted_after first before act.command (shipments first before) (shipments_counted first before)

-- no shipment has the number of another
pub shipments_apart : (first : ℤ) (acts : List Act) → AreApart same_shipment (shipments first acts)
shipments_apart first acts = (shipments_counted first acts).apart

module _ (first : ℤ) (acts : List Act) (l : LotId) (history : IsHistory first acts) where
  abbrev bin_line : NewBin → BinUnits
  bin_line b = record { bin = b.bin; qty = in_bin first acts b.bin l }

  abbrev by_name : BinUnits → BinUnits → Bool
  by_name a b = text_before a.bin b.bin

  bins_listed : IsListing same_text (λ u. u.bin) (λ u. u.qty) (λ b. in_bin first acts b l) (in_order by_name (filter has_bin_units (map bin_line (bins acts))))
  bins_listed = record {
    named = λ b.
        any_in_order by_name (λ u. same_text b u.bin) (filter has_bin_units (map bin_line (bins acts)))
        ∙ listed_names same_text same_text_is same_text_refl (λ x. x.bin) bin_line (λ u. u.bin) (λ u. u.qty) (λ x. refl) (λ c. in_bin first acts c l) (λ x. refl) (bins acts) b
        (λ e. unknown_bin_is_empty first acts history b (is_lot l) (any_found (λ (x : NewBin). same_text b x.bin) (bins acts) ∙ e));
    quantities = all_in_order by_name (λ u. u.qty == in_bin first acts u.bin l) (filter has_bin_units (map bin_line (bins acts)))
        (listed_quantities same_text same_text_is same_text_refl (λ x. x.bin) bin_line (λ u. u.bin) (λ u. u.qty) (λ x. refl) (λ c. in_bin first acts c l) (λ x. refl) (bins acts));
    once = distinct_names same_text (λ (u : BinUnits). u.bin) (in_order by_name (filter has_bin_units (map bin_line (bins acts))))
        (apart_in_order (λ u v. same_text u.bin v.bin) (λ u v. same_text_turned u.bin v.bin) by_name (filter has_bin_units (map bin_line (bins acts)))
        (apart-filter (λ u v. same_text u.bin v.bin) has_bin_units (map bin_line (bins acts)) (apart_mapped bin_line (λ u v. same_text u.bin v.bin) (bins acts) (bins_apart first acts history))));
  }

  shipments_listed : IsListing (λ m n. m == n) (λ u. u.number) (λ u. u.qty) (λ n. balance (is_shipment n) (is_lot l) (postings first acts)) (filter has_shipped_units (map (shipped_units first acts l) (reverse (shipments first acts))))
  shipments_listed = record {
    named = λ n.
        listed_names (λ m n. m == n) eqb-true (λ m. eq-eqb m m refl) (λ s. s.number) (shipped_units first acts l) (λ u. u.number) (λ u. u.qty) (λ s. refl)
        (λ n. balance (is_shipment n) (is_lot l) (postings first acts)) (λ s. refl) (reverse (shipments first acts)) n
        (λ e. unknown_shipment_is_empty first acts history n (is_lot l) (any_found (λ (s : ShipmentRow). n == s.number) (shipments first acts) ∙ sym (any_reversed (λ (s : ShipmentRow). n == s.number) (shipments first acts)) ∙ e));
    quantities =
        listed_quantities (λ m n. m == n) eqb-true (λ m. eq-eqb m m refl) (λ s. s.number) (shipped_units first acts l) (λ u. u.number) (λ u. u.qty) (λ s. refl)
        (λ n. balance (is_shipment n) (is_lot l) (postings first acts)) (λ s. refl) (reverse (shipments first acts));
    once = distinct_names (λ m n. m == n) (λ (u : ShippedUnits). u.number) (filter has_shipped_units (map (shipped_units first acts l) (reverse (shipments first acts))))
        (apart-filter (λ u v. u.number == v.number) has_shipped_units (map (shipped_units first acts l) (reverse (shipments first acts)))
        (apart_mapped (shipped_units first acts l) (λ u v. u.number == v.number) (reverse (shipments first acts))
        (apart_reversed same_shipment (λ s t. equal_turned s.number t.number) (shipments first acts) (shipments_apart first acts))));
  }

pub traced : Traced
traced first acts item l history = record { bins = bins_listed first acts l history; shipments = shipments_listed first acts l history }
