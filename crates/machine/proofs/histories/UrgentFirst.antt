-- An urgent order gets what it would get if no others had booked but urgent ones.
use Rattle.machine.proofs.Words.{◌≡◌, ℕ, ◌+◌, Bool, true, false, ◌&&◌, List, [], ◌∷◌, ◌++◌, refl, ap, sym, ◌∙◌, subst, arith, ◌==◌, if◌then◌else◌, ℤ, map, Option, Some, None, find, AllByRecursion, eqb-true, same_text, plan_total as total, Stretch, overlap, demands_laid, supplies_laid, demand_total, plan_rows, reserved_in, Demand, Supply, demands_laid-append, HaveOther, none_of, zero_total, total-append, counted_plan, Act, KnownLot, Placed, orders, order_named, lot_known, is_urgent, is_normal, bookings_of, demand_of, item_postings, supplies, plan, reserved_of, IsHistory, urgent_plan, UrgentOrdersComeFirst}
use Rattle.machine.proofs.histories.Bookings.{map_append}
use Rattle.machine.proofs.histories.Orders.{orders_single, orders_numbered}
use Rattle.machine.proofs.histories.Served.{AllClass, classes_told, urgent_number, others}

-- Later demands take nothing from a booking that is not among them

module _ (b l : ℕ) (ss : List Supply) where
  -- what a stretch of demand of the booking has of the lot
  abbrev supplied : Stretch → ℕ
  supplied e = total (λ t. if (e.name == b) && (t.name == l) then overlap e t else 0) (supplies_laid 0 ss)

  nothing_of_others : (e : Stretch) → (e.name == b) ≡ false → supplied e ≡ 0
  nothing_of_others e h = (λ i. total (λ t. if h i && (t.name == l) then overlap e t else 0) (supplies_laid 0 ss)) ∙ zero_total (supplies_laid 0 ss)

  without_later : (ds es : List Demand) → HaveOther (λ (d : Demand). d.booking) (λ d. d.need) b es → reserved_in b l (plan_rows (ds ++ es) ss) ≡ reserved_in b l (plan_rows ds ss)
  without_later ds es other =
      let rest = none_of (λ (d : Demand). d.booking) (λ d. d.need) supplied b nothing_of_others (0 + demand_total ds) es other in
      counted_plan (λ r. (r.booking == b) && (r.lot == l)) (demands_laid 0 (ds ++ es)) (supplies_laid 0 ss)
      ∙ ap (total supplied) (demands_laid-append 0 ds es)
      ∙ total-append supplied (demands_laid 0 ds) (demands_laid (0 + demand_total ds) es)
      ∙ omega (arith, rest)
      ∙ sym (counted_plan (λ r. (r.booking == b) && (r.lot == l)) (demands_laid 0 ds) (supplies_laid 0 ss))

-- Demands without the number of an urgent order have another number

others_have_other : (u : ℕ → Bool) (n : ℕ) → u n ≡ true → (ds : List Demand) → AllClass u false ds → HaveOther (λ (d : Demand). d.booking) (λ d. d.need) n ds
others_have_other u n e [] h = tt
others_have_other u n e (d ∷ ds) h = (differs, others_have_other u n e ds h.1)
  where
    differs : (d.booking == n) ≡ false
    differs = elim (d.booking == n) as (λ b. (d.booking == n) ≡ b → b ≡ false) [
      | true ↦ λ t. let f : true ≡ false = sym e ∙ ap u (sym (eqb-true d.booking n t)) ∙ h.0 in cc
      | false ↦ λ t. refl
    ] refl

-- what holds of each holds of the one that is found
found_keeps : (P : Placed → Type 0) (test : Placed → Bool) (ps : List Placed) (p : Placed) → AllByRecursion P ps → find test ps ≡ Some p → P p
found_keeps P test [] p h = λ e. absurd cc
found_keeps P test (q ∷ ps) p h =
    elim (test q) as (λ b. (if b then Some q else find test ps) ≡ Some p → P p) [
      | true ↦ λ e. let same : q ≡ p = cc in subst P same h.0
      | false ↦ found_keeps P test ps p h.1
    ]

module _ (first : ℤ) (acts : List Act) (history : IsHistory first acts) (p : Placed) (named : order_named acts p.order ≡ Some p) (urgent : is_urgent p ≡ true) where
  number_is_urgent : urgent_number acts p.act ≡ true
  number_is_urgent =
      found_keeps (λ q. urgent_number acts q.act ≡ is_urgent q) (λ q. same_text p.order q.order) (orders acts) p (classes_told is_urgent (orders acts) (orders_numbered acts).falling) named
      ∙ urgent

  module _ (g : List ℕ) where
    abbrev asked : (Placed → Bool) → List Demand
    asked class = map (demand_of acts (item_postings first acts g)) (bookings_of class acts g)

    others_are_other : HaveOther (λ (d : Demand). d.booking) (λ d. d.need) p.act (asked is_normal)
    others_are_other =
        others_have_other (urgent_number acts) p.act number_is_urgent (asked is_normal)
        (others is_urgent acts (item_postings first acts g) g (orders acts) (orders_single first acts history) (orders_numbered acts).falling)

    same_reserved : (k : Option KnownLot) → reserved_of (Some p) k (plan first acts g) ≡ reserved_of (Some p) k (urgent_plan first acts g)
    same_reserved None = refl
    same_reserved (Some k) =
        ap (λ (ds : List Demand). reserved_in p.act k.came (plan_rows ds (supplies first acts g))) (map_append (demand_of acts (item_postings first acts g)) (bookings_of is_urgent acts g) (bookings_of is_normal acts g))
        ∙ without_later p.act k.came (supplies first acts g) (asked is_urgent) (asked is_normal) others_are_other

pub urgent_orders_come_first : UrgentOrdersComeFirst
urgent_orders_come_first first acts p l history named urgent =
    ap (λ (x : Option Placed). reserved_of x (lot_known acts l) (plan first acts l.gtin)) named
    ∙ same_reserved first acts history p named urgent l.gtin (lot_known acts l)
