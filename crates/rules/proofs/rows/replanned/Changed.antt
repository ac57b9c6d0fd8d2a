-- An item that an act touches, where the act plans: rows that tell the item's demands and supplies after the act tell, with those of the
-- slice, which of its reserved rows differ. In front of the cut the plan stays, and so do the rows that are reserved; behind it those stay
-- that both plans have.
use Rattle.rules.proofs.Words.{◌≡◌, ℕ, ◌+◌, Bool, true, false, ◌&&◌, not, List, ◌∷◌, ◌++◌, take, drop, refl, ap, sym, subst, ◌∙◌, inl, inr, arith, ◌==◌, ℤ, Option, Some, None, find, ◌⊎◌, list_any, eqb-true, same_text, LotId, ReservedRow, Demand, Supply, Row, plan_rows, rows_from, demand_total, reserved_in, cut_of, plan_parted, kept_rows, cut_of_is_cut, Act, is_lot, of_item, Placed, KnownLot, least_expiry, order_named, lot_known, plan, reserved, reserved_of, IsHistory, tables_of, is_touched, no_two, unequal_above, and_both, same_pair, AllSome, plan_once, plan_some, IsSlice, plans, earliest_seen, plan_within, named_rows, is_share_of, rows_behind, same_row, rows_apart, shares_apart, item_demands, item_supplies, Slice, Rows, demands_in, supplies_in, replanned_to}
use Rattle.rules.proofs.rows.TableSteps.{IsNamed, share_row, nothing_named}
use Rattle.rules.proofs.rows.Differing.{named_of_item, named_elsewhere, put_once}
use Rattle.rules.proofs.rows.ItemsNamed.{AllOf, all_of, kept_of}
use Rattle.rules.proofs.rows.DemandsTold.{TellsDemands}
use Rattle.rules.proofs.rows.SuppliesTold.{TellsSupplies}
use Rattle.rules.proofs.rows.SliceDemands.{slice_tells_demands}
use Rattle.rules.proofs.rows.SliceSupplies.{slice_tells_supplies}
use Rattle.rules.proofs.rows.Planned.{no_shipment}
use Rattle.rules.proofs.rows.DaysAsked.{earliest_told}
use Rattle.rules.proofs.rows.PlanTold.{rows_tell_plan}
use Rattle.rules.proofs.rows.SharesTold.{by_plan, behind_once, behind_told, behind_elsewhere}
use Rattle.rules.proofs.rows.replanned.Known.{numbered_from_one}
use Rattle.rules.proofs.rows.replanned.Pairs.{some_behind, once_behind, reserved_parted, of_parted, of_one_part}
use Rattle.rules.proofs.rows.replanned.Alike.{some_kept, once_kept, none_kept, apart_units}
use Rattle.rules.proofs.rows.replanned.Fronts.{part_same}
use Rattle.rules.proofs.rows.replanned.Behind.{behind_has, behind_are}

module _ (first : ℤ) (acts : List Act) (act : Act) (s : Slice) (slice : IsSlice first act acts (tables_of first acts) s) (planned : plans act.command ≡ true) (next : IsHistory first (act ∷ acts))
    (g : List ℕ) (touched : is_touched first act acts g ≡ true) (day : ℤ) (rows : Rows) (from : earliest_seen day rows.least g ≡ least_expiry first (act ∷ acts) g)
    (demands : TellsDemands first (act ∷ acts) g rows) (supplies : TellsSupplies first (act ∷ acts) g rows) where
  abbrev after : List Act
  after = act ∷ acts

  -- The lists before and after, and the plan of each in two parts

  abbrev ds : List Demand
  ds = item_demands g s.rows.lines s.rows.staged s.rows.urgents s.rows.orders

  abbrev ss : List Supply
  ss = item_supplies g (earliest_seen s.meta.day s.rows.least g) s.rows.recalls s.rows.bins s.rows.stock s.rows.lots

  abbrev es : List Demand
  es = item_demands g rows.lines rows.staged rows.urgents rows.orders

  abbrev ts : List Supply
  ts = item_supplies g (earliest_seen day rows.least g) rows.recalls rows.bins rows.stock rows.lots

  abbrev kept : ℕ
  kept = cut_of ds ss es ts

  abbrev front : List Row
  front = plan_rows (take kept es) ts

  abbrev behind_before : List Row
  behind_before = rows_from (demand_total (take kept ds)) (drop kept ds) ss

  abbrev behind_after : List Row
  behind_after = rows_from (demand_total (take kept es)) (drop kept es) ts

  -- the rows of each behind the cut that are not among the other's
  abbrev all_before : List Row
  all_before = rows_behind kept ds ss

  abbrev all_after : List Row
  all_after = rows_behind kept es ts

  abbrev left_before : List Row
  left_before = rows_apart all_after behind_before

  abbrev left_after : List Row
  left_after = rows_apart all_before behind_after

  wanted : TellsDemands first acts g s.rows
  wanted = slice_tells_demands first acts act s slice planned g touched

  offered : TellsSupplies first acts g s.rows
  offered = slice_tells_supplies first acts act s slice planned g touched

  plan_before : plan_rows ds ss ≡ plan first acts g
  plan_before =
      (λ i. plan_within (demands_in g s.rows) (supplies_in g (earliest_told first acts act s slice (no_shipment act.command planned) next.0 g touched i) s.rows))
      ∙ rows_tell_plan first acts next.0 g s.rows wanted offered

  plan_after : plan_rows es ts ≡ plan first after g
  plan_after =
      (λ i. plan_within (demands_in g rows) (supplies_in g (from i) rows))
      ∙ rows_tell_plan first after next g rows demands supplies

  parted_before : plan first acts g ≡ front ++ behind_before
  parted_before = sym plan_before ∙ plan_parted kept ds ss ∙ ap (λ rows. rows ++ behind_before) (kept_rows ds ss es ts kept (cut_of_is_cut ds ss es ts).front)

  parted_after : plan first after g ≡ front ++ behind_after
  parted_after = sym plan_after ∙ plan_parted kept es ts

  -- Each row behind the cut is some units, none of a pair twice, and reserves nothing that the plan does not

  some_before : AllSome behind_before
  some_before = some_behind front behind_before (subst AllSome parted_before (plan_some first acts next.0 g))

  some_after : AllSome behind_after
  some_after = some_behind front behind_after (subst AllSome parted_after (plan_some first after next g))

  once_before : no_two same_pair behind_before ≡ true
  once_before = once_behind front behind_before (ap (no_two same_pair) (sym parted_before) ∙ plan_once first acts next.0 g)

  once_after : no_two same_pair behind_after ≡ true
  once_after = once_behind front behind_after (ap (no_two same_pair) (sym parted_after) ∙ plan_once first after next g)

  none_in_front : (b k : ℕ) → reserved_in b k (plan first acts g) ≡ 0 → reserved_in b k front ≡ 0
  none_in_front b k none = omega (arith, none, ap (reserved_in b k) parted_before, reserved_parted b k front behind_before)

  none_before : (b k : ℕ) → reserved_in b k (plan first acts g) ≡ 0 → reserved_in b k behind_before ≡ 0
  none_before b k none = omega (arith, none, ap (reserved_in b k) parted_before, reserved_parted b k front behind_before)

  none_later : (b k : ℕ) → reserved_in b k (plan first after g) ≡ 0 → reserved_in b k behind_after ≡ 0
  none_later b k none = omega (arith, none, ap (reserved_in b k) parted_after, reserved_parted b k front behind_after)

  abbrev is_left_before : Row → Bool
  is_left_before r = not (list_any (same_row r) all_after)

  abbrev is_left_after : Row → Bool
  is_left_after r = not (list_any (same_row r) all_before)

  none_left_before : (b k : ℕ) → reserved_in b k (plan first acts g) ≡ 0 → reserved_in b k left_before ≡ 0
  none_left_before b k none = none_kept b k is_left_before behind_before (none_before b k none)

  none_left_after : (b k : ℕ) → reserved_in b k (plan first after g) ≡ 0 → reserved_in b k left_after ≡ 0
  none_left_after b k none = none_kept b k is_left_after behind_after (none_later b k none)

  -- The shares of the rows that are left

  abbrev olds : List ReservedRow
  olds = shares_apart s.rows.orders s.rows.lots all_after all_before

  abbrev news : List ReservedRow
  news = shares_apart rows.orders rows.lots all_before all_after

  abbrev pub puts : List ReservedRow
  puts = (replanned_to s day rows g).put

  abbrev pub drops : List ReservedRow
  drops = (replanned_to s day rows g).dropped

  olds_are : olds ≡ named_rows s.rows.orders s.rows.lots left_before
  olds_are = behind_are first acts s.rows.orders wanted.orders.own s.rows.lots all_after kept ds ss

  news_are : news ≡ named_rows rows.orders rows.lots left_after
  news_are = behind_are first after rows.orders demands.orders.own rows.lots all_before kept es ts

  olds_once : no_two is_share_of olds ≡ true
  olds_once =
      ap (no_two is_share_of) olds_are
      ∙ behind_once first acts next.0 g s.rows wanted.orders.own offered left_before
      (some_kept is_left_before behind_before some_before) (once_kept is_left_before behind_before once_before) none_left_before

  news_once : no_two is_share_of news ≡ true
  news_once =
      ap (no_two is_share_of) news_are
      ∙ behind_once first after next g rows demands.orders.own supplies left_after
      (some_kept is_left_after behind_after some_after) (once_kept is_left_after behind_after once_after) none_left_after

  -- A lot of the item

  module _ (q : List ℕ) (l : LotId) (own : of_item g l ≡ true) where
    abbrev front_units : ℕ
    front_units = reserved_of (order_named acts q) (lot_known acts l) front

    abbrev old_units : ℕ
    old_units = reserved_of (order_named acts q) (lot_known acts l) behind_before

    abbrev new_units : ℕ
    new_units = reserved_of (order_named after q) (lot_known after l) behind_after

    abbrev old_left : ℕ
    old_left = reserved_of (order_named acts q) (lot_known acts l) left_before

    abbrev new_left : ℕ
    new_left = reserved_of (order_named after q) (lot_known after l) left_after

    front_stays : reserved_of (order_named after q) (lot_known after l) front ≡ front_units
    front_stays = part_same first acts act next.1.passes g front none_in_front q l

    behind_stays : reserved_of (order_named after q) (lot_known after l) behind_before ≡ old_units
    behind_stays = part_same first acts act next.1.passes g behind_before none_before q l

    left_stays : reserved_of (order_named after q) (lot_known after l) left_before ≡ old_left
    left_stays = part_same first acts act next.1.passes g left_before none_left_before q l

    before_is : reserved first acts q l ≡ front_units + old_units
    before_is =
        by_plan first acts next.0 g s.rows wanted.orders.own offered q l own (wanted.orders.found q)
        ∙ ap (reserved_of (order_named acts q) (lot_known acts l)) parted_before ∙ of_parted (order_named acts q) (lot_known acts l) front behind_before

    after_is : reserved first after q l ≡ front_units + new_units
    after_is =
        by_plan first after next g rows demands.orders.own supplies q l own (demands.orders.found q)
        ∙ ap (reserved_of (order_named after q) (lot_known after l)) parted_after ∙ of_parted (order_named after q) (lot_known after l) front behind_after
        ∙ ap (λ n. n + new_units) front_stays

    old_found : find (λ (r : ReservedRow). same_text q r.order && is_lot l r.lot) olds ≡ share_row q l old_left
    old_found =
        ap (find (λ (r : ReservedRow). same_text q r.order && is_lot l r.lot)) olds_are
        ∙ behind_told first acts next.0 g s.rows wanted.orders.own offered left_before
        (some_kept is_left_before behind_before some_before) (once_kept is_left_before behind_before once_before) none_left_before q l own (wanted.orders.found q)

    new_found : find (λ (r : ReservedRow). same_text q r.order && is_lot l r.lot) news ≡ share_row q l new_left
    new_found =
        ap (find (λ (r : ReservedRow). same_text q r.order && is_lot l r.lot)) news_are
        ∙ behind_told first after next g rows demands.orders.own supplies left_after
        (some_kept is_left_after behind_after some_after) (once_kept is_left_after behind_after once_after) none_left_after q l own (demands.orders.found q)

    -- all that is reserved behind is left, or nothing, where it is the same before and after
    of_number : (u : Option Placed) (v : Option KnownLot) → order_named after q ≡ u
        → ((reserved_of u v left_before ≡ reserved_of u v behind_before) × (reserved_of u v left_after ≡ reserved_of u v behind_after))
        ⊎ ((reserved_of u v left_before ≡ 0) × (reserved_of u v left_after ≡ 0) × (reserved_of u v behind_before ≡ reserved_of u v behind_after))
    of_number None v e = inl (refl, refl)
    of_number (Some p) None e = inl (refl, refl)
    of_number (Some p) (Some k) e = apart_units p.act k.came all_before all_after behind_before behind_after once_before once_after (λ r t. behind_has r (some_number r t) kept ds ss) (λ r t. behind_has r (some_number r t) kept es ts)
      where
        some_number : (r : Row) → (r.booking == p.act) && (r.lot == k.came) ≡ true → (r.booking == 0) ≡ false
        some_number r t =
            ap (λ n. n == 0) (eqb-true r.booking p.act (and_both (r.booking == p.act) (r.lot == k.came) t).0)
            ∙ unequal_above 0 p.act (omega (arith, numbered_from_one after q p e))

    left_or_same : ((old_left ≡ old_units) × (new_left ≡ new_units)) ⊎ ((old_left ≡ 0) × (new_left ≡ 0) × (old_units ≡ new_units))
    left_or_same = told (of_number (order_named after q) (lot_known after l) refl)
      where
        told : ((reserved_of (order_named after q) (lot_known after l) left_before ≡ reserved_of (order_named after q) (lot_known after l) behind_before) × (new_left ≡ new_units))
            ⊎ ((reserved_of (order_named after q) (lot_known after l) left_before ≡ 0) × (new_left ≡ 0) × (reserved_of (order_named after q) (lot_known after l) behind_before ≡ new_units))
            → ((old_left ≡ old_units) × (new_left ≡ new_units)) ⊎ ((old_left ≡ 0) × (new_left ≡ 0) × (old_units ≡ new_units))
        told (inl (e, f)) = inl (sym left_stays ∙ e ∙ behind_stays, f)
        told (inr (e, f, h)) = inr (sym left_stays ∙ e, f, sym behind_stays ∙ h)

    -- what of it is reserved in front is reserved nowhere behind
    old_apart : (front_units ≡ 0) ⊎ (old_units ≡ 0)
    old_apart = of_one_part (order_named acts q) (lot_known acts l) front behind_before (ap (no_two same_pair) (sym parted_before) ∙ plan_once first acts next.0 g)

    new_apart : (reserved_of (order_named after q) (lot_known after l) front ≡ 0) ⊎ (new_units ≡ 0)
    new_apart = of_one_part (order_named after q) (lot_known after l) front behind_after (ap (no_two same_pair) (sym parted_after) ∙ plan_once first after next g)

    left_named : IsNamed q l old_left new_left puts drops
    left_named = named_of_item q l g old_left new_left olds news own old_found new_found olds_once news_once

    nothing_left : old_left ≡ 0 → new_left ≡ 0 → reserved first acts q l ≡ reserved first after q l → IsNamed q l (reserved first acts q l) (reserved first after q l) puts drops
    nothing_left e f stays =
        let none : IsNamed q l 0 0 puts drops = subst (λ n. IsNamed q l n 0 puts drops) e (subst (λ n. IsNamed q l old_left n puts drops) f left_named) in
        let same = nothing_named q l (reserved first acts q l) (reserved first after q l) (sym stays) in
        record { put = none.put ∙ same.put; dropped = none.dropped ∙ same.dropped }

    -- where all that is reserved behind is left
    module _ (old_all : old_left ≡ old_units) (new_all : new_left ≡ new_units) where
      -- where none of it is reserved in front, what is reserved behind is all
      all_behind : front_units ≡ 0 → IsNamed q l (reserved first acts q l) (reserved first after q l) puts drops
      all_behind e =
          let before : old_left ≡ reserved first acts q l = omega (arith, old_all, before_is, e) in
          let later : new_left ≡ reserved first after q l = omega (arith, new_all, after_is, e) in
          subst (λ n. IsNamed q l n (reserved first after q l) puts drops) before (subst (λ n. IsNamed q l old_left n puts drops) later left_named)

      by_parts : (front_units ≡ 0) ⊎ (old_units ≡ 0) → (reserved_of (order_named after q) (lot_known after l) front ≡ 0) ⊎ (new_units ≡ 0) → IsNamed q l (reserved first acts q l) (reserved first after q l) puts drops
      by_parts (inl e) other = all_behind e
      by_parts (inr e) (inl f) = all_behind (sym front_stays ∙ f)
      by_parts (inr e) (inr f) = nothing_left (old_all ∙ e) (new_all ∙ f) (omega (arith, before_is, after_is, e, f))

    by_left : ((old_left ≡ old_units) × (new_left ≡ new_units)) ⊎ ((old_left ≡ 0) × (new_left ≡ 0) × (old_units ≡ new_units)) → IsNamed q l (reserved first acts q l) (reserved first after q l) puts drops
    by_left (inl (e, f)) = by_parts e f old_apart new_apart
    by_left (inr (e, f, h)) = nothing_left e f (omega (arith, before_is, after_is, h))

    -- its reservations are named where they change
    pub own_named : IsNamed q l (reserved first acts q l) (reserved first after q l) puts drops
    own_named = by_left left_or_same

  -- A lot of another item

  none_after : (q : List ℕ) (l : LotId) → of_item g l ≡ false → find (λ (r : ReservedRow). same_text q r.order && is_lot l r.lot) news ≡ None
  none_after q l other =
      ap (find (λ (r : ReservedRow). same_text q r.order && is_lot l r.lot)) news_are
      ∙ behind_elsewhere first after next g rows demands.orders.own supplies left_after
      (some_kept is_left_after behind_after some_after) (once_kept is_left_after behind_after once_after) none_left_after q l other

  -- of it nothing is named
  pub none_named : (q : List ℕ) (l : LotId) → of_item g l ≡ false → IsNamed q l 0 0 puts drops
  none_named q l other = named_elsewhere q l g 0 0 olds news other refl (none_after q l other)

  pub all_put_of : AllOf g puts
  all_put_of = kept_of g _ news (all_of g news none_after)

  -- no row is put twice
  pub puts_once : no_two is_share_of puts ≡ true
  puts_once = put_once olds news news_once
