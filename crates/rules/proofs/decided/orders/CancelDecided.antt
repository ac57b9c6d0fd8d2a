-- The cancelling of orders is decided as the machine decides it.
use Rattle.rules.proofs.Words.{◌≡◌, ℕ, true, false, List, [], ◌∷◌, refl, ap, ◌∙◌, ℤ, Option, Some, None, Result, option_map, is_some, nat_le, length, same_text, ACTS_MAX, Key, Cancel, OrderRow, Act, Placed, order_named, IsHistory, tables_of, no_two, IsSlice, applied, none_put, none_dropped, plain_reply, is_share_of, order_row_seen, items_seen, cancelled_row, cancel_put, cancel_dropped, cancel_seen, cancel_changes, Slice, Change, RuleFault, same_text_refl, room_for_acts, cancel_accepted, rows_after_cancel, ◌&&◌}
use Rattle.rules.proofs.rows.TableSteps.{AreNamed, names_changed, reserved_changed}
use Rattle.rules.proofs.rows.OrderTold.{found_order_row}
use Rattle.rules.proofs.rows.OrderItems.{items_told, items_apart}
use Rattle.rules.proofs.rows.replanned.EachItem.{items_replanned, items_put_once}
use Rattle.rules.proofs.rows.DaysAsked.{earliest_told}
use Rattle.rules.proofs.decided.Decisions.{AreRight, IsChange, meta_same, plain_same}
use Rattle.rules.proofs.decided.orders.CancelJudged.{cancel_judged}
use Rattle.rules.proofs.decided.orders.CancelStep.{row_of, new_row, cancel_change, cancel_step}
use Rattle.rules.proofs.decided.orders.CancelTells.{demands_after, supplies_after}

module _ (first : ℤ) (acts : List Act) (key : Key) (o : List ℕ) (s : Slice) (slice : IsSlice first (record { key = key; command = Cancel o }) acts (tables_of first acts) s)
    (next : IsHistory first (record { key = key; command = Cancel o } ∷ acts)) where
  abbrev act : Act
  act = record { key = key; command = Cancel o }

  room : nat_le ACTS_MAX (length acts) ≡ false
  room = room_for_acts first acts (Cancel o) next.1.passes

  -- The rows that are reserved after the act

  are_named : AreNamed first act acts (cancel_put s o) (cancel_dropped s o)
  are_named =
      items_replanned (λ (g : List ℕ). g) first acts act s slice refl next (items_seen s o) (items_apart first acts act s slice refl o (same_text_refl o)) (items_told first acts act s slice refl o (same_text_refl o))
      s.meta.day (rows_after_cancel s o) (earliest_told first acts act s slice refl next.0) (demands_after first acts key o s slice) (supplies_after first acts key o s slice)

  put_once : no_two is_share_of (cancel_put s o) ≡ true
  put_once =
      items_put_once (λ (g : List ℕ). g) first acts act s slice refl next (items_seen s o) (items_apart first acts act s slice refl o (same_text_refl o)) (items_told first acts act s slice refl o (same_text_refl o))
      s.meta.day (rows_after_cancel s o) (earliest_told first acts act s slice refl next.0) (demands_after first acts key o s slice) (supplies_after first acts key o s slice)

  module _ (p : Placed) (named : order_named acts o ≡ Some p) where
    -- the order row put is that of the act
    row_is : cancelled_row (order_row_seen s o) ≡ new_row first acts key o p named ∷ []
    row_is = ap cancelled_row (found_order_row first acts act s slice o (same_text_refl o)) ∙ ap (λ x. cancelled_row (option_map (row_of first acts key o) x)) named

    change_same : cancel_changes s o ≡ cancel_change first acts key o p named (plain_reply s) (cancel_put s o) (cancel_dropped s o)
    change_same = λ i. record {
      meta = meta_same first acts act s slice room refl refl i;
      put = record none_put { orders = row_is i; reserved = cancel_put s o };
      dropped = record none_dropped { reserved = cancel_dropped s o };
      text = plain_reply s;
    }

    cancelled : IsChange first act acts (cancel_changes s o)
    cancelled = record {
      applies = ap (λ c. applied c (tables_of first acts)) change_same
          ∙ cancel_step first acts key o p named (plain_reply s) (cancel_put s o) (cancel_dropped s o) (reserved_changed first act acts (cancel_put s o) (cancel_dropped s o) are_named);
      text = plain_same first acts act s slice room refl;
      once = λ i. no_two (λ (r t : OrderRow). same_text r.order t.order) (row_is i) && (put_once i && true);
      named = names_changed first act acts (cancel_changes s o) are_named;
    }

  of_order : (p : Option Placed) → order_named acts o ≡ p → is_some p ≡ true → IsChange first act acts (cancel_changes s o)
  of_order None e known = let f : false ≡ true = known in cc
  of_order (Some p) e known = cancelled p e

  cancel_changed : IsChange first act acts (cancel_changes s o)
  cancel_changed = of_order (order_named acts o) refl (cancel_accepted first acts o next.1.passes).order

pub cancels_right : (key : Key) (s : Slice) (result : Result Change RuleFault) (o : List ℕ) → AreRight key s result (Cancel o) (cancel_seen s o) (cancel_changes s o)
cancels_right key s result o first acts history slice = record { judged = cancel_judged first acts key o s slice history; changed = λ ok next. cancel_changed first acts key o s slice next }
