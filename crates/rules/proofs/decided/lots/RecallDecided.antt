-- Recalls are decided as the machine decides them.
use Rattle.rules.proofs.Words.{◌≡◌, ℕ, Bool, true, false, ◌&&◌, not, List, [], ◌∷◌, refl, ap, ◌∙◌, ℤ, Result, Option, Some, find, option_map, is_some, if◌then◌else◌, same_text, LotId, Key, UnknownItem, AlreadyRecalled, Recall, LotRow, RecallRow, ReservedRow, Act, next_number, is_lot, of_item, Recalling, recalling, is_held, is_recalled, is_expired, least_expiry, first_refusal, judgement, IsHistory, tables_of, lot_row, recall_row, meta_row, reserved_row, AreRows, IsSlice, applied, tables_but_repeats, changed, none_put, none_dropped, recall_seen, recall_replanned, recall_changes, new_recall_row, recall_rows_after, staged_returned, returned_put, returned_reply, Slice, Change, RuleFault, and_false, same_text_refl, same_text_turned, is_lot_refl, is_lot_turned, room_for_acts, MakesUnshippable, order_row_still, line_row_still, shipline_row_still, card_row_still, Rows, rows_after_return}
use Rattle.rules.proofs.rows.SliceTells.{item_told, recall_told}
use Rattle.rules.proofs.rows.SliceSupplies.{slice_tells_supplies, slice_lots, is_wanted}
use Rattle.rules.proofs.rows.DemandsTold.{TellsDemands}
use Rattle.rules.proofs.rows.SuppliesTold.{TellsSupplies}
use Rattle.rules.proofs.rows.TableSteps.{AreNamed, names_changed, reserved_changed, put_found}
use Rattle.rules.proofs.rows.replanned.OneItem.{TouchesOnly, replanned, replanned_once}
use Rattle.rules.proofs.rows.ReturnedRows.{returned_once, returned_stock_at, returned_staged_at, demands_after, supplies_after, returned_text}
use Rattle.rules.proofs.rows.DaysAsked.{earliest_told}
use Rattle.rules.proofs.decided.Decisions.{AreRight, IsChange, number_same, meta_same}

module _ (first : ℤ) (acts : List Act) (key : Key) (l : LotId) (s : Slice) (slice : IsSlice first (record { key = key; command = Recall l }) acts (tables_of first acts) s) where
  abbrev act : Act
  act = record { key = key; command = Recall l }

  abbrev after : List Act
  after = act ∷ acts

  abbrev g : List ℕ
  g = l.gtin

  touched : same_text g g ≡ true
  touched = same_text_refl g

  named : is_lot l l ≡ true
  named = is_lot_refl l

  recall_judged : first_refusal (recall_seen s l) ≡ first_refusal (judgement first acts (Recall l))
  recall_judged =
      λ i. first_refusal (
      (not (item_told first acts act s slice refl g touched i), UnknownItem)
      ∷ (recall_told first acts act s slice refl l touched refl i, AlreadyRecalled) ∷ [])

  -- The lot is recalled after it

  abbrev shown : Recalling → RecallRow
  shown r = record { lot = r.lot; act = r.act }

  abbrev newest : Recalling
  newest = record { lot = l; act = next_number acts }

  recalled_is : (m : LotId) → is_recalled after m ≡ (if is_lot m l then true else is_recalled acts m)
  recalled_is m = elim (is_lot m l) as (λ b. is_some (if b then Some newest else recalling acts m) ≡ (if b then true else is_recalled acts m)) [ true ↦ refl | false ↦ refl ]

  makes : MakesUnshippable first acts act l
  makes = record {
    posts = refl;
    itself = λ k e.
        ap (λ b. not (is_held acts k.lot) && not b && not (is_expired (least_expiry first acts k.lot.gtin) k.expiry)) (recalled_is k.lot ∙ ap (λ t. if t then true else is_recalled acts k.lot) (is_lot_turned k.lot l ∙ e))
        ∙ ap (λ b. b && not (is_expired (least_expiry first acts k.lot.gtin) k.expiry)) (and_false (not (is_held acts k.lot)));
    others = λ k e. ap (λ b. not (is_held acts k.lot) && not b && not (is_expired (least_expiry first acts k.lot.gtin) k.expiry)) (recalled_is k.lot ∙ ap (λ t. if t then true else is_recalled acts k.lot) (is_lot_turned k.lot l ∙ e));
    same_orders = refl;
    same_cancels = refl;
    same_bins = refl;
  }

  recall_at : (m : LotId) → changed (λ (r : RecallRow). is_lot m r.lot) (shown newest ∷ []) [] (recall_row acts m) ≡ recall_row after m
  recall_at m = put_found shown (is_lot m l) newest (recalling acts m)

  abbrev puts : List ReservedRow
  puts = (recall_replanned s l).put

  abbrev drops : List ReservedRow
  drops = (recall_replanned s l).dropped

  abbrev recall_change : Change
  recall_change = record {
    meta = meta_row first after;
    put = record none_put { recalls = shown newest ∷ []; stock = returned_put s l; reserved = puts };
    dropped = record none_dropped { staged = staged_returned s l; reserved = drops };
    text = returned_reply s l;
  }

  module _ (next : IsHistory first (record { key = key; command = Recall l } ∷ acts)) where
    new_row_is : new_recall_row s l ≡ shown newest
    new_row_is = λ i. record { lot = l; act = number_same first acts act s slice (room_for_acts first acts (Recall l) next.1.passes) i }

    recalls_after : (m : LotId) → of_item g m ≡ true → find (λ (r : RecallRow). is_lot m r.lot) (recall_rows_after s l) ≡ recall_row after m
    recalls_after m e =
        (λ i. if is_lot m l then Some (new_row_is i) else (slice_tells_supplies first acts act s slice refl g touched).recalls m e i)
        ∙ either (is_lot m l) (recalling acts m)
      where
        either : (b : Bool) (rest : Option Recalling) → (if b then Some (shown newest) else option_map shown rest) ≡ option_map shown (if b then Some newest else rest)
        either true rest = refl
        either false rest = refl

    lots_still : AreRows is_lot (λ (r : LotRow). r.lot) (is_wanted (Recall l) s.rows g) (λ m. true) (lot_row after) s.rows.lots
    lots_still = slice_lots first acts act s slice refl g touched

    abbrev rows : Rows
    rows = rows_after_return s l s.rows.lots (recall_rows_after s l)

    demands_are : TellsDemands first after g rows
    demands_are = demands_after first acts act l s slice refl named makes next s.rows.lots (recall_rows_after s l)

    supplies_are : TellsSupplies first after g rows
    supplies_are = supplies_after first acts act l s slice refl named makes next s.rows.lots (recall_rows_after s l) lots_still recalls_after

    only : TouchesOnly first acts act s slice refl next g
    only = record { own = touched; others = λ h e. same_text_turned h g ∙ e }

    are_named : AreNamed first act acts puts drops
    are_named = replanned first acts act s slice refl next g only s.meta.day rows (earliest_told first acts act s slice refl next.0 g only.own) demands_are supplies_are

    recall_step : ((o : List ℕ) (m : LotId) → changed (λ (q : ReservedRow). same_text o q.order && is_lot m q.lot) puts drops (reserved_row first acts o m) ≡ reserved_row first after o m)
        → applied recall_change (tables_of first acts) ≡ tables_but_repeats first act acts
    unfolding applied tables_of
    recall_step reserved_at =
        λ i. record (applied recall_change (tables_of first acts)) {
          recall = λ m. recall_at m i;
          stock = λ m b. returned_stock_at first acts act l s slice refl named makes next m b i;
          order = λ o. order_row_still first acts act l makes next o i;
          line = λ o h. line_row_still first acts act l makes next o h i;
          staged = λ o m. returned_staged_at first acts act l s slice refl named makes next o m i;
          reserved = λ o m. reserved_at o m i;
          shipline = λ n m. shipline_row_still first acts act l makes next n m i;
          card = λ m n. card_row_still first acts act l makes next m n i;
        }

    recall_changed : IsChange first act acts (recall_changes s l)
    recall_changed =
        let room = room_for_acts first acts (Recall l) next.1.passes in
        record {
          applies = (λ i. applied (record recall_change {
            meta = meta_same first acts act s slice room refl refl i;
            put = record none_put { recalls = new_row_is i ∷ []; stock = returned_put s l; reserved = puts };
          }) (tables_of first acts))
              ∙ recall_step (reserved_changed first act acts puts drops are_named);
          text = returned_text first acts act l s slice refl named makes next room refl;
          once = λ i. returned_once s l i && (replanned_once first acts act s slice refl next g only s.meta.day rows (earliest_told first acts act s slice refl next.0 g only.own) demands_are supplies_are i && true);
          named = names_changed first act acts (recall_changes s l) are_named;
        }

pub recalls_right : (key : Key) (s : Slice) (result : Result Change RuleFault) (l : LotId) → AreRight key s result (Recall l) (recall_seen s l) (recall_changes s l)
recalls_right key s result l first acts history slice = record { judged = recall_judged first acts key l s slice; changed = λ ok next. recall_changed first acts key l s slice next }
