-- Holds are decided as the machine decides them.
use Rattle.rules.proofs.Words.{◌≡◌, ℕ, true, false, ◌&&◌, not, List, [], ◌∷◌, refl, ap, sym, ◌∙◌, ℤ, Result, Some, find, option_map, if◌then◌else◌, same_text, LotId, Key, UnknownItem, UnknownLot, LotRecalled, LotHeld, Hold, LotRow, ReservedRow, Act, gathered, is_lot, Holding, hold_in, says_held, is_held, is_recalled, is_expired, least_expiry, first_refusal, judgement, IsHistory, tables_of, lot_row, meta_row, reserved_row, AreRows, IsSlice, applied, tables_but_repeats, changed, lot_seen, none_put, none_dropped, hold_seen, hold_replanned, hold_changes, with_hold, lot_rows_with_hold, lot_put, staged_returned, returned_put, returned_reply, Slice, Change, RuleFault, same_text_refl, same_text_turned, is_lot_refl, is_lot_turned, room_for_acts, MakesUnshippable, order_row_still, line_row_still, shipline_row_still, card_row_still, Rows, rows_after_return}
use Rattle.rules.proofs.rows.AfterRows.{loosened}
use Rattle.rules.proofs.rows.MappedRows.{rows_mapped}
use Rattle.rules.proofs.rows.LotTold.{lot_known_told}
use Rattle.rules.proofs.rows.LotStateTold.{held_told}
use Rattle.rules.proofs.rows.HeldLots.{lot_put_once, held_after, held_at}
use Rattle.rules.proofs.rows.SliceTells.{item_told, recall_told, found_lot}
use Rattle.rules.proofs.rows.SliceSupplies.{slice_tells_supplies, slice_lots, is_wanted}
use Rattle.rules.proofs.rows.DemandsTold.{TellsDemands}
use Rattle.rules.proofs.rows.SuppliesTold.{TellsSupplies}
use Rattle.rules.proofs.rows.TableSteps.{AreNamed, names_changed, reserved_changed}
use Rattle.rules.proofs.rows.replanned.OneItem.{TouchesOnly, replanned, replanned_once}
use Rattle.rules.proofs.rows.ReturnedRows.{returned_once, returned_stock_at, returned_staged_at, demands_after, supplies_after, returned_text}
use Rattle.rules.proofs.rows.DaysAsked.{earliest_told}
use Rattle.rules.proofs.decided.Decisions.{AreRight, IsChange, meta_same}

module _ (first : ℤ) (acts : List Act) (key : Key) (l : LotId) (s : Slice) (slice : IsSlice first (record { key = key; command = Hold l }) acts (tables_of first acts) s) where
  abbrev act : Act
  act = record { key = key; command = Hold l }

  abbrev after : List Act
  after = act ∷ acts

  abbrev g : List ℕ
  g = l.gtin

  touched : same_text g g ≡ true
  touched = same_text_refl g

  named : is_lot l l ≡ true
  named = is_lot_refl l

  hold_judged : IsHistory first acts → first_refusal (hold_seen s l) ≡ first_refusal (judgement first acts (Hold l))
  hold_judged history =
      λ i. first_refusal (
      (not (item_told first acts act s slice refl g touched i), UnknownItem)
      ∷ (not (lot_known_told first acts act s slice refl l named i), UnknownLot)
      ∷ (recall_told first acts act s slice refl l touched refl i, LotRecalled)
      ∷ (held_told first acts act s slice refl history l named i, LotHeld) ∷ [])

  -- The lot is held after it

  held_is : (m : LotId) → is_held after m ≡ (if is_lot m l then true else is_held acts m)
  held_is m = elim (is_lot m l) as (λ b. says_held (if b then Some (record { lot = l; held = true }) else find (λ (w : Holding). is_lot m w.lot) (gathered hold_in acts)) ≡ (if b then true else is_held acts m)) [ true ↦ refl | false ↦ refl ]

  lot_at : (m : LotId) → changed (λ (q : LotRow). is_lot m q.lot) (lot_put l true (lot_seen s l)) [] (lot_row acts m) ≡ lot_row after m
  lot_at = held_at acts after l true refl held_is (lot_seen s l) (sym (found_lot first acts act s slice refl l named))

  makes : MakesUnshippable first acts act l
  makes = record {
    posts = refl;
    itself = λ k e. ap (λ b. not b && not (is_recalled acts k.lot) && not (is_expired (least_expiry first acts k.lot.gtin) k.expiry)) (held_is k.lot ∙ ap (λ t. if t then true else is_held acts k.lot) (is_lot_turned k.lot l ∙ e));
    others = λ k e. ap (λ b. not b && not (is_recalled acts k.lot) && not (is_expired (least_expiry first acts k.lot.gtin) k.expiry)) (held_is k.lot ∙ ap (λ t. if t then true else is_held acts k.lot) (is_lot_turned k.lot l ∙ e));
    same_orders = refl;
    same_cancels = refl;
    same_bins = refl;
  }

  lots_after : AreRows is_lot (λ (k : LotRow). k.lot) (is_wanted (Hold l) s.rows g) (λ m. true) (lot_row after) (lot_rows_with_hold s l true)
  lots_after =
      loosened is_lot (λ (k : LotRow). k.lot) (is_wanted (Hold l) s.rows g) (is_wanted (Hold l) s.rows g) (λ m. true) (λ m. true) (λ m. option_map (with_hold l true) (lot_row acts m)) (lot_row after) (lot_rows_with_hold s l true)
      (λ m e. e) (λ m e. e) (λ m. sym (held_after acts after l true refl held_is m))
      (rows_mapped is_lot (λ (k : LotRow). k.lot) (with_hold l true) (λ k. refl) (is_wanted (Hold l) s.rows g) (λ m. true) (lot_row acts) s.rows.lots (slice_lots first acts act s slice refl g touched))

  abbrev puts : List ReservedRow
  puts = (hold_replanned s l).put

  abbrev drops : List ReservedRow
  drops = (hold_replanned s l).dropped

  abbrev hold_change : Change
  hold_change = record {
    meta = meta_row first after;
    put = record none_put { lots = lot_put l true (lot_seen s l); stock = returned_put s l; reserved = puts };
    dropped = record none_dropped { staged = staged_returned s l; reserved = drops };
    text = returned_reply s l;
  }

  module _ (next : IsHistory first (record { key = key; command = Hold l } ∷ acts)) where
    abbrev rows : Rows
    rows = rows_after_return s l (lot_rows_with_hold s l true) s.rows.recalls

    demands_are : TellsDemands first after g rows
    demands_are = demands_after first acts act l s slice refl named makes next (lot_rows_with_hold s l true) s.rows.recalls

    supplies_are : TellsSupplies first after g rows
    supplies_are = supplies_after first acts act l s slice refl named makes next (lot_rows_with_hold s l true) s.rows.recalls lots_after (slice_tells_supplies first acts act s slice refl g touched).recalls

    only : TouchesOnly first acts act s slice refl next g
    only = record { own = touched; others = λ h e. same_text_turned h g ∙ e }

    are_named : AreNamed first act acts puts drops
    are_named = replanned first acts act s slice refl next g only s.meta.day rows (earliest_told first acts act s slice refl next.0 g only.own) demands_are supplies_are

    hold_step : ((o : List ℕ) (m : LotId) → changed (λ (q : ReservedRow). same_text o q.order && is_lot m q.lot) puts drops (reserved_row first acts o m) ≡ reserved_row first after o m)
        → applied hold_change (tables_of first acts) ≡ tables_but_repeats first act acts
    unfolding applied tables_of
    hold_step reserved_at =
        λ i. record (applied hold_change (tables_of first acts)) {
          lot = λ m. lot_at m i;
          stock = λ m b. returned_stock_at first acts act l s slice refl named makes next m b i;
          order = λ o. order_row_still first acts act l makes next o i;
          line = λ o h. line_row_still first acts act l makes next o h i;
          staged = λ o m. returned_staged_at first acts act l s slice refl named makes next o m i;
          reserved = λ o m. reserved_at o m i;
          shipline = λ n m. shipline_row_still first acts act l makes next n m i;
          card = λ m n. card_row_still first acts act l makes next m n i;
        }

    hold_changed : IsChange first act acts (hold_changes s l)
    hold_changed =
        let room = room_for_acts first acts (Hold l) next.1.passes in
        record {
          applies = (λ i. applied (record hold_change { meta = meta_same first acts act s slice room refl refl i }) (tables_of first acts))
              ∙ hold_step (reserved_changed first act acts puts drops are_named);
          text = returned_text first acts act l s slice refl named makes next room refl;
          once = λ i. lot_put_once l true (lot_seen s l) i && (returned_once s l i && (replanned_once first acts act s slice refl next g only s.meta.day rows (earliest_told first acts act s slice refl next.0 g only.own) demands_are supplies_are i && true));
          named = names_changed first act acts (hold_changes s l) are_named;
        }

pub holds_right : (key : Key) (s : Slice) (result : Result Change RuleFault) (l : LotId) → AreRight key s result (Hold l) (hold_seen s l) (hold_changes s l)
holds_right key s result l first acts history slice = record { judged = hold_judged first acts key l s slice history; changed = λ ok next. hold_changed first acts key l s slice next }
