-- Releases are decided as the machine decides them.
use Rattle.rules.proofs.Words.{◌≡◌, ℕ, true, false, not, List, [], ◌∷◌, refl, sym, ℤ, Result, Some, None, find, option_map, if◌then◌else◌, same_text, LotId, Key, UnknownItem, UnknownLot, LotRecalled, LotNotHeld, Release, LotRow, Act, gathered, is_lot, Holding, hold_in, says_held, is_held, first_refusal, judgement, IsHistory, tables_of, lot_row, AreRows, IsSlice, changed, lot_seen, release_seen, release_facts, release_changes, with_hold, lot_rows_with_hold, lot_put, Slice, Change, RuleFault, same_text_refl, is_lot_refl, room_for_acts}
use Rattle.rules.proofs.rows.AfterRows.{loosened}
use Rattle.rules.proofs.rows.MappedRows.{rows_mapped}
use Rattle.rules.proofs.rows.LotTold.{lot_known_told}
use Rattle.rules.proofs.rows.LotStateTold.{held_told}
use Rattle.rules.proofs.rows.HeldLots.{lot_put_once, held_after, held_at}
use Rattle.rules.proofs.rows.SliceTells.{item_told, recall_told, found_lot}
use Rattle.rules.proofs.rows.SliceSupplies.{slice_lots, is_wanted}
use Rattle.rules.proofs.decided.Decisions.{AreRight, IsChange, plain_same}
use Rattle.rules.proofs.decided.Posted.{IsPosted, IsPlanned, AreFacts, planned_changed}

module _ (first : ℤ) (acts : List Act) (key : Key) (l : LotId) (s : Slice) (slice : IsSlice first (record { key = key; command = Release l }) acts (tables_of first acts) s) where
  abbrev act : Act
  act = record { key = key; command = Release l }

  abbrev after : List Act
  after = act ∷ acts

  abbrev g : List ℕ
  g = l.gtin

  touched : same_text g g ≡ true
  touched = same_text_refl g

  release_judged : IsHistory first acts → first_refusal (release_seen s l) ≡ first_refusal (judgement first acts (Release l))
  release_judged history =
      λ i. first_refusal (
      (not (item_told first acts act s slice refl g touched i), UnknownItem)
      ∷ (not (lot_known_told first acts act s slice refl l (is_lot_refl l) i), UnknownLot)
      ∷ (recall_told first acts act s slice refl l touched refl i, LotRecalled)
      ∷ (not (held_told first acts act s slice refl history l (is_lot_refl l) i), LotNotHeld) ∷ [])

  -- The lot is not held after it

  held_is : (m : LotId) → is_held after m ≡ (if is_lot m l then false else is_held acts m)
  held_is m = elim (is_lot m l) as (λ b. says_held (if b then Some (record { lot = l; held = false }) else find (λ (w : Holding). is_lot m w.lot) (gathered hold_in acts)) ≡ (if b then false else is_held acts m)) [ true ↦ refl | false ↦ refl ]

  lot_at : (m : LotId) → changed (λ (q : LotRow). is_lot m q.lot) (lot_put l false (lot_seen s l)) [] (lot_row acts m) ≡ lot_row after m
  lot_at = held_at acts after l false refl held_is (lot_seen s l) (sym (found_lot first acts act s slice refl l (is_lot_refl l)))

  lots_after : AreRows is_lot (λ (k : LotRow). k.lot) (is_wanted (Release l) s.rows g) (λ m. true) (lot_row after) (lot_rows_with_hold s l false)
  lots_after =
      loosened is_lot (λ (k : LotRow). k.lot) (is_wanted (Release l) s.rows g) (is_wanted (Release l) s.rows g) (λ m. true) (λ m. true) (λ m. option_map (with_hold l false) (lot_row acts m)) (lot_row after) (lot_rows_with_hold s l false)
      (λ m e. e) (λ m e. e) (λ m. sym (held_after acts after l false refl held_is m))
      (rows_mapped is_lot (λ (k : LotRow). k.lot) (with_hold l false) (λ k. refl) (is_wanted (Release l) s.rows g) (λ m. true) (lot_row acts) s.rows.lots (slice_lots first acts act s slice refl g touched))

  -- Nothing is posted

  posted : IsPosted first acts act None
  posted = record { posts = refl; home = tt; bins_within = tt; stages_within = tt; known = record { items = refl; bins = refl; recalls = refl; orders = refl; cancels = refl; shipments = refl; day = refl; asked = refl } }

  planned : IsPlanned first acts act g
  planned = record { own = tt; planned = refl; touches = λ h. refl }

  module _ (next : IsHistory first (record { key = key; command = Release l } ∷ acts)) where
    facts : AreFacts first acts act (release_facts s l)
    facts = record {
      lots = record { lots = lot_at; once = lot_put_once l false (lot_seen s l) };
      cards = refl;
      cards_once = refl;
      text = plain_same first acts act s slice (room_for_acts first acts (Release l) next.1.passes) refl;
    }

    release_changed : IsChange first act acts (release_changes s l)
    release_changed = planned_changed first acts act s slice next None posted g planned s.rows.staged refl (lot_rows_with_hold s l false) lots_after (release_facts s l) facts

pub releases_right : (key : Key) (s : Slice) (result : Result Change RuleFault) (l : LotId) → AreRight key s result (Release l) (release_seen s l) (release_changes s l)
releases_right key s result l first acts history slice = record { judged = release_judged first acts key l s slice history; changed = λ ok next. release_changed first acts key l s slice next }
