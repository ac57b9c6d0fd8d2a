-- Units put back are decided as the machine decides them.
use Rattle.rules.proofs.Words.{List, ◌∷◌, refl, ℤ, Result, Key, Picking, Unpick, Act, next_number, InBin, Stage, IsHistory, tables_of, IsSlice, no_facts, staged_after, unpick_seen, unpick_told, unpick_changes, Slice, Change, RuleFault, same_text_refl, is_lot_refl, room_for_acts}
use Rattle.rules.specs.declared.posting.Place.TheVariants as told
use Rattle.rules.proofs.rows.PostedRows.{each_once, puts_none}
use Rattle.rules.proofs.decided.Decisions.{AreRight, IsChange, plain_same}
use Rattle.rules.proofs.decided.Posted.{IsOwn, IsPosted, IsPlanned, AreFacts, no_line, posted_once, planned_changed, lots_stay}
use Rattle.rules.proofs.decided.picks.UnpickJudged.{unpick_judged}

module _ (first : ℤ) (acts : List Act) (key : Key) (p : Picking) (s : Slice) (slice : IsSlice first (record { key = key; command = Unpick p }) acts (tables_of first acts) s)
    (next : IsHistory first (record { key = key; command = Unpick p } ∷ acts)) where
  abbrev act : Act
  act = record { key = key; command = Unpick p }

  posted : IsPosted first acts act (unpick_told p)
  posted =
      posted_once first acts act next p.lot (told.Stage p.order) (told.InBin p.bin) p.qty refl refl refl
      (record { items = refl; bins = refl; recalls = refl; orders = refl; cancels = refl; shipments = refl; day = refl; asked = refl })

  planned : IsPlanned first acts act p.lot.gtin
  planned = record {
    own = each_once (IsOwn (Unpick p) p.lot.gtin) (next_number acts) p.lot (Stage p.order) (InBin p.bin) p.qty (record {
      of_own = same_text_refl p.lot.gtin;
      lot = is_lot_refl p.lot;
      from_named = refl;
      to_named = same_text_refl p.bin;
    });
    planned = refl;
    touches = λ h. refl;
  }

  facts : AreFacts first acts act (no_facts s)
  facts = record {
    lots = puts_none acts act refl refl;
    cards = no_line first act acts (next_number acts) p.lot (Stage p.order) (InBin p.bin) p.qty refl;
    cards_once = refl;
    text = plain_same first acts act s slice (room_for_acts first acts (Unpick p) next.1.passes) refl;
  }

  unpick_changed : IsChange first act acts (unpick_changes s p)
  unpick_changed =
      planned_changed first acts act s slice next (unpick_told p) posted p.lot.gtin planned (staged_after s (unpick_told p)) refl s.rows.lots (lots_stay first acts act s slice next (unpick_told p) posted p.lot.gtin planned (staged_after s (unpick_told p)) refl facts.lots) (no_facts s) facts

pub unpicks_right : (key : Key) (s : Slice) (result : Result Change RuleFault) (p : Picking) → AreRight key s result (Unpick p) (unpick_seen s p) (unpick_changes s p)
unpicks_right key s result p first acts history slice = record { judged = unpick_judged first acts key p s slice; changed = λ ok next. unpick_changed first acts key p s slice next }
