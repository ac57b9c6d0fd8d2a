-- Moves are decided as the machine decides them.
use Rattle.rules.proofs.Words.{◌≡◌, ◌∷◌, refl, List, ℤ, Result, Key, Movement, Move, ToldInBin, Act, next_number, InBin, IsHistory, tables_of, IsSlice, no_facts, staged_after, move_seen, move_told, move_changes, Slice, Change, RuleFault, same_text, same_text_refl, is_lot_refl, or_first, or_later, room_for_acts}
use Rattle.rules.proofs.decided.Decisions.{AreRight, IsChange, plain_same}
use Rattle.rules.proofs.decided.Posted.{IsOwn, IsPosted, IsPlanned, AreFacts, stays_staged, no_line, posted_once, planned_changed, lots_stay}
use Rattle.rules.proofs.rows.PostedRows.{each_once, puts_none}
use Rattle.rules.proofs.decided.goods.MoveJudged.{move_judged}

module _ (first : ℤ) (acts : List Act) (key : Key) (m : Movement) (s : Slice) (slice : IsSlice first (record { key = key; command = Move m }) acts (tables_of first acts) s)
    (next : IsHistory first (record { key = key; command = Move m } ∷ acts)) where
  abbrev act : Act
  act = record { key = key; command = Move m }

  posted : IsPosted first acts act (move_told m)
  posted =
      posted_once first acts act next m.lot (ToldInBin m.from) (ToldInBin m.to) m.qty refl refl refl
      (record { items = refl; bins = refl; recalls = refl; orders = refl; cancels = refl; shipments = refl; day = refl; asked = refl })

  planned : IsPlanned first acts act m.lot.gtin
  planned = record {
    own = each_once (IsOwn (Move m) m.lot.gtin) (next_number acts) m.lot (InBin m.from) (InBin m.to) m.qty (record {
      of_own = same_text_refl m.lot.gtin;
      lot = is_lot_refl m.lot;
      from_named = or_first (same_text m.from m.from) (same_text m.from m.to) (same_text_refl m.from);
      to_named = or_later (same_text m.to m.from) (same_text m.to m.to) (same_text_refl m.to);
    });
    planned = refl;
    touches = λ h. refl;
  }

  stays : staged_after s (move_told m) ≡ s.rows.staged
  stays = stays_staged m.lot (ToldInBin m.from) (ToldInBin m.to) m.qty s.rows.staged refl refl

  facts : AreFacts first acts act (no_facts s)
  facts = record {
    lots = puts_none acts act refl refl;
    cards = no_line first act acts (next_number acts) m.lot (InBin m.from) (InBin m.to) m.qty refl;
    cards_once = refl;
    text = plain_same first acts act s slice (room_for_acts first acts (Move m) next.1.passes) refl;
  }

  move_changed : IsChange first act acts (move_changes s m)
  move_changed =
      planned_changed first acts act s slice next (move_told m) posted m.lot.gtin planned s.rows.staged stays s.rows.lots (lots_stay first acts act s slice next (move_told m) posted m.lot.gtin planned s.rows.staged stays facts.lots) (no_facts s) facts

pub moves_right : (key : Key) (s : Slice) (result : Result Change RuleFault) (m : Movement) → AreRight key s result (Move m) (move_seen s m) (move_changes s m)
moves_right key s result m first acts history slice = record { judged = move_judged first acts key m s slice; changed = λ ok next. move_changed first acts key m s slice next }
