-- Adjustments are decided as the machine decides them.
use Rattle.rules.proofs.Words.{List, ◌∷◌, refl, ℤ, Result, Key, Adjustment, Adjust, Act, IsHistory, tables_of, IsSlice, adjust_seen, adjust_changes, Slice, Change, RuleFault, same_text_refl, is_lot_refl}
use Rattle.rules.proofs.rows.PostedRows.{puts_none}
use Rattle.rules.proofs.decided.Decisions.{AreRight, IsChange}
use Rattle.rules.proofs.decided.counts.AdjustJudged.{adjust_judged}
use Rattle.rules.proofs.decided.counts.Written.{Writes, written_changed}

module _ (first : ℤ) (acts : List Act) (key : Key) (a : Adjustment) (s : Slice) (slice : IsSlice first (record { key = key; command = Adjust a }) acts (tables_of first acts) s)
    (next : IsHistory first (record { key = key; command = Adjust a } ∷ acts)) where
  abbrev act : Act
  act = record { key = key; command = Adjust a }

  adjust_writes : Writes first act acts a.lot a.bin a.change
  adjust_writes = record {
    posts = refl;
    known = record { items = refl; bins = refl; recalls = refl; orders = refl; cancels = refl; shipments = refl; day = refl; asked = refl };
    lots = puts_none acts act refl refl;
    text = refl;
    touched = λ g. refl;
    planned = refl;
    named = same_text_refl a.bin;
    named_lot = is_lot_refl a.lot;
  }

  adjust_changed : IsChange first act acts (adjust_changes s a)
  adjust_changed = written_changed first acts act s slice next a.lot a.bin a.change adjust_writes

pub adjusts_right : (key : Key) (s : Slice) (result : Result Change RuleFault) (a : Adjustment) → AreRight key s result (Adjust a) (adjust_seen s a) (adjust_changes s a)
adjusts_right key s result a first acts history slice = record { judged = adjust_judged first acts key a s slice history; changed = λ ok next. adjust_changed first acts key a s slice next }
