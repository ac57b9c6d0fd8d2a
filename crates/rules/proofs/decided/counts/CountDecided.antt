-- Counts are decided as the machine decides them.
use Rattle.rules.proofs.Words.{◌≡◌, ℕ, suc, ◌-◌, true, false, List, ◌∷◌, ◌++◌, refl, ap, sym, subst, ◌∙◌, arith, zero, cond, ltb, min, ℤ, pos, negsuc, ◌-ℤ◌, Result, ltb-false, ltb-true, Key, Recount, Count, Act, next_number, InBin, WriteOff, posting, in_bin, taken_off, put_on, IsHistory, tables_of, IsSlice, in_bin_seen, SIGNED_CAP, found_less, count_seen, count_changes, corrections, Slice, Change, RuleFault, is_lot_refl, same_text_refl}
use Rattle.rules.proofs.rows.LotUnits.{bin_within_limit}
use Rattle.rules.proofs.rows.LotTold.{in_bin_told}
use Rattle.rules.proofs.rows.PostedRows.{puts_none}
use Rattle.rules.proofs.decided.Decisions.{AreRight, IsChange}
use Rattle.rules.proofs.decided.counts.CountJudged.{count_judged}
use Rattle.rules.proofs.decided.counts.Written.{Writes, written_as, written_changed}

-- What a difference puts on and takes off

put_on_less : (a b : ℕ) → put_on (pos a -ℤ pos b) ≡ a - b
put_on_less a zero = omega arith
put_on_less a (suc n) = elim (ltb a (suc n)) as (λ t. ltb a (suc n) ≡ t → put_on (cond t (negsuc (suc n - suc a)) (pos (a - suc n))) ≡ a - suc n) [
  | true ↦ λ e. let h = ltb-true a (suc n) e in omega (arith, h)
  | false ↦ λ e. refl
] refl

taken_off_less : (a b : ℕ) → taken_off (pos a -ℤ pos b) ≡ b - a
taken_off_less a zero = omega arith
taken_off_less a (suc n) = elim (ltb a (suc n)) as (λ t. ltb a (suc n) ≡ t → taken_off (cond t (negsuc (suc n - suc a)) (pos (a - suc n))) ≡ suc n - a) [
  | true ↦ λ e. let h = ltb-true a (suc n) e in omega (arith, h)
  | false ↦ λ e. let h = ltb-false a (suc n) e in omega (arith, h)
] refl

-- Counts

module _ (first : ℤ) (acts : List Act) (key : Key) (c : Recount) (s : Slice) (slice : IsSlice first (record { key = key; command = Count c }) acts (tables_of first acts) s)
    (next : IsHistory first (record { key = key; command = Count c } ∷ acts)) where
  abbrev act : Act
  act = record { key = key; command = Count c }

  abbrev have : ℕ
  have = in_bin first acts c.bin c.lot

  abbrev change : ℤ
  change = pos c.qty -ℤ pos have

  count_writes : Writes first act acts c.lot c.bin change
  count_writes = record {
    posts = (λ i. posting (next_number acts) c.lot WriteOff (InBin c.bin) (sym (put_on_less c.qty have) i) ++ posting (next_number acts) c.lot (InBin c.bin) WriteOff (sym (taken_off_less c.qty have) i)) ∙ sym (written_as (next_number acts) c.lot c.bin change);
    known = record { items = refl; bins = refl; recalls = refl; orders = refl; cancels = refl; shipments = refl; day = refl; asked = refl };
    lots = puts_none acts act refl refl;
    text = refl;
    touched = λ g. refl;
    planned = refl;
    named = same_text_refl c.bin;
    named_lot = is_lot_refl c.lot;
  }

  small : min have SIGNED_CAP ≡ have
  small = omega (arith, bin_within_limit first acts next.0 c.lot.gtin c.lot (same_text_refl c.lot.gtin) c.bin)

  found_same : found_less c.qty (in_bin_seen s c.bin c.lot) ≡ change
  found_same = ap (found_less c.qty) (in_bin_told first acts act s slice refl c.bin c.lot (same_text_refl c.lot.gtin)) ∙ ap (λ n. pos c.qty -ℤ pos n) small

  count_changed : IsChange first act acts (count_changes s c)
  count_changed = subst (λ (z : ℤ). IsChange first act acts (corrections s c.lot c.bin z)) (sym found_same) (written_changed first acts act s slice next c.lot c.bin change count_writes)

pub counts_right : (key : Key) (s : Slice) (result : Result Change RuleFault) (c : Recount) → AreRight key s result (Count c) (count_seen s c) (count_changes s c)
counts_right key s result c first acts history slice = record { judged = count_judged first acts key c s slice history; changed = λ ok next. count_changed first acts key c s slice next }
