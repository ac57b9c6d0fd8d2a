-- No more units of a lot are staged for an order than the limit of its item.
use Rattle.rules.proofs.Words.{◌≡◌, ◌≤◌, true, false, ◌&&◌, List, ℕ, refl, arith, ℤ, same_text, LotId, UNITS_MAX, Act, Place, Supplier, InBin, Stage, Shipped, WriteOff, in_house, is_lot, is_stage, postings, staged_of_lot, IsHistory, and_both, same_text_refl, holds_split, legal_history}
use Rattle.rules.proofs.rows.LotUnits.{lot_within_limit}

module _ (first : ℤ) (acts : List Act) (history : IsHistory first acts) (o : List ℕ) (l : LotId) where
  on_stage_house : (p : Place) (m : LotId) → is_stage o p && is_lot l m ≡ true → in_house p && is_lot l m ≡ true
  on_stage_house (Stage q) m e = (and_both (same_text o q) (is_lot l m) e).1
  on_stage_house Supplier m e = e
  on_stage_house WriteOff m e = e
  on_stage_house (InBin b) m e = let f : false ≡ true = e in cc
  on_stage_house (Shipped n q) m e = e

  pub stage_within_limit : staged_of_lot first acts o l ≤ UNITS_MAX
  stage_within_limit =
      let split = holds_split (postings first acts) (legal_history first acts history) (λ p m. is_stage o p && is_lot l m) (λ p m. in_house p && is_lot l m) (record { supplier = λ m. refl; write_off = λ m. refl }) (record { supplier = λ m. refl; write_off = λ m. refl }) on_stage_house in
      omega (arith, split, lot_within_limit first acts history l.gtin l (same_text_refl l.gtin))
