-- Units put back judged by their slice are judged as by the acts.
use Rattle.rules.proofs.Words.{◌≡◌, true, not, List, [], ◌∷◌, refl, nat_lt, ℤ, same_text, Key, Picking, Unpick, UnknownItem, UnknownBin, UnknownLot, UnknownOrder, NoSuchLine, OrderClosed, OverStaged, Act, tables_of, IsSlice, first_refusal, judgement, unpick_seen, Slice, same_text_refl, is_lot_refl}
use Rattle.rules.proofs.rows.SliceTells.{item_told, bin_told}
use Rattle.rules.proofs.rows.OrderTold.{order_told, open_told, line_told}
use Rattle.rules.proofs.rows.LotTold.{lot_known_told}
use Rattle.rules.proofs.rows.StageTold.{on_stage_told}

module _ (first : ℤ) (acts : List Act) (key : Key) (p : Picking) (s : Slice) (slice : IsSlice first (record { key = key; command = Unpick p }) acts (tables_of first acts) s) where
  abbrev act : Act
  act = record { key = key; command = Unpick p }

  touched : same_text p.lot.gtin p.lot.gtin ≡ true
  touched = same_text_refl p.lot.gtin

  named : same_text p.order p.order ≡ true
  named = same_text_refl p.order

  in_bin : same_text p.bin p.bin ≡ true
  in_bin = same_text_refl p.bin

  pub unpick_judged : first_refusal (unpick_seen s p) ≡ first_refusal (judgement first acts (Unpick p))
  unpick_judged =
      λ i. first_refusal (
      (not (item_told first acts act s slice refl p.lot.gtin touched i), UnknownItem)
      ∷ (not (bin_told first acts act s slice refl p.bin in_bin i), UnknownBin)
      ∷ (not (lot_known_told first acts act s slice refl p.lot (is_lot_refl p.lot) i), UnknownLot)
      ∷ (not (order_told first acts act s slice p.order named i), UnknownOrder)
      ∷ (not (line_told first acts act s slice p.order named p.lot.gtin refl i), NoSuchLine)
      ∷ (not (open_told first acts act s slice p.order named i), OrderClosed)
      ∷ (nat_lt (on_stage_told first acts act s slice p.order p.lot touched refl i) p.qty, OverStaged) ∷ [])
