-- An adjustment judged by its slice is judged as by the acts.
use Rattle.rules.proofs.Words.{◌≡◌, true, not, List, [], ◌∷◌, refl, nat_lt, ℤ, Key, Adjustment, Adjust, UnknownItem, UnknownBin, UnknownLot, NotInBin, OverUnits, Act, IsHistory, tables_of, is_touched, IsSlice, adjust_seen, first_refusal, judgement, taken_off, Slice, same_text_refl, is_lot_refl}
use Rattle.rules.proofs.rows.SliceTells.{item_told, bin_told}
use Rattle.rules.proofs.rows.LotTold.{lot_known_told, in_bin_told}
use Rattle.rules.proofs.decided.counts.CountJudged.{over_told_change}

module _ (first : ℤ) (acts : List Act) (key : Key) (a : Adjustment) (s : Slice)
    (slice : IsSlice first (record { key = key; command = Adjust a }) acts (tables_of first acts) s) (history : IsHistory first acts) where
  abbrev act : Act
  act = record { key = key; command = Adjust a }

  touched : is_touched first act acts a.lot.gtin ≡ true
  touched = same_text_refl a.lot.gtin

  pub adjust_judged : first_refusal (adjust_seen s a) ≡ first_refusal (judgement first acts (Adjust a))
  adjust_judged =
      λ i. first_refusal (
      (not (item_told first acts act s slice refl a.lot.gtin touched i), UnknownItem)
      ∷ (not (bin_told first acts act s slice refl a.bin (same_text_refl a.bin) i), UnknownBin)
      ∷ (not (lot_known_told first acts act s slice refl a.lot (is_lot_refl a.lot) i), UnknownLot)
      ∷ (nat_lt (in_bin_told first acts act s slice refl a.bin a.lot touched i) (taken_off a.change), NotInBin)
      ∷ (over_told_change first acts act s slice refl history a.lot.gtin touched a.change i, OverUnits) ∷ [])
