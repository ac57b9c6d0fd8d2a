-- A move judged by its slice is judged as by the acts.
use Rattle.rules.proofs.Words.{◌≡◌, true, not, List, [], ◌∷◌, refl, ◌||◌, nat_lt, ℤ, same_text, Key, Movement, Move, UnknownItem, UnknownBin, UnknownLot, NotInBin, SameBin, Act, tables_of, IsSlice, first_refusal, judgement, move_seen, Slice, same_text_refl, is_lot_refl, or_first, or_later}
use Rattle.rules.proofs.rows.SliceTells.{item_told, bin_told}
use Rattle.rules.proofs.rows.LotTold.{lot_known_told, in_bin_told}

module _ (first : ℤ) (acts : List Act) (key : Key) (m : Movement) (s : Slice) (slice : IsSlice first (record { key = key; command = Move m }) acts (tables_of first acts) s) where
  abbrev act : Act
  act = record { key = key; command = Move m }

  touched : same_text m.lot.gtin m.lot.gtin ≡ true
  touched = same_text_refl m.lot.gtin

  from_named : same_text m.from m.from || same_text m.from m.to ≡ true
  from_named = or_first (same_text m.from m.from) (same_text m.from m.to) (same_text_refl m.from)

  to_named : same_text m.to m.from || same_text m.to m.to ≡ true
  to_named = or_later (same_text m.to m.from) (same_text m.to m.to) (same_text_refl m.to)

  pub move_judged : first_refusal (move_seen s m) ≡ first_refusal (judgement first acts (Move m))
  move_judged =
      λ i. first_refusal (
      (not (item_told first acts act s slice refl m.lot.gtin touched i), UnknownItem)
      ∷ (not (bin_told first acts act s slice refl m.from from_named i), UnknownBin)
      ∷ (not (bin_told first acts act s slice refl m.to to_named i), UnknownBin)
      ∷ (not (lot_known_told first acts act s slice refl m.lot (is_lot_refl m.lot) i), UnknownLot)
      ∷ (nat_lt (in_bin_told first acts act s slice refl m.from m.lot touched i) m.qty, NotInBin)
      ∷ (same_text m.from m.to, SameBin) ∷ [])
