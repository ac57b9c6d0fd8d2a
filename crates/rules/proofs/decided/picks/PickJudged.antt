-- A picking judged by its slice is judged as by the acts.
use Rattle.rules.proofs.Words.{◌≡◌, true, ◌&&◌, not, List, [], ◌∷◌, refl, ap, ◌∙◌, nat_lt, ℤ, same_text, Key, Picking, Pick, UnknownItem, UnknownBin, UnknownLot, UnknownOrder, NoSuchLine, LotRecalled, LotExpired, TooFewDays, LotHeld, NotStoreBin, OrderClosed, NotInBin, OverReserved, Act, is_lot, lot_known, today, least_days, IsHistory, tables_of, IsSlice, lot_seen, is_past_row, is_below_row, least_seen, first_refusal, judgement, is_past, is_below, pick_seen, Slice, same_text_refl, is_lot_refl}
use Rattle.rules.proofs.decided.Decisions.{day_seen}
use Rattle.rules.proofs.rows.DaysAsked.{days_told}
use Rattle.rules.proofs.rows.SliceTells.{item_told, bin_told, recall_told}
use Rattle.rules.proofs.rows.OrderTold.{order_told, open_told, line_told}
use Rattle.rules.proofs.rows.LotTold.{lot_known_told, own_in_bin_told}
use Rattle.rules.proofs.rows.LotStateTold.{past_told, below_told, held_told, store_told}
use Rattle.rules.proofs.rows.StageTold.{reserved_told}

module _ (first : ℤ) (acts : List Act) (key : Key) (p : Picking) (s : Slice) (slice : IsSlice first (record { key = key; command = Pick p }) acts (tables_of first acts) s) (history : IsHistory first acts) where
  abbrev act : Act
  act = record { key = key; command = Pick p }

  touched : same_text p.lot.gtin p.lot.gtin ≡ true
  touched = same_text_refl p.lot.gtin

  named : same_text p.order p.order ≡ true
  named = same_text_refl p.order

  own : same_text p.order p.order && is_lot p.lot p.lot ≡ true
  own = λ i. named i && is_lot_refl p.lot i

  in_bin : same_text p.bin p.bin ≡ true
  in_bin = same_text_refl p.bin

  in_bin_named : is_lot p.lot p.lot && same_text p.bin p.bin ≡ true
  in_bin_named = λ i. is_lot_refl p.lot i && in_bin i

  past : is_past_row (lot_seen s p.lot) s.meta.day ≡ is_past (lot_known acts p.lot) (today first acts)
  past = past_told first acts act s slice refl p.lot s.meta.day (is_lot_refl p.lot) ∙ ap (is_past (lot_known acts p.lot)) (day_seen first acts act s slice)

  below : is_below_row (lot_seen s p.lot) s.meta.day (least_seen s.rows.least p.lot.gtin) ≡ is_below (lot_known acts p.lot) (today first acts) (least_days acts p.lot.gtin)
  below =
      below_told first acts act s slice refl p.lot s.meta.day (least_seen s.rows.least p.lot.gtin) (is_lot_refl p.lot)
      ∙ (λ i. is_below (lot_known acts p.lot) (day_seen first acts act s slice i) (days_told first acts act s slice refl history p.lot.gtin touched i))

  pub pick_judged : first_refusal (pick_seen s p) ≡ first_refusal (judgement first acts (Pick p))
  pick_judged =
      λ i. first_refusal (
      (not (item_told first acts act s slice refl p.lot.gtin touched i), UnknownItem)
      ∷ (not (bin_told first acts act s slice refl p.bin in_bin i), UnknownBin)
      ∷ (not (lot_known_told first acts act s slice refl p.lot (is_lot_refl p.lot) i), UnknownLot)
      ∷ (not (order_told first acts act s slice p.order named i), UnknownOrder)
      ∷ (not (line_told first acts act s slice p.order named p.lot.gtin touched i), NoSuchLine)
      ∷ (recall_told first acts act s slice refl p.lot touched (is_lot_refl p.lot) i, LotRecalled)
      ∷ (past i, LotExpired)
      ∷ (below i, TooFewDays)
      ∷ (held_told first acts act s slice refl history p.lot (is_lot_refl p.lot) i, LotHeld)
      ∷ (not (store_told first acts act s slice refl p.bin in_bin i), NotStoreBin)
      ∷ (not (open_told first acts act s slice p.order named i), OrderClosed)
      ∷ (nat_lt (own_in_bin_told first acts act s slice p.bin p.lot touched in_bin_named i) p.qty, NotInBin)
      ∷ (nat_lt (reserved_told first acts act s slice p.order p.lot own i) p.qty, OverReserved) ∷ [])
