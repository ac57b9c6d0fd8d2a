-- The lots in a bin by the rows, in their order, are those of the machine.
use Rattle.views.proofs.Words.{◌≡◌, ℕ, ◌+◌, Bool, true, false, ◌&&◌, not, List, [], ◌∷◌, refl, ap, ◌∙◌, ◌==◌, ◌||◌, ℤ, if◌then◌else◌, Option, Some, map, take, list_any, same_text, LotId, LotRow, StockRow, Act, is_lot, KnownLot, in_bin, stock_row, AreRows, same_cell, and_both, same_text_refl, stock_qty, stock_found, any_qty, PAGE_MAX, is_behind, goes_before_by_item, lots_in_bin, first_by_item, is_in_bin_row, bin_and_more, AreInBin, known_row, IsLotSeenLast}
use Rattle.views.proofs.ByItem.{by_item_order, by_item_either}
use Rattle.views.proofs.FirstInOrder.{take_map}
use Rattle.views.proofs.LotsKept.{behind_same, lots_are}

-- the units of a lot in a bin, where the stock of the bin is read
pub qty_told : (first : ℤ) (acts : List Act) (b : List ℕ) (stock_rows : List StockRow)
    → AreRows same_cell (λ (r : StockRow). (r.lot, r.bin)) (λ k. same_text b k.1) (λ k. true) (λ k. stock_row first acts k.0 k.1) stock_rows → (l : LotId) → stock_qty (stock_found stock_rows l b) ≡ in_bin first acts b l
qty_told first acts b stock_rows are l = ap stock_qty (are.found (l, b) (same_text_refl b)) ∙ any_qty (in_bin first acts b l) l b

-- a lot of which some row is found has one
some_found : (l : LotId) (b : List ℕ) (rows : List StockRow) → not (stock_qty (stock_found rows l b) == 0) ≡ true → list_any (λ (r : StockRow). is_lot l r.lot) rows ≡ true
some_found l b [] e = let f : false ≡ true = e in cc
some_found l b (r ∷ rs) e =
    elim (is_lot l r.lot) as (λ t. not (stock_qty (if t && same_text b r.bin then Some r else stock_found rs l b) == 0) ≡ true → t || list_any (λ (r : StockRow). is_lot l r.lot) rs ≡ true) [
      | true ↦ λ f. refl
      | false ↦ λ f. some_found l b rs f
    ] e

module _ (first : ℤ) (acts : List Act) (b : List ℕ) (last : Option KnownLot) (seen : Option LotRow) (is_seen : IsLotSeenLast acts last seen) (lot_rows : List LotRow) (stock_rows : List StockRow)
    (are : AreInBin first acts b lot_rows stock_rows) where
  abbrev show : KnownLot → LotRow
  show = known_row acts

  abbrev keep : LotRow → Bool
  keep = is_in_bin_row b seen stock_rows

  abbrev wanted : KnownLot → Bool
  wanted k = is_behind goes_before_by_item last k && not (in_bin first acts b k.lot == 0)

  kept_same : (k : KnownLot) → keep (show k) ≡ wanted k
  kept_same k = λ i. behind_same acts first_by_item by_item_order by_item_either last seen is_seen k i && not (qty_told first acts b stock_rows are.stock k.lot i == 0)

  needs : (k : KnownLot) → keep (show k) ≡ true → list_any (λ (r : StockRow). is_lot k.lot r.lot) stock_rows ≡ true
  needs k keeps = some_found k.lot b stock_rows (and_both (is_behind first_by_item seen (show k)) (not (stock_qty (stock_found stock_rows k.lot b) == 0)) keeps).1

  pub bin_page_shown : bin_and_more b seen stock_rows lot_rows ≡ map show (take (PAGE_MAX + 1) (lots_in_bin first acts b last))
  bin_page_shown =
      ap (take (PAGE_MAX + 1)) (lots_are acts first_by_item by_item_order by_item_either (λ l. list_any (λ (r : StockRow). is_lot l r.lot) stock_rows) lot_rows are.lots keep wanted kept_same needs)
      ∙ take_map show (PAGE_MAX + 1) (lots_in_bin first acts b last)
