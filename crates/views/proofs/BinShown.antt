-- What the rows of a page of the lots in a bin show of them is what the machine shows.
use Rattle.views.proofs.Words.{◌≡◌, ℕ, ◌+◌, true, ◌&&◌, not, List, ap, sym, ◌∙◌, ◌==◌, ℤ, Option, Some, find, map, take, length, option_map, nat_lt, same_text, LotId, BinRow, ItemRow, LotRow, Act, of_item, KnownLot, has_item, lots, today, in_bin, IsHistory, same_text_is, same_text_refl, lots_have_items, least_seen, Rows, PAGE_MAX, page, goes_on, is_behind, goes_before_by_item, lots_by_item, lots_in_bin, item_of, bin_lot, bin_view, bin_lot_told, bin_lot_seen, bin_seen, all_found, known_bin, is_item_in_bin, AreOfBinPage, known_row}
use Rattle.views.proofs.BinPage.{qty_told}
use Rattle.views.proofs.ExpiringShown.{found_of_each, item_there, item_row_is}
use Rattle.views.proofs.FirstInOrder.{page_of_more, goes_on_of_more, take_map}
use Rattle.views.proofs.OpenShown.{of_taken, length_map}
use Rattle.views.proofs.Sorting.{IsIn, of_filter, of_ordered, in_any}
use Rattle.views.proofs.StockTold.{status_told}

module _ (first : ℤ) (acts : List Act) (history : IsHistory first acts) (bin : BinRow) (last : Option KnownLot) (rows : Rows) (are : AreOfBinPage first acts bin.name last rows) where
  abbrev show : KnownLot → LotRow
  show = known_row acts

  abbrev all : List KnownLot
  all = lots_in_bin first acts bin.name last

  on_page : (k : KnownLot) → IsIn k (page all) → (l : LotId) → of_item k.lot.gtin l ≡ true → is_item_in_bin first acts bin.name last l.gtin ≡ true
  on_page k h l e = in_any (λ (m : KnownLot). same_text l.gtin m.lot.gtin) k (page all) h (ap (same_text l.gtin) (same_text_is k.lot.gtin l.gtin e) ∙ same_text_refl l.gtin)

  one_lot : (k : KnownLot) → IsIn k (page all) → bin_lot_seen (today first acts) bin.name rows (show k) ≡ Some (bin_lot first acts bin.name k)
  one_lot k h =
      let g : List ℕ = k.lot.gtin in
      let here : is_item_in_bin first acts bin.name last g ≡ true = on_page k h k.lot (same_text_refl g) in
      let there : IsIn k (lots acts) = of_ordered goes_before_by_item k (lots acts) (of_filter (λ k. is_behind goes_before_by_item last k && not (in_bin first acts bin.name k.lot == 0)) k (lots_by_item acts) (of_taken PAGE_MAX k all h)).0 in
      let known : has_item acts g ≡ true = item_there acts (lots acts) (lots_have_items first acts history) k there in
      let item : find (λ (i : ItemRow). same_text g i.gtin) rows.items ≡ Some (item_of acts g) = are.items.found g here ∙ item_row_is acts g known in
      let qty = qty_told first acts bin.name rows.stock are.stock k.lot in
      let status = status_told first acts history g rows (are.least.found g here) (λ l. is_item_in_bin first acts bin.name last l.gtin) are.recalls (λ l e. on_page k h l e) k (same_text_refl g) in
      ap (option_map (bin_lot_told (today first acts) (least_seen rows.least g) bin.name rows.stock rows.recalls (show k))) item
      ∙ (λ i. Some (record { item = item_of acts g; lot = k.lot.lot; expiry = k.expiry; qty = qty i; status = sym status i }))

  abbrev found : List LotRow
  found = map show (take (PAGE_MAX + 1) all)

  page_is : page found ≡ map show (page all)
  page_is = take_map show PAGE_MAX (take (PAGE_MAX + 1) all) ∙ ap (map show) (page_of_more PAGE_MAX all)

  goes_on_is : goes_on found ≡ goes_on all
  goes_on_is = ap (nat_lt PAGE_MAX) (length_map show (take (PAGE_MAX + 1) all)) ∙ goes_on_of_more PAGE_MAX all

  lots_told : all_found (bin_lot_seen (today first acts) bin.name rows) (page found) ≡ map (bin_lot first acts bin.name) (page all)
  lots_told = ap (all_found (bin_lot_seen (today first acts) bin.name rows)) page_is ∙ found_of_each (bin_lot_seen (today first acts) bin.name rows) show (bin_lot first acts bin.name) (page all) one_lot

  pub bin_shown : bin_seen (length acts) (today first acts) bin rows found ≡ bin_view first acts (known_bin bin) last
  bin_shown = λ i. record { act = length acts; bin = bin.name; kind = bin.kind; lots = lots_told i; more = goes_on_is i }
