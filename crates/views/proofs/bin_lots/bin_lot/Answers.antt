use Rattle.views.proofs.Words.{◌≡◌, ℕ, List, ap, ◌∙◌, Option, Some, find, option_map, same_text, ItemRow, LeastRow, BinLot, least_seen, status_seen, bin_lot_told}
use Rattle.views.proofs.bin_lots.bin_lot.Goals as goal

pub returns : goal.returns
returns c =
    let a = c.args in
    let rows = a.rows.now in
    let row = a.row.now in
    let gtin : List ℕ = row.lot.gtin in
    let item : ◌≡◌ {A = Option ItemRow} (Some c.in_ok-item.item) (find (λ (i : ItemRow). same_text gtin i.gtin) rows.items) = c.in_ok-item.ensures ∙ ap (find (λ (i : ItemRow). same_text gtin i.gtin)) c.as_slice.ensures in
    let least : c.least_of-least.result ≡ least_seen rows.least gtin = c.least_of-least.ensures ∙ ap (λ (xs : List LeastRow). least_seen xs gtin) c.as_slice-2.ensures in
    let status = c.status_of.ensures ∙ ap (λ (days : ℕ). status_seen a.day days a.recalls.now row) least in
    (λ i. let lot : BinLot = record { item = c.in_ok-item.item; lot = row.lot.lot; expiry = row.expiry; qty = c.units_there.ensures i; status = status i } in Some lot)
    ∙ ap (option_map (bin_lot_told a.day (least_seen rows.least gtin) a.bin.now a.stock.now a.recalls.now row)) item
