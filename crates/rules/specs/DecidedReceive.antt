-- What is decided of a receipt: the conditions judged, and the rows changed.
use Rattle.std.specs.Prelude.{◌∷◌, ◌++◌}
use Rattle.rules.specs.Words.{false, not, List, [], Option, Some, None, pos, UnknownItem, UnknownBin, OtherExpiry, LotRecalled, LotExpired, OverUnits, Key, Receipt, ReceiptCard, CardRow, LotRow, StockRow, Judgement, is_expired, delivery_note, sees_item, sees_bin, lot_seen, sees_recall, expires_otherwise_than, is_over, number_seen, plain_reply, lot_units, Slice, Change}
use Rattle.rules.specs.declared.posting.Place.TheVariants.{Supplier, InBin}
use Rattle.rules.specs.declared.posting.Posting.{Posting}
use Rattle.rules.specs.declared.changes.Facts.{Facts}
use Rattle.rules.specs.Told.{told_once}
use Rattle.rules.specs.PostedChanges.{stock_after, bins_changes}

abbrev pub receive_seen : Slice → Receipt → Judgement
receive_seen s r =
    (not (sees_item s r.lot.gtin), UnknownItem)
    ∷ (not (sees_bin s r.bin), UnknownBin)
    ∷ (expires_otherwise_than (lot_seen s r.lot) r.expiry, OtherExpiry)
    ∷ (sees_recall s r.lot, LotRecalled)
    ∷ (is_expired s.meta.day r.expiry, LotExpired)
    ∷ (is_over s r.lot.gtin r.qty, OverUnits) ∷ []

abbrev pub receive_told : Receipt → Option Posting
receive_told r = told_once r.lot Supplier (InBin r.bin) r.qty

abbrev pub lots_if_new : Option LotRow → LotRow → List LotRow
lots_if_new None row = row ∷ []
lots_if_new (Some k) row = []

abbrev pub new_lot_row : Slice → Receipt → LotRow
new_lot_row s r = record { lot = r.lot; expiry = r.expiry; came = number_seen s; held = false }

abbrev pub lots_put : Slice → Receipt → List LotRow
lots_put s r = lots_if_new (lot_seen s r.lot) (new_lot_row s r)

abbrev pub lot_rows_after : Slice → Receipt → List LotRow
lot_rows_after s r = lots_put s r ++ s.rows.lots

-- the card line, where these are the stock rows after it
abbrev pub receive_card : Slice → Key → Receipt → List StockRow → CardRow
receive_card s key r stock = record {
  lot = r.lot;
  act = number_seen s;
  day = s.meta.day;
  kind = ReceiptCard;
  note = delivery_note key;
  qty = pos r.qty;
  rest = lot_units r.lot stock s.rows.staged;
}

abbrev pub receive_facts : Slice → Key → Receipt → List StockRow → Facts
receive_facts s key r stock = record { lots = lots_put s r; cards = receive_card s key r stock ∷ []; text = plain_reply s }

abbrev pub receive_changes : Slice → Key → Receipt → Change
receive_changes s key r =
    let stock = stock_after s (receive_told r) in
    bins_changes s r.lot.gtin (receive_told r) (lot_rows_after s r) stock (receive_facts s key r stock)
