-- What is decided of a lot that is held, released or recalled: the conditions judged, and the rows changed.
use Rattle.std.specs.Prelude.{◌+◌, ◌==◌, if◌then◌else◌, ◌∷◌}
use Rattle.rules.specs.Words.{ℕ, Bool, true, false, not, List, [], map, filter, Option, Some, None, LotId, total, UnknownItem, UnknownLot, LotRecalled, LotHeld, LotNotHeld, AlreadyRecalled, HoldBin, BinRow, LotRow, RecallRow, StockRow, StagedRow, Judgement, is_lot, RETURNS, reply_text, Returned, capped, sees_item, lot_seen, sees_recall, number_seen, meta_after, plain_reply, none_put, none_dropped, sees_lot, sees_hold, in_bin_seen, stock_qty, stock_found, stock_put, stock_rows_with, Rows, Slice, Change, Replanned}
use Rattle.rules.specs.declared.changes.Facts.{Facts}
use Rattle.rules.specs.PostedChanges.{bins_changes}
use Rattle.rules.specs.ItemTold.{replanned_to}

-- Lots

-- the row of a lot, held or not if it is this lot's
abbrev pub with_hold : LotId → Bool → LotRow → LotRow
with_hold l held k = record { lot = k.lot; expiry = k.expiry; came = k.came; held = if is_lot l k.lot then held else k.held }

abbrev pub lot_rows_with_hold : Slice → LotId → Bool → List LotRow
lot_rows_with_hold s l held = map (with_hold l held) s.rows.lots

abbrev pub lot_put : LotId → Bool → Option LotRow → List LotRow
lot_put l held None = []
lot_put l held (Some k) = with_hold l held k ∷ []

-- Release

abbrev pub release_seen : Slice → LotId → Judgement
release_seen s l =
    (not (sees_item s l.gtin), UnknownItem)
    ∷ (not (sees_lot s l), UnknownLot)
    ∷ (sees_recall s l, LotRecalled)
    ∷ (not (sees_hold s l), LotNotHeld) ∷ []

abbrev pub release_facts : Slice → LotId → Facts
release_facts s l = record { lots = lot_put l false (lot_seen s l); cards = []; text = plain_reply s }

abbrev pub release_changes : Slice → LotId → Change
release_changes s l = bins_changes s l.gtin None (lot_rows_with_hold s l false) s.rows.stock (release_facts s l)

-- What is staged of a lot goes to RETURNS, which is a HOLD bin

abbrev pub staged_of_seen : Slice → LotId → ℕ
staged_of_seen s l = capped (total (λ r. if is_lot l r.lot then r.qty else 0) s.rows.staged)

abbrev pub staged_kept : Slice → LotId → List StagedRow
staged_kept s l = filter (λ r. not (is_lot l r.lot)) s.rows.staged

abbrev pub staged_returned : Slice → LotId → List StagedRow
staged_returned s l = filter (λ r. is_lot l r.lot) s.rows.staged

-- the units of the lot in RETURNS after it
abbrev pub units_in_returns : Slice → LotId → ℕ
units_in_returns s l = capped (in_bin_seen s RETURNS l + staged_of_seen s l)

-- the units of the lot that are staged, by these rows
abbrev pub staged_among : List StagedRow → LotId → ℕ
staged_among staged l = capped (total (λ r. if is_lot l r.lot then r.qty else 0) staged)

-- the row of the lot in RETURNS, by these rows: no row is put where nothing is staged
abbrev pub row_returned : List StockRow → List StagedRow → LotId → List StockRow
row_returned stock staged l =
    if staged_among staged l == 0 then [] else stock_put l RETURNS (capped (stock_qty (stock_found stock l RETURNS) + staged_among staged l))

abbrev pub returned_put : Slice → LotId → List StockRow
returned_put s l = row_returned s.rows.stock s.rows.staged l

abbrev pub stock_with_returned : Slice → LotId → List StockRow
stock_with_returned s l = stock_rows_with l RETURNS (units_in_returns s l) s.rows.stock

abbrev pub returns_bin_row : BinRow
returns_bin_row = record { name = RETURNS; kind = HoldBin }

abbrev pub bins_with_returns : Slice → List BinRow
bins_with_returns s = returns_bin_row ∷ s.rows.bins

-- the rows after the act, these being the lots and recalls
abbrev pub rows_after_return : Slice → LotId → List LotRow → List RecallRow → Rows
rows_after_return s l lots recalls = record s.rows { staged = staged_kept s l; lots = lots; recalls = recalls; bins = bins_with_returns s; stock = stock_with_returned s l }

-- what changes of the item's reserved rows then
abbrev pub returning_replanned : Slice → LotId → List LotRow → List RecallRow → Replanned
returning_replanned s l lots recalls = replanned_to s s.meta.day (rows_after_return s l lots recalls) l.gtin

abbrev pub returned_reply : Slice → LotId → List ℕ
returned_reply s l = reply_text (number_seen s) (Some (Returned (staged_of_seen s l)))

-- a change by which a lot stops being shippable, with these rows of lots and recalls put and these changes of reserved rows
abbrev pub returning_change : Slice → LotId → List LotRow → List RecallRow → Replanned → Change
returning_change s l lots recalls reserved = record {
  meta = meta_after s;
  put = record none_put { lots = lots; recalls = recalls; stock = returned_put s l; reserved = reserved.put };
  dropped = record none_dropped { staged = staged_returned s l; reserved = reserved.dropped };
  text = returned_reply s l;
}

-- Hold

abbrev pub hold_seen : Slice → LotId → Judgement
hold_seen s l =
    (not (sees_item s l.gtin), UnknownItem)
    ∷ (not (sees_lot s l), UnknownLot)
    ∷ (sees_recall s l, LotRecalled)
    ∷ (sees_hold s l, LotHeld) ∷ []

-- what changes of the item's reserved rows
abbrev pub hold_replanned : Slice → LotId → Replanned
hold_replanned s l = returning_replanned s l (lot_rows_with_hold s l true) s.rows.recalls

abbrev pub hold_changes : Slice → LotId → Change
hold_changes s l = returning_change s l (lot_put l true (lot_seen s l)) [] (hold_replanned s l)

-- Recall. A lot that was never received can be recalled too.

abbrev pub recall_seen : Slice → LotId → Judgement
recall_seen s l =
    (not (sees_item s l.gtin), UnknownItem)
    ∷ (sees_recall s l, AlreadyRecalled) ∷ []

abbrev pub new_recall_row : Slice → LotId → RecallRow
new_recall_row s l = record { lot = l; act = number_seen s }

abbrev pub recall_rows_after : Slice → LotId → List RecallRow
recall_rows_after s l = new_recall_row s l ∷ s.rows.recalls

-- what changes of the item's reserved rows
abbrev pub recall_replanned : Slice → LotId → Replanned
recall_replanned s l = returning_replanned s l s.rows.lots (recall_rows_after s l)

abbrev pub recall_changes : Slice → LotId → Change
recall_changes s l = returning_change s l [] (new_recall_row s l ∷ []) (recall_replanned s l)
