use Rattle.rules.proofs.Words.{List, ap, ◌∙◌, StockRow, StagedRow, ReservedRow, stock_found, staged_found, reserved_found}
use Rattle.rules.proofs.pick_seen.UnitsSeen.of.Goals as goal

pub returns : goal.returns
returns c =
    let p = c.args.p.now in
    let stock = c.find_row.ensures ∙ ap (λ (rows : List StockRow). stock_found rows p.lot p.bin) c.as_slice.ensures in
    let staged = c.find_row-2.ensures ∙ ap (λ (rows : List StagedRow). staged_found rows p.order p.lot) c.as_slice-2.ensures in
    let reserved = c.find_row-3.ensures ∙ ap (λ (rows : List ReservedRow). reserved_found rows p.order p.lot) c.as_slice-3.ensures in
    λ i. record { in_bin = stock i; staged = staged i; reserved = reserved i }
