use Rattle.rows_in_memory.proofs.Words.{ap, Rows}
use Rattle.rows_in_memory.proofs.item_rows.of_shipment.Goals as goal

pub returns-clause-no_items : goal.returns-clause-no_items
returns-clause-no_items c = ap (λ (r : Rows). r.items) c.no_rows.ensures

pub returns-clause-no_bins : goal.returns-clause-no_bins
returns-clause-no_bins c = ap (λ (r : Rows). r.bins) c.no_rows.ensures

pub returns-clause-no_lots : goal.returns-clause-no_lots
returns-clause-no_lots c = ap (λ (r : Rows). r.lots) c.no_rows.ensures

pub returns-clause-no_recalls : goal.returns-clause-no_recalls
returns-clause-no_recalls c = ap (λ (r : Rows). r.recalls) c.no_rows.ensures

pub returns-clause-same_stock : goal.returns-clause-same_stock
returns-clause-same_stock c = c.from_vec.ensures

pub returns-clause-same_orders : goal.returns-clause-same_orders
returns-clause-same_orders c = c.from_vec-2.ensures

pub returns-clause-same_lines : goal.returns-clause-same_lines
returns-clause-same_lines c = c.from_vec-3.ensures

pub returns-clause-same_staged : goal.returns-clause-same_staged
returns-clause-same_staged c = c.from_vec-4.ensures

pub returns-clause-no_reserved : goal.returns-clause-no_reserved
returns-clause-no_reserved c = ap (λ (r : Rows). r.reserved) c.no_rows.ensures

pub returns-clause-no_least : goal.returns-clause-no_least
returns-clause-no_least c = ap (λ (r : Rows). r.least) c.no_rows.ensures

pub returns-clause-no_urgents : goal.returns-clause-no_urgents
returns-clause-no_urgents c = ap (λ (r : Rows). r.urgents) c.no_rows.ensures
