use Rattle.rows_in_memory.proofs.item_rows.of_item.Goals as goal

pub returns-clause-same_lots : goal.returns-clause-same_lots
returns-clause-same_lots c = c.from_vec.ensures

pub returns-clause-same_recalls : goal.returns-clause-same_recalls
returns-clause-same_recalls c = c.from_vec-2.ensures

pub returns-clause-same_stock : goal.returns-clause-same_stock
returns-clause-same_stock c = c.from_vec-3.ensures

pub returns-clause-same_staged : goal.returns-clause-same_staged
returns-clause-same_staged c = c.from_vec-4.ensures

pub returns-clause-same_reserved : goal.returns-clause-same_reserved
returns-clause-same_reserved c = c.from_vec-5.ensures

pub returns-clause-same_least : goal.returns-clause-same_least
returns-clause-same_least c = c.from_vec-6.ensures
