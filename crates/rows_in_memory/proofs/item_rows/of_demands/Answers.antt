use Rattle.rows_in_memory.proofs.item_rows.of_demands.Goals as goal

pub returns-clause-same_orders : goal.returns-clause-same_orders
returns-clause-same_orders c = c.from_vec.ensures

pub returns-clause-same_lines : goal.returns-clause-same_lines
returns-clause-same_lines c = c.from_vec-2.ensures

pub returns-clause-same_staged : goal.returns-clause-same_staged
returns-clause-same_staged c = c.from_vec-3.ensures

pub returns-clause-same_reserved : goal.returns-clause-same_reserved
returns-clause-same_reserved c = c.from_vec-4.ensures

pub returns-clause-same_urgents : goal.returns-clause-same_urgents
returns-clause-same_urgents c = c.from_vec-5.ensures
