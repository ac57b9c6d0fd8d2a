use Rattle.rows_in_memory.proofs.Words.{sym, ap, ◌∙◌, Some, None, option_copied}
use Rattle.rows_in_memory.proofs.Lookups.{found_at}
use Rattle.rows_in_memory.proofs.lines.OpenLines.orders_of.Goals as goal

pub returns-in-Some-clause-orders : goal.returns-in-Some-clause-orders
returns-in-Some-clause-orders c =
    c.as_slice.ensures.names
    ∙ found_at c.args.gtin.now c.of_gtin.result c.self.inside.orders.entries c.args.self.now (Some c.in-Some.orders.now) c.self.view_is c.of_gtin.ensures (sym (ap option_copied c.in-Some.is) ∙ c.get.ensures.value)

pub returns-in-None-clause-orders : goal.returns-in-None-clause-orders
returns-in-None-clause-orders c =
    found_at c.args.gtin.now c.of_gtin.result c.self.inside.orders.entries c.args.self.now None c.self.view_is c.of_gtin.ensures (sym (ap option_copied c.in-None.is) ∙ c.get.ensures.value)
