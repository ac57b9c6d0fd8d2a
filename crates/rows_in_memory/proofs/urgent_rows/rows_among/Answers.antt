use Rattle.rows_in_memory.proofs.Words.{List, ℕ, ap, filter, OrderRow, same_items, is_among}
use Rattle.rows_in_memory.proofs.urgent_rows.rows_among.Goals as goal

pub returns : goal.returns
returns c = same_items c.with_own_names.result _ _ c.with_own_names.ensures (ap (λ (names : List (List ℕ)). filter (λ (r : OrderRow). is_among names r.order) c.args.orders.now) c.in_ok-own.ensures)
