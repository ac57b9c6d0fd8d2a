use Rattle.row_rules.proofs.Words.{rules, arith, ◌≡◌, ℕ, get_or, Option, Row, OrderRow, LotRow, named_row, row_given}
use Rattle.row_rules.proofs.Naming.{naming_all, naming_more}
use Rattle.row_rules.proofs.plans.name_rows.Goals as goal

pub loop-row-preserved : goal.loop-row-preserved
loop-row-preserved c =
    let a = c.args in
    let l = c.loop-row in
    let order : ℕ → Option OrderRow = row_given (λ o. o.act) a.orders.now in
    let lot : ℕ → Option LotRow = row_given (λ k. k.came) a.lots.now in
    let none : Row = record { booking = 0; lot = 0; qty = 0 } in
    let row : Row = get_or a.rows.now l.row-index none in
    let named : c.name_row.result ≡ named_row (order row.booking) (lot row.lot) row.qty = search rules in
    naming_more order lot a.rows.now l.row-index l.named.items none c.push_found.new.rows.items c.name_row.result c.loop-row-test.true l.invariant named c.in_ok-push_found.ensures

pub returns : goal.returns
returns c =
    let a = c.args in
    let l = c.loop-row in
    naming_all (row_given (λ o. o.act) a.orders.now) (row_given (λ k. k.came) a.lots.now) a.rows.now l.row-index l.named.items (omega arith) l.invariant
