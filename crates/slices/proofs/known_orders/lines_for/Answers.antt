use Rattle.slices.proofs.Words.{◌≡◌, ◌+◌, ◌<◌, length, take, List, ◌++◌, Ok, sym, ap, subst, ◌∙◌, arith, Option, take_all, LineRow, state, SqliteFailure, OutOfMemory, IsRead, KnowsRows, Learning, listed, AreLinesFor}
use Rattle.slices.proofs.ReadSteps.{has_read, read_on, so_told, fails_later, no_room_left}
use Rattle.slices.proofs.KnowingSteps.{known_step, known_told}
use Rattle.slices.proofs.known_orders.lines_for.Goals as goal

pub returns-in_err-row-clause-read : goal.returns-in_err-row-clause-read
returns-in_err-row-clause-read g c = fails_later (has_read c.loop-order.invariant.1) c.from_residual.ensures c.in_err-row.ensures.read

pub returns-in_err-add_line-clause-read : goal.returns-in_err-add_line-clause-read
returns-in_err-add_line-clause-read g c = no_room_left (SqliteFailure OutOfMemory) (read_on (has_read c.loop-order.invariant.1) c.in_ok-row.ensures.read) c.from_residual-in_err-add_line.ensures

pub loop-order-preserved : goal.loop-order-preserved
loop-order-preserved g c =
    let old = state g.S.Store c.args.tx.now.conn.now in
    let mid = state g.S.Store c.loop-order.tx.conn.now in
    let new = state g.S.Store c.line_known.new.tx.conn.now in
    let orders = c.args.orders.now in
    let item = c.args.gtin.now in
    let i = c.loop-order.order-index in
    let less : i < length orders = omega arith in
    let step = known_step (λ o t lines. lines ≡ listed (t.line o item)) {X = Option LineRow} listed (λ t. KnowsRows t c.args.rows.now) (λ t. KnowsRows t c.loop-order.rows) (λ t. KnowsRows t c.line_known.new.rows)
    old mid new orders i c.order-item.result c.loop-order.found.items c.in_ok-row.row less c.order-item.is c.loop-order.invariant.1 (known_told c.in_ok-row.ensures.read (λ t e. ap listed e)) in
    let grown : c.add_line.new.found.items ≡ c.loop-order.found.items ++ listed c.in_ok-row.row = c.in_ok-add_line.ensures in
    (c.in_ok-row.ensures.same_reference ∙ c.loop-order.invariant.0, subst (λ (xs : List LineRow). IsRead {X = List LineRow} (Learning c.args.rows.now c.line_known.new.rows (λ t lines. AreLinesFor (take (i + 1) orders) t item lines)) old new (Ok xs)) (sym grown) step)

pub returns-clause-read : goal.returns-clause-read
returns-clause-read g c =
    let all : take c.loop-order.order-index c.args.orders.now ≡ c.args.orders.now = take_all _ c.args.orders.now c.loop-order-test.false in
    so_told {X = List LineRow} (rw all at c.loop-order.invariant.1) (λ t h. h)
