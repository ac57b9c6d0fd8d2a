use Rattle.slices.proofs.Words.{Vec, Global, ◌≡◌, ◌+◌, ◌<◌, length, take, List, ◌++◌, Ok, sym, ap, subst, ◌∙◌, arith, take_all, LineRow, state, SqliteFailure, OutOfMemory, IsRead, KnowsRows, Learning, AreLinesOfItem, AreLinesOfItems}
use Rattle.slices.proofs.ReadSteps.{has_read, read_on, so_told, fails_later, no_room_left}
use Rattle.slices.proofs.KnowingSteps.{known_step}
use Rattle.slices.proofs.known_orders.lines_of_items.Goals as goal

pub returns-in_err-lines-clause-read : goal.returns-in_err-lines-clause-read
returns-in_err-lines-clause-read g c = fails_later (has_read c.loop-gtin.invariant.1) c.from_residual.ensures c.in_err-lines.ensures.read

pub returns-in_err-extend_from_slice-clause-read : goal.returns-in_err-extend_from_slice-clause-read
returns-in_err-extend_from_slice-clause-read g c = no_room_left (SqliteFailure OutOfMemory) (read_on (has_read c.loop-gtin.invariant.1) c.in_ok-lines.ensures.read) c.from_residual-in_err-extend_from_slice.ensures

pub loop-gtin-preserved : goal.loop-gtin-preserved
loop-gtin-preserved g c =
    let old = state g.S.Store c.args.tx.now.conn.now in
    let mid = state g.S.Store c.loop-gtin.tx.conn.now in
    let new = state g.S.Store c.lines_of_item.new.tx.conn.now in
    let known = c.args.known.now in
    let named = c.args.named.now in
    let gtins = c.args.gtins.now in
    let i = c.loop-gtin.gtin-index in
    let k = c.gtin-item.result in
    let less : i < length gtins = omega arith in
    let step = known_step (λ j t lines. AreLinesOfItem known named t j lines) {X = Vec LineRow Global} (λ v. v.items) (λ t. KnowsRows t c.args.rows.now) (λ t. KnowsRows t c.loop-gtin.rows) (λ t. KnowsRows t c.lines_of_item.new.rows)
    old mid new gtins i k c.loop-gtin.found.items c.in_ok-lines.lines less c.gtin-item.is c.loop-gtin.invariant.1 c.in_ok-lines.ensures.read in
    let grown : c.extend_from_slice.new.self.items ≡ c.loop-gtin.found.items ++ c.in_ok-lines.lines.items = c.in_ok-extend_from_slice.ensures.items ∙ ap (λ l. c.loop-gtin.found.items ++ l) c.as_slice.ensures.value in
    let next : IsRead {X = List LineRow} (Learning c.args.rows.now c.lines_of_item.new.rows (λ t lines. AreLinesOfItems known named (take (i + 1) gtins) t lines)) old new (Ok c.extend_from_slice.new.self.items) =
    subst (λ (xs : List LineRow). IsRead {X = List LineRow} (Learning c.args.rows.now c.lines_of_item.new.rows (λ t lines. AreLinesOfItems known named (take (i + 1) gtins) t lines)) old new (Ok xs)) (sym grown) step in
    (c.in_ok-lines.ensures.same_reference ∙ c.loop-gtin.invariant.0, next)

pub returns-clause-read : goal.returns-clause-read
returns-clause-read g c =
    let all : take c.loop-gtin.gtin-index c.args.gtins.now ≡ c.args.gtins.now = take_all _ c.args.gtins.now c.loop-gtin-test.false in
    so_told {X = List LineRow} (rw all at c.loop-gtin.invariant.1) (λ t h. h)
