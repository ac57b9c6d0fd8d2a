use Rattle.std.proofs.Common.{sym}
use Rattle.replays.proofs.Starting.{tell_none_first, tell_none_more, tell_here, tell_ends, nothing_more, first_here, first_ends}
use Rattle.replays.proofs.start.start_of.Goals as goal

pub loop-row-init : goal.loop-row-init
loop-row-init c = (tell_none_first, tt)

pub returns-in_default-clause-tell : goal.returns-in_default-clause-tell
returns-in_default-clause-tell c =
    tell_ends c.args.rows.now c.loop-row.row-index c.row-item.result c.loop-row-test.true c.row-item.is c.loop-row.invariant.0 c.in_ok-told.field-0 c.in_ok-told.ensures c.in_default.is

pub returns-in_default-clause-first : goal.returns-in_default-clause-first
returns-in_default-clause-first c =
    first_ends c.args.rows.now c.loop-row.row-index c.row-item.result c.loop-row-test.true c.row-item.is c.loop-row.invariant.1 c.in_ok-told.field-0 c.in_ok-told.ensures c.in_default.is

pub returns-then-is_some-clause-tell : goal.returns-then-is_some-clause-tell
returns-then-is_some-clause-tell c =
    tell_here c.args.rows.now c.loop-row.row-index c.row-item.result c.loop-row-test.true c.row-item.is c.loop-row.invariant.0 c.in_ok-told.field-0 c.in_ok-told.ensures c.in-Some.told c.in-Some.is (sym c.if-is_some.ensures)

pub returns-then-is_some-clause-first : goal.returns-then-is_some-clause-first
returns-then-is_some-clause-first c =
    first_here c.args.rows.now c.loop-row.row-index c.row-item.result c.loop-row-test.true c.row-item.is c.loop-row.invariant.1 c.in_ok-told.field-0 c.in_ok-told.ensures c.in-Some.told c.in-Some.is (sym c.if-is_some.ensures)

pub loop-row-preserved : goal.loop-row-preserved
loop-row-preserved c = (
  tell_none_more c.args.rows.now c.loop-row.row-index c.row-item.result c.loop-row-test.true c.row-item.is c.loop-row.invariant.0 c.in_ok-told.field-0 c.in_ok-told.ensures c.in-Some.told c.in-Some.is (sym c.if-is_some.ensures),
  nothing_more c.args.rows.now c.loop-row.row-index c.row-item.result c.loop-row-test.true c.row-item.is c.loop-row.invariant.1 c.in_ok-told.field-0 c.in_ok-told.ensures c.in-Some.told c.in-Some.is (sym c.if-is_some.ensures),
)
