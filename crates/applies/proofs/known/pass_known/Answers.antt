use Rattle.applies.proofs.Words.{inl, TakesRow, StopsAt, all_passed, some_passed, stopped_at, of_rows}
use Rattle.applies.proofs.WalkEnds.{stop_told, part_handed}
use Rattle.applies.proofs.Wants.{foreign_row, out_of_turn}
use Rattle.applies.proofs.known.pass_known.Goals as goal

pub returns-in-Ok-clause-passed : goal.returns-in-Ok-clause-passed
returns-in-Ok-clause-passed g c clean first begun acts history holds =
    let h = c.in-Ok.ensures.handed clean first acts history holds in
    (h.1, λ left start day. all_passed g.R.Read.remaining left begun first acts history h.0.rows c.args.lines.now c.each_act.new.sink start day h.0.own h.0.every h.0.handed)

pub returns-in-Err-Stopped-clause-passed : goal.returns-in-Err-Stopped-clause-passed
returns-in-Err-Stopped-clause-passed g c clean first begun acts history holds =
    let h = rw c.in-Err-Stopped.field-0-is at (c.in-Err-Stopped.ensures.handed clean first acts history holds) in (
      h.1,
      λ left start day. stop_told g.R.Read.remaining left begun acts c.each_act.new.sink c.told_as.result c.told_as.ensures
          (stopped_at g.R.Read.remaining left begun first acts history h.0.rows c.args.lines.now c.each_act.new.sink start day h.0.own h.0.handed),
    )

pub returns-in-Err-Fault-clause-passed : goal.returns-in-Err-Fault-clause-passed
returns-in-Err-Fault-clause-passed g c clean first begun acts history holds =
    let h = rw c.in-Err-Fault.field-0-is at (c.in-Err-Fault.ensures.handed clean first acts history holds) in
    (h.1, λ left start day. inl (tt, some_passed g.R.Read.remaining left begun first acts history h.0.rows c.args.lines.now c.each_act.new.sink start day h.0.own (part_handed (TakesRow g.R.Read.remaining) (StopsAt g.R.Read.remaining) h.0.rows c.args.lines.now c.each_act.new.sink _ h.0.handed)))

pub returns-in-Err-Stopped-clause-foreign : goal.returns-in-Err-Stopped-clause-foreign
returns-in-Err-Stopped-clause-foreign g c clean first acts history holds none foreign =
    let h = rw c.in-Err-Stopped.field-0-is at (c.in-Err-Stopped.ensures.handed clean first acts history holds) in
    let row = foreign_row c.each_act.new.sink.fault c.each_act.new.sink.known c.told_as.result c.told_as.ensures foreign in
    out_of_turn g.S.Store c.args.books.now c.each_act.new.self h.0.rows (h.0.stored (λ e. cc)) (c.in-Err-Stopped.ensures.as_before clean)
    (of_rows g.R.Read.remaining first acts h.0.rows c.args.lines.now c.each_act.new.sink history none h.0.own h.0.handed row)
