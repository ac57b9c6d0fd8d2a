use Rattle.line_work.proofs.Words.{IfOk-weaker, IfErr-weaker, keeps_from, loses_from, loses_none, none_later}
use Rattle.line_work.proofs.Opened.{day_not_found, on_err_all, not_opened_beside, opened_beside}
use Rattle.line_work.proofs.opening.open_acts.Goals as goal

pub returns-in-Ok-clause-kept : goal.returns-in-Ok-clause-kept
returns-in-Ok-clause-kept g c clean first acts history holds =
    let d = g.D.Disk in
    let same = c.in-Ok.ensures.same in
    let day = c.in-Ok.ensures.begun (c.open_beside.ensures.clean clean) first acts history holds in
    let kept = c.open_beside.ensures.kept clean first acts history day.0 in (
      kept.0,
      IfOk-weaker c.open_beside.result _ _ (λ file is. opened_beside d first acts c.args.disk c.begun_beside.new.disk same c.in-Ok.begun day.1 file is) kept.1,
      on_err_all c.open_beside.result kept.2 (c.open_beside.ensures.own clean first acts history day.0) (c.open_beside.ensures.leaves clean first acts history day.0)
          (λ e is own leaves. not_opened_beside d first acts c.args.disk c.begun_beside.new.disk same c.in-Ok.begun day.1 (c.in-Ok.ensures.fits (c.open_beside.ensures.clean clean) first acts history holds) e is own leaves),
    )

pub returns-in-Ok-clause-survives : goal.returns-in-Ok-clause-survives
returns-in-Ok-clause-survives g c =
    none_later g.S.Store c.args.books.now c.begun_beside.new.books c.open_beside.new.books c.begun_beside.ensures.survives c.open_beside.ensures.survives
    (λ clean first acts history holds. (c.begun_beside.ensures.begun clean first acts history holds).0)

pub returns-in-Err-clause-kept : goal.returns-in-Err-clause-kept
returns-in-Err-clause-kept g c clean first acts history holds =
    ((c.in-Err.ensures.begun clean first acts history holds).0, tt, day_not_found g.D.Disk first acts c.args.disk c.begun_beside.new.disk c.in-Err.fault history c.in-Err.ensures.same c.in-Err.ensures.fault)

pub returns-in-Ok-clause-lines : goal.returns-in-Ok-clause-lines
returns-in-Ok-clause-lines g c =
    IfOk-weaker c.open_beside.result _ _ (λ file is. keeps_from g.D.Disk c.args.disk c.begun_beside.new.disk file c.in-Ok.ensures.same is) c.open_beside.ensures.lines

pub returns-in-Ok-clause-unopened : goal.returns-in-Ok-clause-unopened
returns-in-Ok-clause-unopened g c =
    IfErr-weaker c.open_beside.result _ _ (λ e is. loses_from g.D.Disk c.args.disk c.begun_beside.new.disk e.disk c.in-Ok.ensures.same is) c.open_beside.ensures.unopened

pub returns-in-Err-clause-unopened : goal.returns-in-Err-clause-unopened
returns-in-Err-clause-unopened g c = loses_none g.D.Disk c.args.disk c.begun_beside.new.disk c.in-Err.ensures.same
