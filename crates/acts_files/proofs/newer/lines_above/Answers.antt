use Rattle.acts_files.proofs.Words.{refl, IfOk-weaker, Output, FewLines}
use Rattle.acts_files.proofs.Few.{next_of}
use Rattle.acts_files.proofs.newer.lines_above.Goals as goal

pub returns-clause-told : goal.returns-clause-told
returns-clause-told g c clean first begun newer older history holds whole done day =
    let h = c.each_act_above-end.ensures.handed clean first _ history holds in
    let start : FewLines = record { lines = record { alloc = c.args.alloc; day = c.args.day; done = c.args.done; fault = Output; out = c.new.result }; room = c.args.most } in (
      h.1,
      IfOk-weaker c.next_lines.result _ _
          (λ lines taken. next_of first begun newer older history c.args.most start c.new.ensures.items done day refl h.0.rows c.each_act_above-end.new.sink c.each_act_above-end.result c.args.all lines h.0.own h.0.handed whole taken) c.next_lines.ensures.next,
    )
