use Rattle.applies.proofs.Words.{refl, ◌∙◌, None, IfOk-weaker, FirstStart, none_tells, one_tells, none_found}
use Rattle.histories.specs.declared.fault.HistoryFault.TheVariants.{Foreign}
use Rattle.applies.proofs.Wants.{result_told, out_of_turn}
use Rattle.applies.proofs.begun.find_start.Goals as goal

pub returns-in-Ok-clause-found : goal.returns-in-Ok-clause-found
returns-in-Ok-clause-found g c clean first acts history holds =
    let start : FirstStart = record { alloc = c.args.alloc; done = 0; found = None; fault = Foreign } in
    let h = c.in-Ok.ensures.handed clean first acts history holds in
    (h.1, none_tells first acts history h.0.rows start c.each_act.new.sink refl h.0.own h.0.every h.0.handed)

pub returns-in-Err-Stopped-clause-found : goal.returns-in-Err-Stopped-clause-found
returns-in-Err-Stopped-clause-found g c clean first acts history holds =
    let start : FirstStart = record { alloc = c.args.alloc; done = 0; found = None; fault = Foreign } in
    let h = rw c.in-Err-Stopped.field-0-is at (c.in-Err-Stopped.ensures.handed clean first acts history holds) in
    (h.1, IfOk-weaker c.stopped_at.result _ _ (λ d f. f.0 ∙ one_tells first acts history h.0.rows start c.each_act.new.sink refl h.0.own h.0.handed (λ none. f.1 (f.0 ∙ none))) c.stopped_at.ensures.found)

pub returns-in-Err-Stopped-clause-foreign : goal.returns-in-Err-Stopped-clause-foreign
returns-in-Err-Stopped-clause-foreign g c clean first acts history holds =
    let start : FirstStart = record { alloc = c.args.alloc; done = 0; found = None; fault = Foreign } in
    let h = rw c.in-Err-Stopped.field-0-is at (c.in-Err-Stopped.ensures.handed clean first acts history holds) in
    result_told g.S.Store c.each_act.new.self c.stopped_at.result
    (λ is.
    let told = c.stopped_at.ensures.foreign is in
    out_of_turn g.S.Store c.args.books.now c.each_act.new.self h.0.rows (h.0.stored (λ e. cc)) (c.in-Err-Stopped.ensures.as_before clean)
    (none_found first acts history h.0.rows start c.each_act.new.sink refl h.0.own h.0.handed told.0 told.1))
