use Rattle.rows_in_memory.proofs.Words.{filter_agree, same_text, StagedRow, same_items}
use Rattle.machine.proofs.Tests.{same_text_turned}
use Rattle.rows_in_memory.proofs.lots_held.staged_for.Goals as goal

pub returns : goal.returns
returns c =
    let o = c.args.order.now in
    same_items c.rows_with.result _ _ c.rows_with.ensures
    (filter_agree (λ (r : StagedRow). same_text o r.order) (λ (r : StagedRow). same_text r.order o) (λ r. same_text_turned o r.order) c.args.staged.now)
