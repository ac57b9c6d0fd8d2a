use Rattle.service.proofs.Words.{refl, IsImported}
use Rattle.service.proofs.Importing.{by_fault, kept_taken, untaken}
use Rattle.service.proofs.goods_file.import.Goals as goal

pub returns-clause-imported : goal.returns-clause-imported
returns-clause-imported g c clean first begun acts history holds leaves keeps =
    let told = c.keep_and_tell in
    kept_taken g.S.Store first acts (g.R.Read.remaining c.args.file) told.new.books (g.K.Keeper.keeps told.new.keeper begun) (g.K.Keeper.leaves told.new.keeper begun acts) g.K.Keeper.may_fail _ _ c.in_ok-tally.tally c.take_in.new.books told.result
    (c.in_ok-tally.ensures.taken (told.ensures.clean clean) first acts history holds) clean told.ensures.survives told.ensures.still (λ newer history holds. told.ensures.told clean first begun newer acts history holds keeps)

pub returns-in_err-tally-clause-imported : goal.returns-in_err-tally-clause-imported
returns-in_err-tally-clause-imported g c clean first begun acts history holds leaves keeps =
    let from = g.R.Read.remaining c.args.file in
    let was = g.W.Write.contents c.args.out.now in
    let all = g.K.Keeper.keeps c.args.keeper.now begun in
    let left = g.K.Keeper.leaves c.args.keeper.now begun acts in
    let fault = c.in_err-tally.ensures in
    by_fault c.from_residual.result c.in_err-tally.field-0.0 c.from_residual.ensures (λ r. IsImported g.S.Store first acts from all left g.K.Keeper.may_fail r c.take_in.new.books was was)
    (untaken g.S.Store first acts from c.take_in.new.books all left g.K.Keeper.may_fail was was c.in_err-tally.field-0.0 (fault.taken clean first acts history holds) (fault.leaves clean first acts history holds leaves) refl keeps)
