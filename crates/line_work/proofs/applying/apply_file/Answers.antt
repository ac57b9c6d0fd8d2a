use Rattle.std.proofs.Common.{inr, refl}
use Rattle.line_work.proofs.TakenIn.{named}
use Rattle.line_work.proofs.applying.apply_file.Goals as goal

pub returns-in-Ok-clause-applied : goal.returns-in-Ok-clause-applied
returns-in-Ok-clause-applied g c clean first acts history holds leaves =
    let at = g.W.Write.contents in
    let has = c.in-Ok.ensures in
    named g.S.Store first acts (g.F.FilesAt.bytes c.args.files.now c.args.name.now) _ c.apply.result c.apply.new.books (at c.args.out.now) (at c.apply.new.out) has
    (c.apply.ensures.applied clean first acts history holds leaves)

pub returns-in-Err-clause-applied : goal.returns-in-Err-clause-applied
returns-in-Err-clause-applied g c clean first acts history holds leaves = inr (refl, refl, record { holds = holds; leaves = leaves })
