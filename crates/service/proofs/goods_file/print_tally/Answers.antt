use Rattle.service.proofs.Words.{refl, Io, IsTallyTold}
use Rattle.service.proofs.Importing.{by_fault}
use Rattle.service.proofs.goods_file.print_tally.Goals as goal

pub returns : goal.returns
returns g c = c.in_ok-tell_tally.ensures

pub returns-in_err-tell_tally : goal.returns-in_err-tell_tally
returns-in_err-tell_tally g c = by_fault c.from_residual.result Io c.from_residual.ensures (λ r. IsTallyTold c.args.tally r (g.W.Write.contents c.args.out.now) (g.W.Write.contents c.tell_tally.new.out)) refl
