use Rattle.wire.proofs.Words.{subst, ◌∙◌, Writes}
use Rattle.wire.proofs.logging.write_log_line.Goals as goal

pub returns : goal.returns
returns g c =
    let at = g.L.Write.contents in
    let old = at c.args.log.now in
    let new = at c.put.new.out in
    subst (Writes c.put.result old new) (c.as_bytes.ensures ∙ c.log_line.ensures) c.put.ensures
