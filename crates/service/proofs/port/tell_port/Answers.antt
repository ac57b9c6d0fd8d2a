use Rattle.service.proofs.Words.{subst, ◌∙◌, Writes}
use Rattle.service.proofs.port.tell_port.Goals as goal

pub returns : goal.returns
returns g c = subst (Writes c.write_bytes.result (g.W.Write.contents c.args.out.now) (g.W.Write.contents c.write_bytes.new.writer)) (c.as_bytes.ensures ∙ c.port_line-line.ensures) c.write_bytes.ensures.written
