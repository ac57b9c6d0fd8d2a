use Rattle.applies.proofs.Words.{sym, IfOk-weaker}
use Rattle.applies.proofs.LineFields.{reads_of, reads_none}
use Rattle.applies.proofs.fields.read_act.Goals as goal

pub returns-in-Some : goal.returns-in-Some
returns-in-Some c =
    IfOk-weaker c.read_fields.result _ _ (λ found h. reads_of c.args.line.now c.in-Some.key.now c.in-Some.spelled.now found (sym c.in-Some.ensures) h) c.read_fields.ensures

pub returns-in-None : goal.returns-in-None
returns-in-None c = reads_none c.args.line.now (sym c.in-None.ensures)
