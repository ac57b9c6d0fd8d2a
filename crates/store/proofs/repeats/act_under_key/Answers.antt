use Rattle.store.proofs.Words.{◌∙◌, fails_first, so_told}
use Rattle.store.proofs.RepeatRead.{first_read}
use Rattle.store.proofs.repeats.act_under_key.Goals as goal

pub returns-in_err-rows-clause-read : goal.returns-in_err-rows-clause-read
returns-in_err-rows-clause-read g c = fails_first c.from_residual.ensures c.in_err-rows.ensures.read

pub returns-clause-read : goal.returns-clause-read
returns-clause-read g c = so_told c.in_ok-rows.ensures.read (λ t h. c.first_row.ensures ∙ first_read c.args.k.now t.repeat c.in_ok-rows.rows.items h)
