use Rattle.machine.specs.Acts.{Act}
use Rattle.store.proofs.ActsFrom.{acts_unread, acts_read}
use Rattle.store.proofs.DecidedAs.{decided_by_rows}
use Rattle.store.proofs.acting.act_known.Goals as goal

pub returns-in_err-slice-clause-acts : goal.returns-in_err-slice-clause-acts
returns-in_err-slice-clause-acts g c = acts_unread c.from_residual.ensures c.in_err-slice.ensures.read c.read_slice.ensures.holds

pub returns-clause-acts : goal.returns-clause-acts
returns-clause-acts g c =
    let act : Act = record { key = c.args.key.now; command = c.args.command.now } in
    acts_read c.in_ok-slice.ensures.read c.act_decided.ensures.acts (λ clean ready up told. c.read_slice.ensures.holds clean ready up) (λ kind first acts history books holds told fresh. (
      fresh,
      decided_by_rows first act acts c.decide-change.result c.map_err.result c.map_err.ensures.cases (c.decide-change.ensures.decides first acts history kind fresh (told holds first acts c.args.key.now history books.rows.tables)),
    ))
