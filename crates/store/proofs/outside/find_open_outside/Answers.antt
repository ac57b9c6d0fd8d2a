use Rattle.store.proofs.Words.{[], err_from_is_err_and, state}
use Rattle.store.proofs.HandedOn.{not_run_left}
use Rattle.store.proofs.outside.find_open_outside.Goals as goal

pub returns-clause-open : goal.returns-clause-open
returns-clause-open g c clean = (c.in_ok-prepare.ensures.ok clean).1

pub returns-in_err-prepare-clause-failed : goal.returns-in_err-prepare-clause-failed
returns-in_err-prepare-clause-failed g c clean =
    let p = err_from_is_err_and c.from_residual.result c.from_residual.ensures.1 in
    rw p.1 (not_run_left _ [] (state g.S.Store c.args.conn.now) (state g.S.Store c.prepare.new.self) _ (c.in_err-prepare.ensures.err clean []))
