use Rattle.store.proofs.Words.{[], state, kept_unchanged}
use Rattle.store.proofs.FaultsTold.{not_run_kept}
use Rattle.store.proofs.repeats.find_open.Goals as goal

pub returns-in_err-prepare-clause-kept : goal.returns-in_err-prepare-clause-kept
returns-in_err-prepare-clause-kept g c clean =
    not_run_kept _ [] (state g.S.Store c.args.tx.now.conn.now) (state g.S.Store c.prepare.new.self.conn.now) _ (c.in_err-prepare.ensures.err clean [])

pub returns-clause-kept : goal.returns-clause-kept
returns-clause-kept g c clean =
    kept_unchanged (state g.S.Store c.args.tx.now.conn.now) (state g.S.Store c.prepare.new.self.conn.now) (c.in_ok-prepare.ensures.ok clean).1
