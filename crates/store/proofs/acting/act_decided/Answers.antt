use Rattle.store.proofs.Words.{Ok, Result, subst, Some, state, Act, Change, IsDecidedByRows, IsDecidedAs, Fault}
use Rattle.store.proofs.ActsFrom.{acts_so, acts_none}
use Rattle.store.proofs.ActsInside.{undecided_inside}
use Rattle.store.proofs.acting.act_decided.Goals as goal

pub returns-in-Ok-clause-acts : goal.returns-in-Ok-clause-acts
returns-in-Ok-clause-acts g c =
    let act : Act = record { key = c.args.key.now; command = c.args.command.now } in
    let done = c.accept_known-reply in
    acts_so act (IsDecidedAs c.args.decision) (IsDecidedAs (Ok c.in-Ok.change)) (Some c.args.known.now) (Some done.new.known) done.result (state g.S.Store c.args.tx.now.conn.now) (state g.S.Store done.new.tx.conn.now)
    (λ first acts so. (so.0, subst (λ (r : Result Change Fault). IsDecidedByRows first act acts r) c.in-Ok.is so.1)) done.ensures.acts

pub returns-in-Err-clause-acts : goal.returns-in-Err-clause-acts
returns-in-Err-clause-acts g c =
    let act : Act = record { key = c.args.key.now; command = c.args.command.now } in
    let old = state g.S.Store c.args.tx.now.conn.now in
    acts_none act (IsDecidedAs c.args.decision) (Some c.args.known.now) c.in-Err.fault old
    (λ first acts so. undecided_inside first acts act c.in-Err.fault old old so.0 (subst (λ (r : Result Change Fault). IsDecidedByRows first act acts r) c.in-Err.is so.1))
