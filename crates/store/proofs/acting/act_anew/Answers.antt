use Rattle.store.proofs.Words.{sym, subst, Option, state, Known, HasKnown}
use Rattle.store.proofs.ActsFrom.{acts_unread, acts_read}
use Rattle.store.proofs.acting.act_anew.Goals as goal

pub returns-in_err-found-clause-acts : goal.returns-in_err-found-clause-acts
returns-in_err-found-clause-acts g c =
    acts_unread c.from_residual.ensures c.in_err-found.ensures.read (λ clean ready up known. subst (λ (k : Option Known). HasKnown k (state g.S.Store c.args.tx.now.conn.now)) (sym c.known_in.ensures.taken) tt)

pub returns-clause-acts : goal.returns-clause-acts
returns-clause-acts g c = acts_read c.in_ok-found.ensures.read c.act_known-reply.ensures.acts (λ clean ready up told known. told known) (λ kind first acts history books holds told so. so)
