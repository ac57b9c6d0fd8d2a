use Rattle.store.proofs.Words.{⊤, state, inside_then, Act, IsActedInside}
use Rattle.store.proofs.FaultsTold.{by_error}
use Rattle.store.proofs.ActsFrom.{acts_failed, acts_from}
use Rattle.store.proofs.ActsInside.{store_inside}
use Rattle.store.proofs.acting.act_inside.Goals as goal

pub returns-in_err-find_open-clause-acts : goal.returns-in_err-find_open-clause-acts
returns-in_err-find_open-clause-acts g c =
    let act : Act = record { key = c.args.key.now; command = c.args.command.now } in
    let old = state g.S.Store c.args.tx.now.conn.now in
    let new = state g.S.Store c.find_open.new.tx.conn.now in
    record {
      survives = c.find_open.ensures.survives;
      does = acts_failed act (λ _ _ _. ⊤) c.args.known.now c.args.known.now c.from_residual.result old new c.from_residual.ensures.0
          (λ clean first acts books. by_error c.from_residual.result c.in_err-find_open.field-0.0 c.from_residual.ensures (λ r. IsActedInside first acts act r old new) (store_inside first acts act c.in_err-find_open.field-0.0 old new c.in_err-find_open.ensures.fault))
          (λ clean ready h. h) (λ clean ready. c.in_err-find_open.ensures.kept clean);
    }

pub returns-clause-acts : goal.returns-clause-acts
returns-clause-acts g c =
    let act : Act = record { key = c.args.key.now; command = c.args.command.now } in
    let old = state g.S.Store c.args.tx.now.conn.now in
    let mid = state g.S.Store c.find_open.new.tx.conn.now in
    let new = state g.S.Store c.act_open.new.tx.conn.now in
    record {
      survives = inside_then old mid new c.find_open.ensures.survives c.act_open.ensures.acts.survives;
      does = acts_from act (λ _ _ _. ⊤) (λ _ _ _. ⊤) c.args.known.now c.args.known.now c.act_open.new.known c.act_open.result old mid new (λ clean ready. c.in_ok-find_open.ensures.open clean) (λ clean ready h. h)
          (λ clean kind first acts history books holds so. so) c.act_open.ensures.acts;
    }
