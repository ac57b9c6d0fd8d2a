use Rattle.store.proofs.Words.{Err, subst, sym, option_copied, state, tables_of, IsInside, IsFoundAs, Looks, Fault}
use Rattle.store.proofs.FaultsTold.{by_error}
use Rattle.store.proofs.KnownKept.{none_answered}
use Rattle.store.proofs.ReadLater.{finds_later, fails_later}
use Rattle.store.proofs.showing.find_found.Goals as goal

pub returns-in_err-find_open-clause-looks : goal.returns-in_err-find_open-clause-looks
returns-in_err-find_open-clause-looks g c = record {
  survives = c.find_open.ensures.survives;
  does = record {
    found = λ clean first acts books knows. by_error c.from_residual.result c.in_err-find_open.field-0.0 c.from_residual.ensures (λ r. IsFoundAs (g.Q.Query.is_in c.args.query.now (tables_of first acts)) r) c.in_err-find_open.ensures.fault;
    knows = λ clean ready knows. none_answered _ c.from_residual.result c.from_residual.ensures.0;
    kept = λ clean ready. c.in_err-find_open.ensures.kept clean;
  };
}

pub returns-in-Ok-clause-looks : goal.returns-in-Ok-clause-looks
returns-in-Ok-clause-looks g c = finds_later c.find_open.ensures.survives c.in_ok-find_open.ensures.open c.in-Ok.found c.in-Ok.ensures.read

pub returns-in-Err-clause-looks : goal.returns-in-Err-clause-looks
returns-in-Err-clause-looks g c =
    subst (λ (e : Fault). IsInside (Looks (λ t found. g.Q.Query.is_in c.args.query.now t found) (option_copied c.args.known) c.args.rows.now c.read.new.rows (Err e)) (state g.S.Store c.args.tx.now.conn.now) (state g.S.Store c.read.new.tx.conn.now))
    (sym c.from.ensures) (fails_later c.find_open.ensures.survives c.in_ok-find_open.ensures.open c.in-Err.fault c.in-Err.ensures.read)
