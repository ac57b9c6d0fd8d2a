use Rattle.audits.proofs.Words.{sym, subst, IsTrue, err_from_is_err_and, is_business_day, state, IsBooksOf, AreNone}
use Rattle.audits.proofs.Unreplayed.{none_of}
use Rattle.audits.proofs.replayed.act_rows.Goals as goal

pub returns-clause-done : goal.returns-clause-done
returns-clause-done g c =
    let new = c.replay_rows.new.books in
    let clean = g.met.M.Honest.always_clean new.conn.store in
    let business = subst (λ d. IsTrue (is_business_day d)) c.day-business.ensures.value c.day-business.ensures.business in
    let it = c.in_ok-replay_rows.ensures.replayed clean c.args.day business c.in_ok-books.ensures.books in
    let up = c.in_ok-replay_rows.ensures.open clean c.args.day business c.in_ok-books.ensures.books c.in_ok-books.ensures.open in
    record {
      acts = it.0;
      spelled = it.1;
      history = it.2;
      books = subst (λ h. IsBooksOf c.args.day it.0 (state g.M.Store h).now) (sym c.close.ensures.same) (it.3.keeps.books up);
    }

pub returns-in_err-replay_rows-clause-none : goal.returns-in_err-replay_rows-clause-none
returns-in_err-replay_rows-clause-none g c =
    let (fault, is, same) = err_from_is_err_and c.from_residual-in_err-replay_rows.result c.from_residual-in_err-replay_rows.ensures.1 in
    rw is (rw same (none_of g.M.Store c.args.day c.args.rows.items c.replay_rows.new.books c.in_err-replay_rows.field-0.0 (c.in_err-replay_rows.ensures.replayed (g.met.M.Honest.always_clean c.replay_rows.new.books.conn.store) c.args.day (subst (λ d. IsTrue (is_business_day d)) c.day-business.ensures.value c.day-business.ensures.business) c.in_ok-books.ensures.books)))

pub returns-in_err-books-clause-none : goal.returns-in_err-books-clause-none
returns-in_err-books-clause-none g c =
    let (fault, is, same) = err_from_is_err_and c.from_residual.result c.from_residual.ensures.1 in
    rw is (rw same (subst (AreNone c.args.day c.args.rows.items) (sym c.in_err-books.ensures.fault) tt))
