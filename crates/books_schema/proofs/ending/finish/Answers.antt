use Rattle.books_schema.proofs.Words.{◌≡◌, Ok, Result, sym, subst, IsErrAnd, err_from_is_err_and, state, State, HasCleanDisk, FailsToCommit, Error, Ends}
use Rattle.books_schema.proofs.ending.finish.Goals as goal

commit_fails : {T E : Type 0} (made : Error → E → Type 0) (done r : Result T E) (x : T) (cause : Error) (last new : State) → done ≡ Ok x → IsErrAnd r (made cause) → (HasCleanDisk new → FailsToCommit last new cause) → Ends made done r last new
commit_fails {T} {E} made done r x cause last new is told fails =
    let e = err_from_is_err_and r told in
    subst (λ (d : Result T E). Ends made d r last new) (sym is) (subst (λ (s : Result T E). Ends made (Ok x) s last new) (sym e.1) (cause, e.2, fails))

pub returns-in_err-commit-in-Ok-clause-ends : goal.returns-in_err-commit-in-Ok-clause-ends
returns-in_err-commit-in-Ok-clause-ends g c =
    commit_fails g.E.From.from_gives c.args.done c.from_residual.result c.in-Ok.value c.in_err-commit-in-Ok.field-0.0 (state g.S.Store c.args.tx.conn.now) (state g.S.Store c.commit.new.self.0) c.in-Ok.is c.from_residual.ensures.1 c.in_err-commit-in-Ok.ensures.err
