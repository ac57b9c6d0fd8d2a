use Rattle.histories.proofs.Words.{inl, subst, err_from_is_err_and, IsOfSpelling}
use Rattle.histories.proofs.Rows.{of_unspelled}
use Rattle.histories.proofs.known.KnownLines.pass.Goals as goal

pub returns-in_err-day-clause-stopped : goal.returns-in_err-day-clause-stopped
returns-in_err-day-clause-stopped g c =
    let p = err_from_is_err_and c.from_residual.result c.from_residual.ensures.1 in
    let why = c.in_err-day.field-0.0 in
    rw (p.1, p.2) (inl (of_unspelled c.args.self.now.done c.args.row.now why (subst (λ spell. IsOfSpelling spell why) c.as_slice.ensures c.in_err-day.ensures.fault)))
