use Rattle.slices.proofs.Words.{◌≡◌, ap, ◌∙◌, slice_get}
use Rattle.slices.proofs.ReadSteps.{fails_first, so_told}
use Rattle.slices.proofs.sought_rows.read_row.Goals as goal

pub returns-in_err-rows-clause-read : goal.returns-in_err-rows-clause-read
returns-in_err-rows-clause-read g c = fails_first c.from_residual.ensures c.in_err-rows.ensures.read

pub returns-clause-read : goal.returns-clause-read
returns-clause-read g c =
    let rows = c.in_ok-rows.rows.items in
    let first_is : c.copied.result ≡ slice_get rows 0 = c.copied.ensures ∙ c.first.ensures.value ∙ ap (λ l. slice_get l 0) c.as_slice.ensures.value in
    so_told c.in_ok-rows.ensures.read (λ t h. (rows, h, first_is))
