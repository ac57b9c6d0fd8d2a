use Rattle.std.proofs.Common.{◌≡◌, length, arith}
use Rattle.slices.proofs.ReadSteps.{fails_first, so_told}
use Rattle.slices.proofs.one_table.count_items.Goals as goal

pub returns-in_err-rows-clause-read : goal.returns-in_err-rows-clause-read
returns-in_err-rows-clause-read g c = fails_first c.from_residual.ensures c.in_err-rows.ensures.read

pub returns-clause-read : goal.returns-clause-read
returns-clause-read g c =
    let counted : length c.in_ok-rows.rows.items ≡ c.len.result = omega arith in
    so_told c.in_ok-rows.ensures.read (λ t h. (c.in_ok-rows.rows.items, h, counted))
