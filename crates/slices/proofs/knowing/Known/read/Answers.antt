use Rattle.slices.proofs.Words.{Known}
use Rattle.slices.proofs.ReadSteps.{so_told, fails_first}
use Rattle.slices.proofs.LinesRead.{first_known}
use Rattle.slices.proofs.StillKnown.{no_rows_known}
use Rattle.slices.proofs.knowing.Known.read.Goals as goal

pub returns-in_err-lines-clause-read : goal.returns-in_err-lines-clause-read
returns-in_err-lines-clause-read g c = fails_first c.from_residual.ensures c.in_err-lines.ensures.read

pub returns-clause-read : goal.returns-clause-read
returns-clause-read g c =
    let known : Known = record { lines = c.in_ok-lines.lines; urgent = c.in_ok-lines.urgent; bounds = c.unknown.result; rows = c.read_open_orders.new.rows } in
    so_told c.in_ok-lines.ensures.read (λ t h. let told = h (no_rows_known t c.new-rows.result c.new-rows.ensures) in first_known t known told.0 c.unknown.ensures told.1)
