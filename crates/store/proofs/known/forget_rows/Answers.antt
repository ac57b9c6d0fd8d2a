use Rattle.slices.proofs.StillKnown.{no_rows_known}
use Rattle.store.proofs.known.forget_rows.Goals as goal

pub returns : goal.returns
returns c t beside = record { lines = beside.lines; urgent = beside.urgent; bounds = beside.bounds; rows = no_rows_known t c.new.result c.new.ensures }
