use Rattle.store.proofs.RowsFit.{rows_of_acts_fit}
use Rattle.store.proofs.laws.rows_of_acts_fit.Goals as goal

pub returns : goal.returns
returns c = rows_of_acts_fit
