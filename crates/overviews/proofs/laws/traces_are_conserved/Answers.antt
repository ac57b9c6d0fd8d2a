use Rattle.overviews.proofs.TraceTotals.{traces_conserved}
use Rattle.overviews.proofs.laws.traces_are_conserved.Goals as goal

pub returns : goal.returns
returns c = traces_conserved
