use Rattle.overviews.proofs.TraceNotices.{traces_foretell}
use Rattle.overviews.proofs.laws.traces_foretell_notices.Goals as goal

pub returns : goal.returns
returns c = traces_foretell
