use Rattle.overviews.proofs.TraceNotices.{traces_agree}
use Rattle.overviews.proofs.laws.traces_agree_with_notices.Goals as goal

pub returns : goal.returns
returns c = traces_agree
