use Rattle.requests.proofs.OneReading.{one_reading}
use Rattle.requests.proofs.laws.has_one_reading.Goals as goal

pub returns : goal.returns
returns c = one_reading
