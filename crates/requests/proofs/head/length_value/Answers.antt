use Rattle.std.proofs.Common.{arith}
use Rattle.requests.proofs.head.length_value.Goals as goal

pub written_number-n-requires : goal.written_number-n-requires
written_number-n-requires c = omega arith
