use Rattle.std.specs.Prelude.{if◌then◌else◌, unsigned_abs}
use Rattle.machine.specs.Laws.{is_kind}
use Rattle.row_rules.proofs.Capping.{IsCapped}
use Rattle.queries.proofs.traced.units_of_kind.Given as goal

abbrev pub invariant-loop-card : goal.invariant-loop-card
invariant-loop-card l = IsCapped (λ c. if is_kind l.kind c.kind then unsigned_abs c.qty else 0) l.cards l.card-index l.sum
