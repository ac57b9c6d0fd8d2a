use Rattle.std.proofs.Common.{rules}
use Rattle.row_rules.proofs.status.lot_status.Goals as goal

pub returns-then-has_row : goal.returns-then-has_row
returns-then-has_row c = search rules

pub returns-then-lot : goal.returns-then-lot
returns-then-lot c = search rules

pub returns-then-is_expired : goal.returns-then-is_expired
returns-then-is_expired c = search rules

pub returns-then-is_short_dated : goal.returns-then-is_short_dated
returns-then-is_short_dated c = search rules

pub returns-else-is_short_dated : goal.returns-else-is_short_dated
returns-else-is_short_dated c = search rules
