use Rattle.std.proofs.Common.{sym, ◌∙◌}
use Rattle.rules.proofs.OneRow.{left_of_one}
use Rattle.rules.proofs.picking.left_of.Goals as goal

pub returns-clause-in_plan : goal.returns-clause-in_plan
returns-clause-in_plan c = λ b l after picked. left_of_one b l c.args.reserved c.args.qty after picked ∙ sym c.less.ensures
