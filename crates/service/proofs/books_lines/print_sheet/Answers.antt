use Rattle.std.proofs.Common.{rules}
use Rattle.service.proofs.books_lines.print_sheet.Goals as goal

-- a short search, which names neither text: where the other one is printed, it soon fails

pub returns-in-Card-clause-printed : goal.returns-in-Card-clause-printed
returns-in-Card-clause-printed g c clean first acts history holds = rw c.in-Card.is (search rules depth 3)

pub returns-in-Notice-clause-printed : goal.returns-in-Notice-clause-printed
returns-in-Notice-clause-printed g c clean first acts history holds = rw c.in-Notice.is (search rules depth 3)
