use Rattle.machine.proofs.histories.OlderBooks.{first_books_go_on, second_books_go_on}
use Rattle.machine.proofs.laws.older_books_go_on.Goals as goal

pub returns : goal.returns
returns c = record { first = first_books_go_on; second = second_books_go_on }
