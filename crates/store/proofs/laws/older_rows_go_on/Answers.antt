use Rattle.store.proofs.OpenedBooks.{older_rows_go_on}
use Rattle.store.proofs.laws.older_rows_go_on.Goals as goal

pub returns : goal.returns
returns c = older_rows_go_on
