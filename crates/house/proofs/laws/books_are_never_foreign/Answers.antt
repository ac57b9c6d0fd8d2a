use Rattle.house.proofs.StepLaws.{books_are_never_foreign as holds}
use Rattle.house.proofs.laws.books_are_never_foreign.Goals as goal

pub returns : goal.returns
returns c = holds
