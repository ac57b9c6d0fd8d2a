use Rattle.books_schema.proofs.Words.{◌≡◌, drop, no_two, same_named}
use Rattle.books_schema.proofs.older.are_once.Given as goal

-- whether no two of them have one name hangs on those that are left
abbrev pub invariant-loop-at : goal.invariant-loop-at
invariant-loop-at l = no_two same_named l.found ≡ no_two same_named (drop l.at l.found)
