use Rattle.books_schema.proofs.Words.{◌≡◌, map, take, table_of}
use Rattle.books_schema.proofs.checking.tables_match.Given as goal

abbrev pub invariant-loop-at : goal.invariant-loop-at
invariant-loop-at l = take l.at l.found ≡ map table_of (take l.at l.layouts)
