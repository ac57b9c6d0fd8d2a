use Rattle.books_schema.proofs.Words.{◌≡◌, map, take, key_of}
use Rattle.books_schema.proofs.older.keys_match.Given as goal

abbrev pub invariant-loop-at : goal.invariant-loop-at
invariant-loop-at l = take l.at l.found ≡ map key_of (take l.at l.layouts)
