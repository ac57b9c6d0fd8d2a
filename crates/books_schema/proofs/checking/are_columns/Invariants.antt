use Rattle.books_schema.proofs.Words.{◌≡◌, map, take}
use Rattle.table_words.specs.Schema.{column}
use Rattle.books_schema.proofs.checking.are_columns.Given as goal

abbrev pub invariant-loop-at : goal.invariant-loop-at
invariant-loop-at l = take l.at l.found ≡ map (λ c. column c.0.now c.1) (take l.at l.columns)
