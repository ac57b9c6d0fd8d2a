use Rattle.table_words.proofs.Words.{◌≡◌, true, map, take, AllByRecursion}
use Rattle.table_words.proofs.reading.read_all.Given as goal

abbrev pub invariant-loop-row : goal.invariant-loop-row
invariant-loop-row g l = AllByRecursion (λ v. g.T.Readable.has v ≡ true) (take l.row-index l.rows) × (map g.T.Readable.reads (take l.row-index l.rows) ≡ l.found.items)
