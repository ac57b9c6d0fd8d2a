use Rattle.rows_in_memory.proofs.Words.{◌≡◌, ◌++◌, all_names}
use Rattle.rows_in_memory.proofs.Lookups.{seen}
use Rattle.rows_in_memory.proofs.lines.OpenLines.all.Given as goal

abbrev pub invariant-loop-gtin : goal.invariant-loop-gtin
invariant-loop-gtin l = l.names.items ++ all_names (seen l._gtin-iterator) ≡ all_names (seen l.initial._gtin-iterator)
