-- Which fault of a history is told, and what it tells of the rows.
use Rattle.std.specs.Prelude.{ℕ, List}
use Rattle.sqlite.specs.Tree.{Trees}
use Rattle.commands.specs.declared.rows.RepeatRow.{RepeatRow}
use Rattle.table_words.specs.declared.error.TableFault.TheVariants as table
use Rattle.keyed_rows.specs.declared.each_fault.EachFault.{EachFault}
use Rattle.keyed_rows.specs.declared.each_fault.EachFault.TheVariants.{Fault, Stopped}
use Rattle.histories.specs.Books.{AreInTurn, IsNoSpelling, IsOutOfTurn}
use Rattle.histories.specs.declared.fault.HistoryFault.{HistoryFault}
use Rattle.histories.specs.declared.fault.HistoryFault.TheVariants.{Store, Foreign, Output}

-- that of a sink that stopped is why it did; a row that no act leaves is foreign, and all else is memory or the disk
abbrev pub fault_of : EachFault → HistoryFault → HistoryFault
fault_of Stopped why = why
fault_of (Fault table.Foreign) why = Foreign
fault_of (Fault (table.Store cause)) why = Store

-- where it is told that a spelling is foreign, no command is spelled so
abbrev pub IsOfSpelling : List ℕ → HistoryFault → Type 0
IsOfSpelling spell Store = Unit {0}
IsOfSpelling spell Foreign = IsNoSpelling spell
IsOfSpelling spell Output = Unit {0}

-- where it is told that a row is foreign, it is not that of the act behind so many
abbrev pub IsOfRow : (done : ℕ) → RepeatRow → HistoryFault → Type 0
IsOfRow done row Store = Unit {0}
IsOfRow done row Foreign = IsOutOfTurn done row
IsOfRow done row Output = Unit {0}

-- where it is told that the rows of acts are foreign, they are stored in another order than that of the acts
abbrev pub IsOfRows : Trees → HistoryFault → Type 0
IsOfRows trees Store = Unit {0}
IsOfRows trees Foreign = ¬ AreInTurn trees
IsOfRows trees Output = Unit {0}
