-- What a fault tells of the lines of a text and of the rows of the acts.
use Rattle.std.specs.Prelude.{ℕ}
use Rattle.commands.specs.declared.rows.RepeatRow.{RepeatRow}
use Rattle.histories.specs.Books.{IsOutOfTurn}
use Rattle.histories.specs.declared.fault.HistoryFault.{HistoryFault}
use Rattle.histories.specs.declared.fault.HistoryFault.TheVariants as history
use Rattle.histories.specs.declared.reading.ReadFault.{ReadFault}
use Rattle.histories.specs.declared.reading.ReadFault.TheVariants as read
use Rattle.histories.specs.declared.line_fault.LineFault.{LineFault}
use Rattle.histories.specs.declared.line_fault.LineFault.TheVariants.{Memory, Input, Foreign, Differs, OutOfTurn}

-- how it is told that no line was read
abbrev pub unread : ReadFault → LineFault
unread read.Memory = Memory
unread read.Input = Input

-- how it is told that the command of a row was not read
abbrev pub unspelled : HistoryFault → LineFault
unspelled history.Store = Memory
unspelled history.Foreign = Foreign
unspelled history.Output = Memory

-- the fault tells of no line
abbrev pub IsNoMisfit : LineFault → Type 0
IsNoMisfit Memory = Unit {0}
IsNoMisfit Input = Unit {0}
IsNoMisfit Foreign = Unit {0}
IsNoMisfit (Differs n) = ⊥
IsNoMisfit OutOfTurn = ⊥

-- the same, and where it is told that a row is foreign, it is not that of the act behind so many
abbrev pub IsOfRow : (done : ℕ) → RepeatRow → LineFault → Type 0
IsOfRow done row Memory = Unit {0}
IsOfRow done row Input = Unit {0}
IsOfRow done row Foreign = IsOutOfTurn done row
IsOfRow done row (Differs n) = ⊥
IsOfRow done row OutOfTurn = ⊥
