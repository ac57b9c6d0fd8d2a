-- What the line that prints the acts tells of a fault.
use Rattle.std.specs.Prelude.{Result, Ok, Err}
use Rattle.histories.specs.declared.fault.HistoryFault.{HistoryFault}
use Rattle.histories.specs.declared.fault.HistoryFault.TheVariants as history
use Rattle.service.specs.Words.{Fault, Io, Store, Foreign}

abbrev pub fault_told : Result Unit HistoryFault → Result Unit Fault
fault_told (Ok done) = Ok done
fault_told (Err history.Store) = Err Store
fault_told (Err history.Foreign) = Err Foreign
fault_told (Err history.Output) = Err Io
