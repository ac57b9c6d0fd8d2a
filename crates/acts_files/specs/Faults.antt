-- Why a file does not keep the acts of books.
use Rattle.histories.specs.declared.fault.HistoryFault.{HistoryFault}
use Rattle.histories.specs.declared.fault.HistoryFault.TheVariants as history
use Rattle.acts_files.specs.declared.fault.ActsFault.{ActsFault}
use Rattle.acts_files.specs.declared.fault.ActsFault.TheVariants.{File, Store, Foreign, Differs, Lacks}

-- why lines are not made
abbrev pub fault_of_history : HistoryFault → ActsFault
fault_of_history history.Foreign = Foreign
fault_of_history history.Store = Store
fault_of_history history.Output = Store

-- the fault tells of no line
abbrev pub IsNoMisfit : ActsFault → Type 0
IsNoMisfit File = Unit {0}
IsNoMisfit Store = Unit {0}
IsNoMisfit Foreign = Unit {0}
IsNoMisfit (Differs n) = ⊥
IsNoMisfit (Lacks n) = ⊥

-- it is one of the books, or of memory
abbrev pub IsOfBooks : ActsFault → Type 0
IsOfBooks File = ⊥
IsOfBooks Store = Unit {0}
IsOfBooks Foreign = Unit {0}
IsOfBooks (Differs n) = ⊥
IsOfBooks (Lacks n) = ⊥

-- it is one of the file, or of memory
abbrev pub IsOfFile : ActsFault → Type 0
IsOfFile File = Unit {0}
IsOfFile Store = Unit {0}
IsOfFile Foreign = ⊥
IsOfFile (Differs n) = ⊥
IsOfFile (Lacks n) = ⊥
