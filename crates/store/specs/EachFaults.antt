-- What it is to the books that not all rows were handed over.
use Rattle.keyed_rows.specs.declared.each_fault.EachFault.{EachFault as RowsFault}
use Rattle.keyed_rows.specs.declared.each_fault.EachFault.TheVariants as rows
use Rattle.store.specs.Faults.{fault_of}
use Rattle.store.specs.declared.each_fault.EachFault.{EachFault}
use Rattle.store.specs.declared.each_fault.EachFault.TheVariants.{Fault, Stopped}

abbrev pub each_fault_of : RowsFault → EachFault
each_fault_of (rows.Fault fault) = Fault (fault_of fault)
each_fault_of rows.Stopped = Stopped
