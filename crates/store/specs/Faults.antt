-- What a fault of the tables, and one of the rules, is to the books.
use Rattle.table_words.specs.declared.error.TableFault.{TableFault}
use Rattle.table_words.specs.declared.error.TableFault.TheVariants.{Store as TableStore, Foreign as TableForeign}
use Rattle.row_rules.specs.declared.slice.RuleFault.{RuleFault}
use Rattle.row_rules.specs.declared.slice.RuleFault.TheVariants.{Refused as RefusedByRule, NoMemory, Foreign as ForeignRows}
use Rattle.store.specs.declared.fault.Fault.{Fault}
use Rattle.store.specs.declared.fault.Fault.TheVariants.{Refused, Store, Foreign}

abbrev pub fault_of : TableFault → Fault
fault_of (TableStore cause) = Store
fault_of TableForeign = Foreign

abbrev pub fault_of_rule : RuleFault → Fault
fault_of_rule (RefusedByRule why) = Refused why
fault_of_rule NoMemory = Store
fault_of_rule ForeignRows = Foreign
