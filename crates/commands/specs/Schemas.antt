-- The tables of an older schema, and what they become in the newest one.
use Rattle.std.specs.Prelude.{Option, Some, None}
use Rattle.commands.specs.Tables.{Tables}
use Rattle.commands.specs.declared.rows.ItemRow.{ItemRow}
use Rattle.commands.specs.declared.rows.LeastRow.{LeastRow}

-- schema 1 has no table `least`: it is seen as one without rows
abbrev pub without_least : Tables → Tables
without_least t = record t { least = λ g. None }

-- each item asks for 0 days
abbrev pub asking_none : Option ItemRow → Option LeastRow
asking_none None = None
asking_none (Some i) = Some (record { gtin = i.gtin; days = 0 })

-- and it has a row that says so
abbrev pub with_least : Tables → Tables
with_least t = record t { least = λ g. asking_none (t.item g) }

-- schema 2 has no table `urgents`: when it is made it has no rows
abbrev pub without_urgents : Tables → Tables
without_urgents t = record t { urgent = λ o. None }
