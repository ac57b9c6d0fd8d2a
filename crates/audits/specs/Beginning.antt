-- What tables tell of the day that their acts began on.
use Rattle.std.specs.Prelude.{◌≡◌, Option, Some, None, ℤ}
use Rattle.sqlite.specs.State.{State}
use Rattle.table_words.specs.Typed.{Tables, tables_in, Keeps}
use Rattle.whole_tables.specs.declared.key.RowKey.{RowKey}
use Rattle.whole_tables.specs.declared.key.RowKey.TheVariants.{Meta, Card}
use Rattle.whole_tables.specs.Differing.{rule_called}
use Rattle.texts.specs.declared.start.Start.{Start}
use Rattle.texts.specs.declared.start.Start.TheVariants.{Received, Opened}
use Rattle.histories.specs.Start.{first_day}
use Rattle.audits.specs.declared.first_day.Begun.{Begun}
use Rattle.audits.specs.declared.first_day.Begun.TheVariants.{On, Missing, Untyped}

-- this row would tell it, and there is none such
abbrev pub IsUntold : Tables → Option Start → RowKey → Type 0
IsUntold t None row = (row ≡ Meta) × (t.meta ≡ None)
IsUntold t (Some (Received lot act)) row = (row ≡ Card lot act) × (t.card lot act ≡ None)
IsUntold t (Some (Opened day)) row = ⊥

-- the day of the row, if there is one
abbrev pub day_or_missing : Option ℤ → RowKey → Begun
day_or_missing (Some day) row = On day
day_or_missing None row = Missing row

-- the day is told, and nothing is changed; or it is not
abbrev pub IsBegun : Option Start → State → State → Begun → Type 0
IsBegun start old new (On day) = (first_day (tables_in old.now.trees) start ≡ Some day) × (new.now ≡ old.now)
IsBegun start old new (Missing row) = IsUntold (tables_in old.now.trees) start row
IsBegun start old new (Untyped name) = ¬ Keeps old.now.trees (rule_called name)
