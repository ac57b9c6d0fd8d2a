-- What the line does that holds the books against their acts, and what it tells.
use Rattle.std.specs.Prelude.{◌≡◌, ◌⊎◌, ℕ, ℤ, List, ◌++◌, codes, decimal, Option, Result, Ok, Err}
use Rattle.std.specs.Io.KnownBytes.{Appends}
use Rattle.line_work.specs.Words.{StoreGhosts as Ghosts, Held, state, Act, IsHistory, Leftover, Found, HasSchema, IsOfNone, AreRowsAt, IsCleanLeft, RowKey, Repeat, Fault, Audit, Io, Store, Foreign, IsOfBooks, IsCleanBefore}
use Rattle.sqlite.specs.State.{State}
use Rattle.label.specs.Days.{day_text}
use Rattle.books_schema.specs.declared.ready_connection.Leftover.TheVariants.{Connection}
use Rattle.whole_tables.specs.Differing.{table_of}
use Rattle.audits.specs.Auditing.{IsFinding, IsLeftAlone, AreNotRaised}
use Rattle.audits.specs.declared.finding.Finding.{Finding}
use Rattle.audits.specs.declared.finding.Finding.TheVariants.{Sound, Differs, Untyped, Unnumbered, Unspelled, Refused}
use Rattle.command_line.specs.declared.audit_fault.AuditFault.{AuditFault}
use Rattle.command_line.specs.declared.audit_fault.AuditFault.TheVariants as audit
use Rattle.line_work.specs.Rows.{table_text, key_text}

-- what is printed of books whose rows are those of so many acts, begun on this day
abbrev pub sound_line : ℕ → ℤ → List ℕ
sound_line acts day = codes "audited " ++ decimal acts ++ codes " acts from " ++ day_text day ++ codes "\n"

-- what is shown on a terminal once so many acts of so many are done again, from the first column on
abbrev pub progress_line : (acts all : ℕ) → List ℕ
progress_line acts all = codes "\raudit: " ++ decimal acts ++ codes " of " ++ decimal all ++ codes " acts"

-- it was printed, or the output could not be written
abbrev pub IsSoundTold : ℕ → ℤ → (old new : Option (List ℕ)) → Result Unit Fault → Type 0
IsSoundTold acts day old new (Ok done) = Appends old new (sound_line acts day)
IsSoundTold acts day old new (Err fault) = fault ≡ Io

-- the fault of a row
abbrev pub row_fault : RowKey → AuditFault
row_fault row = audit.Row (table_text (table_of row)) (key_text row)

-- the fault is told, and nothing was printed
abbrev pub IsFaultTold : AuditFault → (old new : Option (List ℕ)) → Result Unit Fault → Type 0
IsFaultTold fault old new end = (end ≡ Err (Audit fault)) × (new ≡ old)

-- what is told of a finding
abbrev pub IsFindingTold : Finding → (old new : Option (List ℕ)) → Result Unit Fault → Type 0
IsFindingTold (Sound acts day) old new end = IsSoundTold acts day old new end
IsFindingTold (Differs row) old new end = IsFaultTold (row_fault row) old new end
IsFindingTold (Untyped table) old new end = IsFaultTold (audit.Table (table_text table)) old new end
IsFindingTold (Unnumbered k) old new end = IsFaultTold (row_fault (Repeat k)) old new end
IsFindingTold (Unspelled act) old new end = IsFaultTold (audit.Spelling act) old new end
IsFindingTold (Refused act why) old new end = IsFaultTold (audit.Act act why) old new end

-- a finding was told that holds of the books
abbrev pub IsAuditTold : Option ℤ → State → (old new : Option (List ℕ)) → Result Unit Fault → Type 0
IsAuditTold given books old new end = (finding : Finding) × IsFinding given books finding × IsFindingTold finding old new end

-- no row was changed: the connection is as it was, or was found open, and nothing was committed
abbrev pub IsLeftAs : {S : Type 0} → Ghosts S → (old new : Held S) → Type 0
IsLeftAs g old new = IsLeftAlone g old (Connection new)

-- the books were not audited: nothing was committed, and those of a history are never told as foreign
pub record IsUnaudited {S : Type 0} (g : Ghosts S) (old : Held S) (left : Leftover S) (fault : Fault) : Type 0 where
  pub kept : IsLeftAlone g old left
  pub clean : IsCleanBefore g old left
  pub cause : IsOfBooks fault
  pub foreign : IsCleanLeft g left → fault ≡ Foreign → IsOfNone (state g old).now.schema ⊎ AreNotRaised (state g old)
  pub known : IsCleanLeft g left → (found : Found) → HasSchema found (state g old).now.schema → (first : ℤ) (acts : List Act) → IsHistory first acts
      → AreRowsAt found first acts (state g old).committed.trees → fault ≡ Store
