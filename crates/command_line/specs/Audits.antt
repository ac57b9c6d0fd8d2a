-- What is told of books whose rows are not those of their acts.
use Rattle.std.specs.Prelude.{ℕ, List, ◌++◌, codes, decimal}
use Rattle.commands.specs.Refusals.{refusal_code}
use Rattle.command_line.specs.declared.audit_fault.AuditFault.{AuditFault}
use Rattle.command_line.specs.declared.audit_fault.AuditFault.TheVariants.{Row, Table, Spelling, Act}

abbrev pub audit_code : AuditFault → List ℕ
audit_code (Row table key) = codes "differs"
audit_code (Table table) = codes "differs"
audit_code (Spelling act) = codes "spelling"
audit_code (Act act why) = refusal_code why

-- a word after a space
abbrev pub spaced : List ℕ → List ℕ
spaced word = codes " " ++ word

abbrev pub row_place : (table key : List ℕ) → List ℕ
row_place table key = spaced table ++ spaced key

abbrev pub act_place : ℕ → List ℕ
act_place act = codes " act " ++ decimal act

-- what it is about
abbrev pub audit_place : AuditFault → List ℕ
audit_place (Row table key) = row_place table key
audit_place (Table table) = spaced table
audit_place (Spelling act) = act_place act
audit_place (Act act why) = act_place act
