-- Short answers: a status and a text of JSON.
use Rattle.std.specs.Prelude.{ℕ, codes, List, None}
use Rattle.values.specs.Faults.{fault_code}
use Rattle.values.specs.declared.fault.LabelFault.{LabelFault}
use Rattle.commands.specs.Refusals.{refusal_code}
use Rattle.commands.specs.declared.refusal.Refusal.{Refusal}
use Rattle.requests.specs.Faults.{wire_code, wire_status, wire_allow}
use Rattle.requests.specs.declared.fault.WireFault.{WireFault}
use Rattle.requests.specs.declared.fault.WireFault.TheVariants.{Path, Memory}
use Rattle.wire.specs.Answers.{answer_text, json_type}
use Rattle.wire.specs.Shorts.{code_text, code_row_text, cause_text, cause_row_text, tally_text}

abbrev pub short_answer : ℕ → List ℕ → List ℕ
short_answer status text = answer_text status json_type None text

-- to a text that is no request, by its fault
abbrev pub fault_answer : WireFault → List ℕ
fault_answer e = answer_text (wire_status e) json_type (wire_allow e) (code_text (wire_code e))

-- 404 W06: no such path
abbrev pub not_served : List ℕ
not_served = fault_answer Path

-- 503 W90: memory, disk or size did not suffice
abbrev pub no_memory : List ℕ
no_memory = fault_answer Memory

-- 503 W91: the books hold rows that no list of acts leaves
abbrev pub foreign_books : List ℕ
foreign_books = short_answer 503 (code_text (codes "W91"))

-- 400 W05 with the cause
abbrev pub label_answer : LabelFault → List ℕ
label_answer fault = short_answer 400 (cause_text (fault_code fault))

-- 200 with how many rows of a file were accepted, and how many were repeated
abbrev pub tally_answer : ℕ → ℕ → List ℕ
tally_answer accepted repeated = short_answer 200 (tally_text accepted repeated)

-- 409 with the refusal's code and the row that is refused
abbrev pub row_conflict : ℕ → Refusal → List ℕ
row_conflict row why = short_answer 409 (code_row_text (refusal_code why) row)

-- 400 W05 with the cause by its code
abbrev pub cause_answer : List ℕ → List ℕ
cause_answer cause = short_answer 400 (cause_text cause)

-- and with the row
abbrev pub cause_row_answer : List ℕ → ℕ → List ℕ
cause_row_answer cause row = short_answer 400 (cause_row_text cause row)
