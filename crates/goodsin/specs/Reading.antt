-- Where a reader of records stands in its text.
use Rattle.std.specs.Prelude.{◌≡◌, ◌≢◌, ◌∷◌, ◌++◌, [], ℕ, List, Option, Some, false, length}
use Rattle.csv.specs.Reading.{AreRecords, Reached, Ready, default_config, is_flexible, reader_config, reader_state, reader_trim, source_of, strip_bom}
use Rattle.csv.specs.declared.error.ErrorKind.{ErrorKind}
use Rattle.csv.specs.declared.error.ErrorKind.TheVariants as kind
use Rattle.csv.specs.declared.parser.State.{State}
use Rattle.csv.specs.declared.parser.State.TheVariants as st
use Rattle.csv.specs.declared.reader.Reader.{Reader}
use Rattle.csv.specs.declared.reader.Trim.TheVariants as trim
use Rattle.goodsin.specs.Rows.{Fields}
use Rattle.goodsin.specs.declared.fault.FileFault.{FileFault}
use Rattle.goodsin.specs.declared.fault.FileFault.TheVariants.{Length, Reader as ReaderFault, Memory}

-- the fault that an error of the reader is
abbrev pub fault_of : ErrorKind → FileFault
fault_of (kind.Io e) = ReaderFault
fault_of (kind.UnequalLengths pos expected len) = Length
fault_of (kind.Utf8 pos err) = Memory
fault_of kind.OutOfMemory = Memory
fault_of (kind.Serialize text) = Memory
fault_of (kind.Deserialize pos err) = Memory

-- the reader's next read is of one record, by the defaults
abbrev pub IsReading : {R : Type 0} → Reader R → Type 0
IsReading s = (reader_trim s ≡ trim.None) × Ready s × (reader_config s ≡ default_config) × (is_flexible s ≡ false)

-- these are the first records of the text
abbrev pub Begins : List ℕ → List Fields → Type 0
Begins text rows = (s : State) × (rest : List ℕ) × Reached default_config st.StartRecord (strip_bom text) rows s rest

-- these are all the records of the text
abbrev pub AreAll : List ℕ → List Fields → Type 0
AreAll text rows = AreRecords default_config st.StartRecord (strip_bom text) rows

-- the reader stands behind these records of the text
abbrev pub Stands : {R : Type 0} → (R → Option (List ℕ)) → List ℕ → List Fields → Reader R → Type 0
Stands rem text rows s = (y : List ℕ) × (source_of rem s ≡ Some y) × Reached default_config st.StartRecord (strip_bom text) rows (reader_state s) y

-- behind these records the text has one of another length than the reader expects
abbrev pub HasOther : List ℕ → List Fields → Option ℕ → Type 0
HasOther text rows expected = (n : ℕ) × (fields : Fields) × (expected ≡ Some n) × (n ≢ length fields) × Begins text (rows ++ fields ∷ [])
