-- What a goods-in file reads as. The text is cut into records as `csv` does by its defaults: fields parted by commas, the
-- double quote, records ended by LF, CR LF or CR, no empty lines, and a byte order mark passed over.
use Rattle.std.specs.Prelude.{ℕ, ◌+◌, ◌==◌, not, nat_lt, ℤ, List, [], ◌∷◌, length, if◌then◌else◌, Result, Ok, Err}
use Rattle.std.specs.Option.{ok_or}
use Rattle.commands.specs.declared.key.Key.{Key}
use Rattle.commands.specs.declared.command.Command.{Command}
use Rattle.csv.specs.Reading.{default_config, records, strip_bom}
use Rattle.goodsin.specs.Rows.{Fields, command_of, is_header}
use Rattle.goodsin.specs.declared.fault.FileFault.{FileFault}
use Rattle.goodsin.specs.declared.fault.FileFault.TheVariants.{Header, Row, TooManyRows, Length}

-- the most rows of a file
abbrev pub ROWS_MAX : ℕ
ROWS_MAX = 1_000

-- the records of a text
abbrev pub file_records : List ℕ → List Fields
file_records text = records default_config (strip_bom text)

-- the row of this number: of another length than the header, one too many, or judged by its fields
abbrev pub row_read : ℤ → ℕ → Fields → Result (Key × Command) FileFault
row_read today row f =
    if not (length f == 7) then Err Length
    else (if nat_lt ROWS_MAX row then Err TooManyRows else ok_or (command_of today f) (Row row))

-- a row before others; its fault goes before theirs
abbrev pub before : {X : Type 0} → Result X FileFault → Result (List X) FileFault → Result (List X) FileFault
before (Err fault) rest = Err fault
before (Ok x) (Err fault) = Err fault
before (Ok x) (Ok xs) = Ok (x ∷ xs)

-- the rows from this number on, in turn
abbrev pub rows_read : ℤ → ℕ → List Fields → Result (List (Key × Command)) FileFault
rows_read today row [] = Ok []
rows_read today row (f ∷ fs) = before (row_read today row f) (rows_read today (row + 1) fs)

-- the header, and the rows behind it
abbrev pub records_read : ℤ → List Fields → Result (List (Key × Command)) FileFault
records_read today [] = Err Header
records_read today (f ∷ fs) = if is_header f then rows_read today 1 fs else Err Header

-- what a file reads as on a business day: the receipts of its rows under their keys, or its first fault
abbrev pub file_read : ℤ → List ℕ → Result (List (Key × Command)) FileFault
file_read today text = records_read today (file_records text)
