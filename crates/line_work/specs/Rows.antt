-- The text of a row of the books: the name of its table, and the columns of its primary key.
use Rattle.std.specs.Prelude.{ℕ, pos, List, [], ◌∷◌, ◌++◌, map, nat_lt, ◌&&◌, if◌then◌else◌, codes, decimal}
use Rattle.sqlite_value.specs.declared.value.Value.{Value}
use Rattle.sqlite_value.specs.declared.value.Value.TheVariants.{Int, Text}
use Rattle.line_work.specs.Words.{RowKey, Repeat}
use Rattle.whole_tables.specs.Differing.{place_of, table_of}
use Rattle.whole_tables.specs.declared.key.TableName.{TableName}
use Rattle.whole_tables.specs.Family.{described}

-- the name of its SQL table
abbrev pub table_text : TableName → List ℕ
table_text n = (described n).layout.name

-- columns with a space between them
abbrev pub two_parted : (a b : List ℕ) → List ℕ
two_parted a b = a ++ codes " " ++ b

abbrev pub three_parted : (a b c : List ℕ) → List ℕ
three_parted a b c = a ++ codes " " ++ b ++ codes " " ++ c

-- a byte of an act's key, which may be any text where another program wrote it: visible ASCII as it is, and else `?`
abbrev pub shown_byte : ℕ → ℕ
shown_byte c = if nat_lt 32 c && nat_lt c 127 then c else 63

-- a column of a key: a text as it is, a number in digits
abbrev pub cell_text : Value → List ℕ
cell_text (Text t) = t
cell_text (Int (pos n)) = decimal n
cell_text v = []

abbrev pub parted : List (List ℕ) → List ℕ
parted [] = []
parted (column ∷ []) = column
parted (column ∷ next ∷ more) = column ++ codes " " ++ parted (next ∷ more)

-- the columns of the primary key; that of the one row of `meta` is 1
abbrev pub key_text : RowKey → List ℕ
key_text (Repeat k) = map shown_byte k
key_text row = parted (map cell_text ((described (table_of row)).key_cells (place_of row).1))
