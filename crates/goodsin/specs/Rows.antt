-- What a row of a goods-in file says: its fields, each by the rule of its value.
use Rattle.std.specs.Prelude.{ℕ, ◌==◌, ◌&&◌, not, Bool, false, ℤ, List, codes, length, Option, Some, None, option_map, option_and_then, ⊤}
use Rattle.std.specs.Result.{result_ok}
use Rattle.std.specs.Str.{bytes_eq, all_ascii_digits}
use Rattle.values.specs.Values.{checked, first_is, is_between, is_gtin, is_line_no, is_lot_text, is_name, is_qty, number_from}
use Rattle.values.specs.declared.lot.LotId.{LotId}
use Rattle.label.specs.Expiry.{expiry_read}
use Rattle.commands.specs.declared.key.Key.{Key}
use Rattle.commands.specs.declared.key.Key.TheVariants.{Line}
use Rattle.commands.specs.declared.command.Receipt.{Receipt}
use Rattle.commands.specs.declared.command.Command.{Command}
use Rattle.commands.specs.declared.command.Command.TheVariants.{Receive}
use Rattle.csv.specs.Records.{field_at}

-- the fields of a record, each the list of its bytes
abbrev pub Fields : Type 0
Fields = List (List ℕ)

-- the field at a place is this text
abbrev pub is_text : List ℕ → Option (List ℕ) → Bool
is_text text None = false
is_text text (Some s) = bytes_eq s text

abbrev pub has_text : ℕ → List ℕ → Fields → Bool
has_text i text f = is_text text (field_at f i)

-- the first record of a file
abbrev pub is_header : Fields → Bool
is_header f =
    (length f == 7) && has_text 0 (codes "delivery") f && has_text 1 (codes "line") f && has_text 2 (codes "gtin") f
    && has_text 3 (codes "lot") f && has_text 4 (codes "expiry") f && has_text 5 (codes "bin") f && has_text 6 (codes "qty") f

-- a number from 1 on: 1 to 7 digits, as no number of a row has more, without a zero before them
abbrev pub is_number : List ℕ → Bool
is_number s = is_between 1 7 (length s) && all_ascii_digits s && not (first_is 48 s)

abbrev pub number_of : List ℕ → Option ℕ
number_of s = option_map (number_from 0) (checked is_number s)

-- the field at a place, if it keeps its rule
abbrev pub name_at : ℕ → Fields → Option (List ℕ)
name_at i f = option_and_then (checked is_name) (field_at f i)

abbrev pub number_at : ℕ → Fields → Option ℕ
number_at i f = option_and_then number_of (field_at f i)

abbrev pub line_at : ℕ → Fields → Option ℕ
line_at i f = option_and_then (checked is_line_no) (number_at i f)

abbrev pub qty_at : ℕ → Fields → Option ℕ
qty_at i f = option_and_then (checked is_qty) (number_at i f)

abbrev pub gtin_at : ℕ → Fields → Option (List ℕ)
gtin_at i f = option_and_then (checked is_gtin) (field_at f i)

abbrev pub lot_text_at : ℕ → Fields → Option (List ℕ)
lot_text_at i f = option_and_then (checked is_lot_text) (field_at f i)

-- YYMMDD, by the century of the business day
abbrev pub expiry_at : ℤ → ℕ → Fields → Option ℤ
expiry_at today i f = option_and_then (λ s. result_ok (expiry_read today s)) (field_at f i)

-- delivery and line
abbrev pub key_of : Fields → Option Key
key_of f = option_and_then (λ delivery. option_map (Line delivery) (line_at 1 f)) (name_at 0 f)

-- gtin and lot
abbrev pub lot_of : Fields → Option LotId
lot_of f = option_and_then (λ gtin. option_map (λ lot. record { gtin = gtin; lot = lot }) (lot_text_at 3 f)) (gtin_at 2 f)

-- gtin, lot, expiry, bin, qty
abbrev pub receipt_of : ℤ → Fields → Option Receipt
receipt_of today f =
    option_and_then (λ lot. option_and_then (λ expiry. option_and_then (λ bin. option_map (λ qty.
    record { lot = lot; expiry = expiry; bin = bin; qty = qty })
    (qty_at 6 f)) (name_at 5 f)) (expiry_at today 4 f)) (lot_of f)

abbrev pub received : Key → Receipt → Key × Command
received key receipt = (key, Receive receipt)

-- the command of a row under its key, if each field keeps its rule
abbrev pub command_of : ℤ → Fields → Option (Key × Command)
command_of today f = option_and_then (λ key. option_map (received key) (receipt_of today f)) (key_of f)

-- a Receive under the key of a delivery's line
abbrev pub IsReceipt : Key × Command → Type 0
IsReceipt (Line delivery line, Receive receipt) = ⊤
IsReceipt _ = ⊥
