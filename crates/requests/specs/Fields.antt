-- JSON, and the fields of an object, each read by the rule of its value: steps 8 and 9 of `Requests`.
use Rattle.std.specs.Prelude.{ℕ, ℤ, List, codes, Bool, false, ◌==◌, if◌then◌else◌, Option, Some, None, option_map, option_and_then}
use Rattle.std.specs.Str.{is_utf8}
use Rattle.values.specs.Values.{checked, is_name, is_title, is_gtin, is_lot_text, is_qty, is_counted, is_delta, is_line_no, is_least_days}
use Rattle.label.specs.Days.{is_business_day, parsed_day}
use Rattle.values.specs.declared.lot.LotId.{LotId}
use Rattle.commands.specs.Words.{bin_kind_of}
use Rattle.commands.specs.declared.command.BinKind.{BinKind}
use Rattle.serde_json.specs.Data.{Data}
use Rattle.serde_json.specs.Events.{members_len}
use Rattle.serde_json.specs.Find.{get, as_object, as_str, as_u64, as_i64, as_number}
use Rattle.serde_json.specs.Read.{read}

-- step 8: the value that a text of JSON is
abbrev pub json : List ℕ → Option Data
json text = if is_utf8 text then read text else None

-- an object of n members, and no other value
abbrev pub has_size : ℕ → Option ℕ → Bool
has_size n None = false
has_size n (Some size) = size == n

abbrev pub is_object_of : ℕ → Data → Bool
is_object_of n d = has_size n (option_map members_len (as_object d))

-- the text under a name
abbrev pub text_at : List ℕ → Data → Option (List ℕ)
text_at name d = option_and_then as_str (get name d)

-- the number under a name, if it is written as a whole number: one from 0 on, and one of either sign
abbrev pub whole_at : List ℕ → Data → Option ℕ
whole_at name d = option_and_then as_u64 (option_and_then as_number (get name d))

abbrev pub signed_at : List ℕ → Data → Option ℤ
signed_at name d = option_and_then as_i64 (option_and_then as_number (get name d))

-- the values that keep their rules
abbrev pub name_at : List ℕ → Data → Option (List ℕ)
name_at name d = option_and_then (checked is_name) (text_at name d)

abbrev pub title_at : List ℕ → Data → Option (List ℕ)
title_at name d = option_and_then (checked is_title) (text_at name d)

abbrev pub gtin_at : List ℕ → Data → Option (List ℕ)
gtin_at name d = option_and_then (checked is_gtin) (text_at name d)

abbrev pub lot_at : List ℕ → Data → Option (List ℕ)
lot_at name d = option_and_then (checked is_lot_text) (text_at name d)

abbrev pub qty_at : List ℕ → Data → Option ℕ
qty_at name d = option_and_then (checked is_qty) (whole_at name d)

abbrev pub counted_at : List ℕ → Data → Option ℕ
counted_at name d = option_and_then (checked is_counted) (whole_at name d)

abbrev pub delta_at : List ℕ → Data → Option ℤ
delta_at name d = option_and_then (checked is_delta) (signed_at name d)

abbrev pub line_at : List ℕ → Data → Option ℕ
line_at name d = option_and_then (checked is_line_no) (whole_at name d)

abbrev pub least_days_at : List ℕ → Data → Option ℕ
least_days_at name d = option_and_then (checked is_least_days) (whole_at name d)

abbrev pub business_day_at : List ℕ → Data → Option ℤ
business_day_at name d = option_and_then (checked is_business_day) (option_and_then parsed_day (text_at name d))

-- the kind of bin whose word stands under a name
abbrev pub kind_at : List ℕ → Data → Option BinKind
kind_at name d = option_and_then bin_kind_of (text_at name d)

-- the lot that `gtin` and `lot` name
abbrev pub lot_id_at : Data → Option LotId
lot_id_at d =
    option_and_then (λ gtin. option_map (λ lot. record { gtin = gtin; lot = lot }) (lot_at (codes "lot") d))
    (gtin_at (codes "gtin") d)
