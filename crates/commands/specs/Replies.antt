-- The text of a reply to an act.
use Rattle.std.specs.Prelude.{ℕ, List, [], ◌++◌, codes, decimal, Option, Some, None}
use Rattle.std.specs.Fmt.{signed_decimal}
use Rattle.commands.specs.declared.replies.ReplyField.{ReplyField}
use Rattle.commands.specs.declared.replies.ReplyField.TheVariants.{ChangedBy, Returned, ShipmentNumber, UnitsShort}

-- what a reply says beside the number of the act
abbrev pub field_text : ReplyField → List ℕ
field_text (ChangedBy units) = codes ",\"change\":" ++ signed_decimal units
field_text (Returned units) = codes ",\"returned\":" ++ decimal units
field_text (ShipmentNumber number) = codes ",\"shipment\":" ++ decimal number
field_text (UnitsShort units) = codes ",\"short\":" ++ decimal units

abbrev pub further_text : Option ReplyField → List ℕ
further_text None = []
further_text (Some field) = field_text field

-- the number of the act, and one field more or none
abbrev pub reply_text : ℕ → Option ReplyField → List ℕ
reply_text act field = codes "{\"act\":" ++ decimal act ++ further_text field ++ codes "}"
