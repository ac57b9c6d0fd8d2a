-- The short JSON texts: an object of one to three members.
use Rattle.std.specs.Prelude.{ℕ, ℤ, pos, negsuc, List, ◌++◌, codes, decimal, Option, Some, None}
use Rattle.serde_json.specs.Data.{Data, number, unsigned, negative, string, object, Members, member, no_members}
use Rattle.commands.specs.declared.replies.ReplyField.{ReplyField}
use Rattle.commands.specs.declared.replies.ReplyField.TheVariants.{ChangedBy, Returned, ShipmentNumber, UnitsShort}
use Rattle.wire.specs.Views.{count}

-- Each text, and the value of which it is the compact JSON.

-- a code
abbrev pub code_text : List ℕ → List ℕ
code_text code = codes "{\"code\":\"" ++ code ++ codes "\"}"

abbrev pub code_data : List ℕ → Data
code_data code = object (member (codes "code") (string code) no_members)

-- a code, and the row that it is about
abbrev pub code_row_text : List ℕ → ℕ → List ℕ
code_row_text code row = codes "{\"code\":\"" ++ code ++ codes "\",\"row\":" ++ decimal row ++ codes "}"

abbrev pub code_row_data : List ℕ → ℕ → Data
code_row_data code row = object (member (codes "code") (string code) (member (codes "row") (count row) no_members))

-- W05 with its cause
abbrev pub cause_text : List ℕ → List ℕ
cause_text cause = codes "{\"cause\":\"" ++ cause ++ codes "\",\"code\":\"W05\"}"

abbrev pub cause_data : List ℕ → Data
cause_data cause = object (member (codes "cause") (string cause) (member (codes "code") (string (codes "W05")) no_members))

-- W05 with its cause and the row of the file
abbrev pub cause_row_text : List ℕ → ℕ → List ℕ
cause_row_text cause row = codes "{\"cause\":\"" ++ cause ++ codes "\",\"code\":\"W05\",\"row\":" ++ decimal row ++ codes "}"

abbrev pub cause_row_data : List ℕ → ℕ → Data
cause_row_data cause row =
    object (member (codes "cause") (string cause) (member (codes "code") (string (codes "W05")) (member (codes "row") (count row) no_members)))

-- how many rows of a file were accepted, and how many were repeated
abbrev pub tally_text : ℕ → ℕ → List ℕ
tally_text accepted repeated = codes "{\"accepted\":" ++ decimal accepted ++ codes ",\"repeated\":" ++ decimal repeated ++ codes "}"

abbrev pub tally_data : ℕ → ℕ → Data
tally_data accepted repeated = object (member (codes "accepted") (count accepted) (member (codes "repeated") (count repeated) no_members))

-- a whole number of either sign
abbrev pub whole : ℤ → Data
whole (pos n) = number (unsigned n)
whole (negsuc n) = number (negative (negsuc n))

-- the reply to a command: its act, with one field more or none
abbrev pub further_member : Option ReplyField → Members
further_member None = no_members
further_member (Some (ChangedBy units)) = member (codes "change") (whole units) no_members
further_member (Some (Returned units)) = member (codes "returned") (count units) no_members
further_member (Some (ShipmentNumber n)) = member (codes "shipment") (count n) no_members
further_member (Some (UnitsShort units)) = member (codes "short") (count units) no_members

abbrev pub reply_data : ℕ → Option ReplyField → Data
reply_data act field = object (member (codes "act") (count act) (further_member field))
