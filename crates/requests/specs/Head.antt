-- The head of a request, and what it says of the body's length: steps 1 to 3 of `Requests`.
use Rattle.std.specs.Prelude.{ℕ, ◌+◌, ◌≤◌, List, [], ◌∷◌, codes, map, length, take, Bool, ◌||◌, ◌&&◌, not, nat_lt, if◌then◌else◌, Option, Some, None, option_map, Result, Ok, Err}
use Rattle.std.specs.List.{list_any, find, count_by}
use Rattle.std.specs.Str.{all_ascii_digits, bytes_eq, str_eq_ignore_ascii_case}
use Rattle.values.specs.Values.{is_between, number_from}
use Rattle.httparse.specs.Grammar.{RequestHead, ReadsRequest}
use Rattle.httparse.specs.Spans.{name_and_value}
use Rattle.requests.specs.declared.fault.WireFault.{WireFault}
use Rattle.requests.specs.declared.fault.WireFault.TheVariants.{Length, TooLarge}

-- the limits of a head and of a body
abbrev pub HEAD_MAX : ℕ
HEAD_MAX = 8_192

abbrev pub BODY_MAX : ℕ
BODY_MAX = 262_144

-- CR LF CR LF
abbrev pub BLANK_LINE : List ℕ
BLANK_LINE = 13 ∷ 10 ∷ 13 ∷ 10 ∷ []

-- step 1: how many bytes there are up to the end of the first CR LF CR LF
abbrev pub head_end : List ℕ → Option ℕ
head_end [] = None
head_end (b ∷ bs) = if bytes_eq (take 4 (b ∷ bs)) BLANK_LINE then Some 4 else option_map (λ n. n + 1) (head_end bs)

-- step 2: a complete head of exactly these bytes, with at most 32 fields; its target is UTF-8, and its version 1.0 or 1.1
abbrev pub IsHead : List ℕ → RequestHead → Type 0
IsHead text h = ReadsRequest text h [] × (length h.fields ≤ 32)

-- a field of the head: its name, and its value without spaces and tabs at either end
abbrev pub Named : Type 0
Named = List ℕ × List ℕ

abbrev pub fields_of : RequestHead → List Named
fields_of h = map name_and_value h.fields

-- the field has this name, without regard to ASCII case
abbrev pub is_named : List ℕ → Named → Bool
is_named name f = str_eq_ignore_ascii_case f.0 name

-- what a Content-Length says: 1 to 9 digits
abbrev pub length_value : List ℕ → Result ℕ WireFault
length_value v =
    if not (is_between 1 9 (length v) && all_ascii_digits v) then Err Length
    else (if nat_lt BODY_MAX (number_from 0 v) then Err TooLarge else Ok (number_from 0 v))

abbrev pub length_field : Option Named → Result ℕ WireFault
length_field None = Ok 0
length_field (Some f) = length_value f.1

-- step 3: the length of the body; a Transfer-Encoding, or two lengths, is a fault; without a length there is no body
abbrev pub body_length : List Named → Result ℕ WireFault
body_length fields =
    if list_any (is_named (codes "transfer-encoding")) fields
    || nat_lt 1 (count_by (is_named (codes "content-length")) fields) then Err Length
    else length_field (find (is_named (codes "content-length")) fields)
