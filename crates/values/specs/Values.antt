-- The rules of the values that labels and commands are made of. A text is the list of its bytes.
use Rattle.std.specs.Prelude.{ℕ, slice_index, Option, Some, None, if◌then◌else◌, ◌-◌, ◌+◌, ◌*◌, ◌%◌, Bool, false, not, ◌&&◌, ◌||◌, ◌==◌, nat_le, List, [], ◌∷◌, length, codes, ℤ, unsigned_abs}
use Rattle.std.specs.List.{list_all, list_any}
use Rattle.std.specs.Str.{bytes_eq, all_ascii_digits}

-- n lies from low to high, both included
abbrev pub is_between : ℕ → ℕ → ℕ → Bool
is_between low high n = nat_le low n && nat_le n high

abbrev pub same_text : List ℕ → List ℕ → Bool
same_text = bytes_eq

abbrev pub is_one_of : List ℕ → ℕ → Bool
is_one_of set c = list_any (λ d. c == d) set

-- the value, if it keeps the rule
abbrev pub checked : {X : Type 0} → (X → Bool) → X → Option X
checked rule x = if rule x then Some x else None

-- the limits
abbrev pub QTY_MAX : ℕ
QTY_MAX = 1_000_000

abbrev pub LINE_MAX : ℕ
LINE_MAX = 9_999

abbrev pub LEAST_DAYS_MAX : ℕ
LEAST_DAYS_MAX = 3_650

abbrev pub LOT_MAX : ℕ
LOT_MAX = 20

abbrev pub NAME_MAX : ℕ
NAME_MAX = 20

abbrev pub TITLE_MAX : ℕ
TITLE_MAX = 40

abbrev pub is_upper : ℕ → Bool
is_upper = is_between 65 90

abbrev pub is_lower : ℕ → Bool
is_lower = is_between 97 122

abbrev pub is_digit : ℕ → Bool
is_digit = is_between 48 57

-- the number that digits write, after those before it
abbrev pub number_from : ℕ → List ℕ → ℕ
number_from n [] = n
number_from n (c ∷ cs) = number_from (n * 10 + (c - 48)) cs

-- names of orders, deliveries, bins and request keys: capitals, digits and the dash
abbrev pub is_name_char : ℕ → Bool
is_name_char c = is_upper c || is_digit c || (c == 45)

abbrev pub is_name : List ℕ → Bool
is_name s = is_between 1 NAME_MAX (length s) && list_all is_name_char s

-- no space at either end
abbrev pub has_no_edge_space : List ℕ → Bool
has_no_edge_space s = not (slice_index s 0 == 32) && not (slice_index s (length s - 1) == 32)

-- names of items and customers: printable ASCII
abbrev pub is_title : List ℕ → Bool
is_title s = is_between 1 TITLE_MAX (length s) && list_all (is_between 32 126) s && has_no_edge_space s

-- character set 82 of the GS1 General Specifications
abbrev pub is_set_82 : ℕ → Bool
is_set_82 c = is_upper c || is_lower c || is_digit c || is_one_of (codes "!\"%&'()*+,-./:;<=>?_") c

abbrev pub is_lot_text : List ℕ → Bool
is_lot_text s = is_between 1 LOT_MAX (length s) && list_all is_set_82 s

-- the digits' values with the weights 3 and 1 in turn, the first one w
abbrev pub weighted_sum : ℕ → List ℕ → ℕ
weighted_sum w [] = 0
weighted_sum w (c ∷ cs) = w * (c - 48) + weighted_sum (4 - w) cs

abbrev pub first_is : ℕ → List ℕ → Bool
first_is d [] = false
first_is d (c ∷ cs) = c == d

-- fourteen digits, the first not 9, whose weighted sum is a multiple of ten
abbrev pub is_gtin : List ℕ → Bool
is_gtin s = (length s == 14) && all_ascii_digits s && not (slice_index s 0 == 57) && (weighted_sum 3 s % 10 == 0)

abbrev pub is_qty : ℕ → Bool
is_qty n = is_between 1 QTY_MAX n

-- what is found in a bin, which may be nothing
abbrev pub is_counted : ℕ → Bool
is_counted n = is_between 0 QTY_MAX n

-- by how much a quantity is changed, up or down, and not by nothing
abbrev pub is_delta : ℤ → Bool
is_delta n = is_between 1 QTY_MAX (unsigned_abs n)

abbrev pub is_line_no : ℕ → Bool
is_line_no n = is_between 1 LINE_MAX n

-- the least remaining days of an item are 0 to 3,650
abbrev pub is_least_days : ℕ → Bool
is_least_days n = is_between 0 LEAST_DAYS_MAX n
