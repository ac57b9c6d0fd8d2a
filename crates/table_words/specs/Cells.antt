-- What a column of a stored row reads as.
use Rattle.std.specs.Prelude.{ℕ, ℤ, Bool, true, false, ◌&&◌, nat_eq, nat_le, nat_lt, int_le, bytes_eq, length, List, map, filter, pos, negsuc, is_some, unwrap_or}
use Rattle.sqlite_value.specs.declared.value.Value.{Value}
use Rattle.sqlite_value.specs.declared.value.Value.TheVariants.{Int, Text}
use Rattle.sqlite_value.specs.Order.{Row, bytes}
use Rattle.values.specs.Values.{QTY_MAX, is_between}
use Rattle.label.specs.Days.{is_day}
use Rattle.commands.specs.Words.{bin_kind_of, order_state_of, card_kind_of}
use Rattle.commands.specs.declared.limits.TheConstants.{UNITS_MAX}
use Rattle.commands.specs.declared.command.BinKind.{BinKind}
use Rattle.commands.specs.declared.command.BinKind.TheVariants.{Hold}
use Rattle.commands.specs.declared.rows.OrderState.{OrderState}
use Rattle.commands.specs.declared.rows.OrderState.TheVariants.{Open, Done, Cancelled}
use Rattle.commands.specs.declared.rows.CardKind.{CardKind}
use Rattle.commands.specs.declared.rows.CardKind.TheVariants.{Shipment}

-- the rows that read as typed ones, the oldest first
abbrev pub typed : {X : Type 0} → (Row → Bool) → (Row → X) → List Row → List X
typed is read rows = map read (filter is rows)

-- ---- texts

-- a text that keeps the rule
abbrev pub is_word : (List ℕ → Bool) → Value → Bool
is_word rule (Text t) = rule t
is_word rule _ = false

-- whether the value is this text
abbrev pub is_the_text : List ℕ → Value → Bool
is_the_text t (Text s) = bytes_eq t s
is_the_text t _ = false

-- at most so many bytes
abbrev pub fits_in : ℕ → List ℕ → Bool
fits_in most t = nat_le (length t) most

abbrev pub is_any : List ℕ → Bool
is_any t = true

-- ---- numbers

-- a number from 0 to the limit
abbrev pub is_number : ℕ → Value → Bool
is_number limit (Int (pos n)) = nat_le n limit
is_number limit _ = false

-- a number from 1 to the limit
abbrev pub is_count : ℕ → Value → Bool
is_count limit (Int (pos n)) = is_between 1 limit n
is_count limit _ = false

abbrev pub number_in : Value → ℕ
number_in (Int (pos n)) = n
number_in _ = 0

-- whether the value is this number
abbrev pub is_the_number : ℕ → Value → Bool
is_the_number n (Int (pos m)) = nat_eq n m
is_the_number n _ = false

-- a number, below 0 or not, that keeps the rule
abbrev pub is_signed : (ℤ → Bool) → Value → Bool
is_signed rule (Int n) = rule n
is_signed rule _ = false

abbrev pub signed_in : Value → ℤ
signed_in (Int n) = n
signed_in _ = pos 0

-- the units of a card line: one command brings 1 to 1,000,000, and a count may write off all that an item has
abbrev pub is_card_units : ℤ → Bool
is_card_units (pos n) = is_between 1 QTY_MAX n
is_card_units (negsuc n) = nat_lt n UNITS_MAX

-- the expiry of a lot, which was not past when units of it first came: none is before 2000-01-01, the first day of books
abbrev pub is_expiry : ℤ → Bool
is_expiry n = int_le (pos 10_957) n && is_day n

-- ---- yes and no, as 1 and 0

abbrev pub flag_number : Bool → ℕ
flag_number true = 1
flag_number false = 0

abbrev pub flag_in : Value → Bool
flag_in v = nat_eq (number_in v) 1

-- ---- words of a few

abbrev pub is_bin_kind : List ℕ → Bool
is_bin_kind t = is_some (bin_kind_of t)

abbrev pub bin_kind_in : Value → BinKind
bin_kind_in v = unwrap_or (bin_kind_of (bytes v)) Hold

abbrev pub is_order_state : List ℕ → Bool
is_order_state t = is_some (order_state_of t)

abbrev pub is_open_state : OrderState → Bool
is_open_state Open = true
is_open_state Done = false
is_open_state Cancelled = false

abbrev pub order_state_in : Value → OrderState
order_state_in v = unwrap_or (order_state_of (bytes v)) Cancelled

abbrev pub is_card_kind : List ℕ → Bool
is_card_kind t = is_some (card_kind_of t)

abbrev pub card_kind_in : Value → CardKind
card_kind_in v = unwrap_or (card_kind_of (bytes v)) Shipment
