-- Worked examples of goods-in files.
use Rattle.std.specs.Prelude.{◌≡◌, ℕ, List, [], ◌∷◌, ◌++◌, codes, refl, ℤ, pos, Some, None, Ok, Err}
use Rattle.csv.proofs.OnLiterals.{csv_on_literals}
use Rattle.csv.specs.Records.{field_at}
use Rattle.label.specs.Expiry.{expiry_read}
use Rattle.label.specs.Days.{day_number}
use Rattle.label.proofs.OnLiterals.{dates_on_literals}
use Rattle.goodsin.proofs.Words.{Key, Line, Command, file_read, file_records, row_read, Fields, command_of, number_of, Header, Row, TooManyRows, Length}
use Rattle.commands.specs.declared.command.Command.TheVariants.{Receive}

-- 2026-05-04
abbrev today : ℤ
today = pos 20577

abbrev LF : List ℕ
LF = 10 ∷ []

abbrev header : List ℕ
header = codes "delivery,line,gtin,lot,expiry,bin,qty" ++ LF

-- a row, with another line and another quantity
abbrev row_with : List ℕ → List ℕ → List ℕ
row_with line qty = codes "D-9," ++ line ++ codes ",09506000134352,M1,261200,A-01," ++ qty ++ LF

abbrev fields_with : List ℕ → List ℕ → Fields
fields_with line qty = codes "D-9" ∷ line ∷ codes "09506000134352" ∷ codes "M1" ∷ codes "261200" ∷ codes "A-01" ∷ qty ∷ []

-- D-9 line 1: 5 of the lot M1 into A-01, to be sold by the last day of December
abbrev received : Key × Command
received = (Line (codes "D-9") 1, Receive (record { lot = record { gtin = codes "09506000134352"; lot = codes "M1" }; expiry = day_number 2026 12 31; bin = codes "A-01"; qty = 5 }))

empty_file : file_read today [] ≡ Err Header
unfolding csv_on_literals field_at
empty_file = refl

header_alone : file_read today header ≡ Ok []
unfolding csv_on_literals field_at
header_alone = refl

quoted_field_is_the_field : file_records (codes "\"a,b\",c" ++ LF) ≡ (codes "a,b" ∷ codes "c" ∷ []) ∷ []
unfolding csv_on_literals field_at
quoted_field_is_the_field = refl

row_is_received : command_of today (fields_with (codes "1") (codes "5")) ≡ Some received
unfolding csv_on_literals dates_on_literals field_at expiry_read
row_is_received = refl

file_of_a_row : file_read today (header ++ row_with (codes "1") (codes "5")) ≡ Ok (received ∷ [])
unfolding csv_on_literals dates_on_literals field_at expiry_read
file_of_a_row = refl

second_row_of_no_units : file_read today (header ++ row_with (codes "1") (codes "5") ++ row_with (codes "2") (codes "0")) ≡ Err (Row 2)
unfolding csv_on_literals dates_on_literals field_at expiry_read
second_row_of_no_units = refl

line_with_a_zero_before_it : file_read today (header ++ row_with (codes "01") (codes "5")) ≡ Err (Row 1)
unfolding csv_on_literals dates_on_literals field_at expiry_read
line_with_a_zero_before_it = refl

row_of_six_fields : file_read today (header ++ codes "D-9,1,09506000134352,M1,261200,A-01") ≡ Err Length
unfolding csv_on_literals field_at
row_of_six_fields = refl

row_1001_is_one_too_many : row_read today 1001 (fields_with (codes "01") (codes "0")) ≡ Err TooManyRows
row_1001_is_one_too_many = refl

seven_digits_are_a_number : number_of (codes "1000000") ≡ Some 1_000_000
seven_digits_are_a_number = refl

sign_is_no_digit : number_of (codes "+5") ≡ None
sign_is_no_digit = refl
