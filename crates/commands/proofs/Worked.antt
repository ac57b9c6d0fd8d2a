-- Worked examples.
use Rattle.commands.proofs.Below.{◌≡◌, ℕ, true, false, List, [], ◌∷◌, refl, pos, negsuc, codes, LotId, ORDER_LINES_MAX, ITEMS_MAX, BINS_MAX, UNITS_MAX, OPEN_MAX, ACTS_MAX, SHORT_MAX, KEY_TEXT_MAX, CARD_NOTE_MAX, MARK, SCHEMA_VERSION, is_sound, is_sound_key, Plain, Line, Command, Receive, Adjust, Order, OpenDay, Least}
use Rattle.std.specs.Fmt.{digits}
use Rattle.label.specs.Days.{date_in_year, date_after, date_of}
use Rattle.commands.specs.Refusals.{refusal_code}
use Rattle.commands.specs.Spelling.{spelling, key_text}
use Rattle.commands.specs.declared.refusal.Refusal.TheVariants.{OverReserved, NoNotice}
use Rattle.commands.specs.declared.command.Command.TheVariants.{Hold}

abbrev OAT : List ℕ
OAT = codes "09506000134352"

abbrev RYE : List ℕ
RYE = codes "04012345000016"

abbrev lot : List ℕ → LotId
lot text = record { gtin = OAT; lot = text }

abbrev receipt : Command
receipt = Receive (record { lot = lot (codes "L1"); expiry = pos 20_634; bin = codes "A-01"; qty = 10 })

receipt_spelling : spelling receipt ≡ codes "RECEIVE\n09506000134352\nL1\n2026-06-30\nA-01\n10"
unfolding spelling digits date_in_year date_after date_of
receipt_spelling = refl

receipt_is_sound : is_sound receipt ≡ true
receipt_is_sound = refl

written_off : spelling (Adjust (record { lot = lot (codes "A/B"); bin = codes "A-01"; change = negsuc 1 })) ≡ codes "ADJUST\n09506000134352\nA/B\nA-01\n-2"
unfolding spelling digits
written_off = refl

held_lot : spelling (Hold (lot (codes "L2"))) ≡ codes "HOLD\n09506000134352\nL2"
unfolding spelling
held_lot = refl

abbrev order : Command
order = Order (record { order = codes "S-1"; customer = codes "Corner Shop"; lines = record { gtin = OAT; qty = 12 } ∷ record { gtin = RYE; qty = 3 } ∷ [] })

order_spelling : spelling order ≡ codes "ORDER\nS-1\nCorner Shop\n09506000134352\n12\n04012345000016\n3"
unfolding spelling digits
order_spelling = refl

order_is_sound : is_sound order ≡ true
order_is_sound = refl

request_key : key_text (Plain (codes "K-9")) ≡ codes "K/K-9"
request_key = refl

receipt_key : key_text (Line (codes "D-1") 2) ≡ codes "D/D-1/2"
unfolding digits
receipt_key = refl

-- without the rules of the values two orders have one spelling: here a line of the one stands in the customer of the other
abbrev smuggled : Command
smuggled = Order (record { order = codes "S-1"; customer = codes "Corner Shop\n09506000134352\n12"; lines = record { gtin = RYE; qty = 3 } ∷ [] })

smuggled_spelling : spelling smuggled ≡ spelling order
unfolding spelling digits
smuggled_spelling = refl

smuggled_is_unsound : is_sound smuggled ≡ false
smuggled_is_unsound = refl

-- 2200-01-01 is no business day
late_day_is_unsound : is_sound (OpenDay (pos 84_006)) ≡ false
late_day_is_unsound = refl

-- a line is one of 1 to 9,999
line_zero_is_unsound : is_sound_key (Line (codes "D-1") 0) ≡ false
line_zero_is_unsound = refl

more_than_reserved : refusal_code OverReserved ≡ codes "Q02"
more_than_reserved = refl

not_recalled : refusal_code NoNotice ≡ codes "N01"
not_recalled = refl

limits_of_the_warehouse : ◌≡◌ {A = List ℕ} (ORDER_LINES_MAX ∷ ITEMS_MAX ∷ BINS_MAX ∷ UNITS_MAX ∷ OPEN_MAX ∷ ACTS_MAX ∷ []) (200 ∷ 10_000 ∷ 10_000 ∷ 10_000_000_000 ∷ 10_000_000_000 ∷ 1_000_000_000_000 ∷ [])
limits_of_the_warehouse = refl

lengths_in_place : ◌≡◌ {A = List ℕ} (SHORT_MAX ∷ KEY_TEXT_MAX ∷ CARD_NOTE_MAX ∷ []) (96 ∷ 27 ∷ 25 ∷ [])
lengths_in_place = refl

mark_of_the_books : MARK.now ≡ codes "LOTSTOCK"
mark_of_the_books = refl

schema : ◌≡◌ {A = ℕ} SCHEMA_VERSION 4
schema = refl

least_spelling : spelling (Least (record { gtin = OAT; days = 27 })) ≡ codes "LEAST\n09506000134352\n27"
unfolding spelling digits
least_spelling = refl

ten_years_are_too_many : is_sound (Least (record { gtin = OAT; days = 3_651 })) ≡ false
ten_years_are_too_many = refl
