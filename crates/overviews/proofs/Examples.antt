-- What the lists show of the worked histories.
use Rattle.std.specs.Prelude.{◌≡◌, ℕ, false, List, [], ◌∷◌, codes, refl, pos, Some, None, Ok, Err}
use Rattle.commands.specs.declared.command.BinKind.TheVariants.{Store, Hold as HoldBin}
use Rattle.commands.specs.declared.command.Command.TheVariants.{Item, Urgent, Cancel, OpenDay, Ship, Recall, Least}
use Rattle.commands.specs.declared.refusal.Refusal.TheVariants.{UnknownBin, UnknownItem, UnknownLot, UnknownOrder}
use Rattle.commands.specs.declared.rows.ItemRow.{ItemRow}
use Rattle.commands.specs.declared.rows.OrderClass.TheVariants as class
use Rattle.commands.specs.declared.views.LotStatus.TheVariants.{Free, Expired, Recalled}
use Rattle.overviews.specs.declared.lists.OpenOrder.{OpenOrder}
use Rattle.overviews.specs.declared.lists.ItemLot.{ItemLot}
use Rattle.overviews.specs.declared.lists.BinLot.{BinLot}
use Rattle.overviews.specs.declared.lists.NamedItem.{NamedItem}
use Rattle.machine.specs.Acts.{Act}
use Rattle.machine.proofs.examples.ExampleHistories.{may_4, may_10, may_31, june_30, with_two_orders, with_early_lot, with_picks, OATS, RYE, A1, A2, Q1, S1, S2, L0, L1, L2, keyed, lot_of, receive, move}
use Rattle.overviews.specs.Shown.{books_shown, open_orders_shown, item_names_shown, expiring_shown, bin_shown}

abbrev S3 : List ℕ
S3 = codes "S-3"

abbrev oats : ItemRow
oats = record { gtin = OATS; name = codes "Oat drink" }

-- The books

the_books_tell_their_day : books_shown may_4 with_early_lot ≡ Ok (record { act = 10; day = may_4 })
the_books_tell_their_day = refl

new_books_have_no_act : books_shown may_4 [] ≡ Ok (record { act = 0; day = may_4 })
new_books_have_no_act = refl

-- Open orders

abbrev corner_shop : OpenOrder
corner_shop = record { class = class.Normal; customer = codes "Corner Shop"; order = S1; ordered = 12; reserved = 12; shipped = 0; short = 0; staged = 0 }

abbrev harbour_cafe : OpenOrder
harbour_cafe = record { class = class.Normal; customer = codes "Harbour Cafe"; order = S2; ordered = 12; reserved = 12; shipped = 0; short = 0; staged = 0 }

open_orders_stand_by_their_acts : open_orders_shown may_4 with_early_lot None ≡ Ok (record { act = 10; orders = corner_shop ∷ harbour_cafe ∷ []; more = false })
open_orders_stand_by_their_acts = refl

what_is_short_is_told : open_orders_shown may_4 with_two_orders (Some S1)
    ≡ Ok (record { act = 9; orders = record { class = class.Normal; customer = codes "Harbour Cafe"; order = S2; ordered = 12; reserved = 8; shipped = 0; short = 4; staged = 0 } ∷ []; more = false })
what_is_short_is_told = refl

behind_the_last_there_is_none : open_orders_shown may_4 with_early_lot (Some S2) ≡ Ok (record { act = 10; orders = []; more = false })
behind_the_last_there_is_none = refl

an_order_that_is_not_known_is_refused : open_orders_shown may_4 with_early_lot (Some S3) ≡ Err UnknownOrder
an_order_that_is_not_known_is_refused = refl

abbrev ten : Act
ten = keyed (codes "K-U") (Urgent (record { order = S3; customer = codes "Mill Inn"; lines = record { gtin = OATS; qty = 10 } ∷ [] }))

abbrev mill_inn : OpenOrder
mill_inn = record { class = class.Urgent; customer = codes "Mill Inn"; order = S3; ordered = 10; reserved = 10; shipped = 0; short = 0; staged = 0 }

an_urgent_order_stands_first : open_orders_shown may_4 (ten ∷ with_early_lot) None
    ≡ Ok (record {
      act = 11;
      orders = mill_inn ∷ corner_shop
          ∷ record { class = class.Normal; customer = codes "Harbour Cafe"; order = S2; ordered = 12; reserved = 3; shipped = 0; short = 9; staged = 0 } ∷ [];
      more = false;
    })
an_urgent_order_stands_first = refl

-- one who has seen the first of the others is told of no urgent one that came since
behind_a_normal_order_is_no_urgent_one : open_orders_shown may_4 (ten ∷ with_early_lot) (Some S1)
    ≡ Ok (record { act = 11; orders = record { class = class.Normal; customer = codes "Harbour Cafe"; order = S2; ordered = 12; reserved = 3; shipped = 0; short = 9; staged = 0 } ∷ []; more = false })
behind_a_normal_order_is_no_urgent_one = refl

staged_units_are_told : open_orders_shown may_4 with_picks None
    ≡ Ok (record {
      act = 12;
      orders = record { class = class.Normal; customer = codes "Corner Shop"; order = S1; ordered = 12; reserved = 0; shipped = 0; short = 0; staged = 12 } ∷ harbour_cafe ∷ [];
      more = false;
    })
staged_units_are_told = refl

abbrev shipped : List Act
shipped = keyed (codes "K-S") (Ship S1) ∷ with_picks

an_order_that_is_done_is_not_listed : open_orders_shown may_4 shipped None ≡ Ok (record { act = 13; orders = harbour_cafe ∷ []; more = false })
an_order_that_is_done_is_not_listed = refl

-- one who saw it last goes on behind it all the same
and_those_behind_it_are_found : open_orders_shown may_4 shipped (Some S1) ≡ Ok (record { act = 13; orders = harbour_cafe ∷ []; more = false })
and_those_behind_it_are_found = refl

an_order_that_is_cancelled_is_not_listed : open_orders_shown may_4 (keyed (codes "K-X") (Cancel S1) ∷ with_early_lot) None ≡ Ok (record { act = 11; orders = harbour_cafe ∷ []; more = false })
an_order_that_is_cancelled_is_not_listed = refl

-- shipped in part, since a recall took what was staged of a lot
abbrev shipped_in_part : List Act
shipped_in_part = keyed (codes "K-S") (Ship S1) ∷ keyed (codes "K-R") (Recall L2) ∷ with_picks

an_order_that_is_shipped_in_part_is_listed : open_orders_shown may_4 shipped_in_part None
    ≡ Ok (record {
      act = 14;
      orders = record { class = class.Normal; customer = codes "Corner Shop"; order = S1; ordered = 12; reserved = 7; shipped = 5; short = 0; staged = 0 }
          ∷ record { class = class.Normal; customer = codes "Harbour Cafe"; order = S2; ordered = 12; reserved = 3; shipped = 0; short = 9; staged = 0 } ∷ [];
      more = false;
    })
an_order_that_is_shipped_in_part_is_listed = refl

-- Items

abbrev rye : NamedItem
rye = record { item = record { gtin = RYE; name = codes "Rye bread" }; least = 0 }

items_stand_by_gtin : item_names_shown with_early_lot None ≡ Ok (record { act = 10; items = rye ∷ record { item = oats; least = 0 } ∷ []; more = false })
items_stand_by_gtin = refl

an_item_says_what_it_asks_for : item_names_shown (keyed (codes "K-N") (Least (record { gtin = OATS; days = 27 })) ∷ with_early_lot) (Some RYE)
    ≡ Ok (record { act = 11; items = record { item = oats; least = 27 } ∷ []; more = false })
an_item_says_what_it_asks_for = refl

-- a new item stands at its place, and is not behind those after it
a_new_item_stands_at_its_place : item_names_shown (keyed (codes "K-M") (Item (record { gtin = codes "05012345678900"; name = codes "Salt" })) ∷ with_early_lot) None
    ≡ Ok (record { act = 11; items = rye ∷ record { item = record { gtin = codes "05012345678900"; name = codes "Salt" }; least = 0 } ∷ record { item = oats; least = 0 } ∷ []; more = false })
a_new_item_stands_at_its_place = refl

behind_the_last_item_there_is_none : item_names_shown with_early_lot (Some OATS) ≡ Ok (record { act = 10; items = []; more = false })
behind_the_last_item_there_is_none = refl

an_item_that_is_not_known_is_refused : item_names_shown with_early_lot (Some (codes "00000000000017")) ≡ Err UnknownItem
an_item_that_is_not_known_is_refused = refl

-- Lots that expire

abbrev early : ItemLot
early = record { item = oats; lot = record { bins = record { bin = A1; qty = 5 } ∷ []; expiry = may_10; lot = codes "L0"; reserved = 5; staged = 0; status = Free } }

abbrev next : ItemLot
next = record { item = oats; lot = record { bins = record { bin = A1; qty = 10 } ∷ []; expiry = may_31; lot = codes "L2"; reserved = 10; staged = 0; status = Free } }

lots_stand_by_expiry : expiring_shown may_4 with_early_lot may_31 None ≡ Ok (record { act = 10; lots = early ∷ next ∷ []; more = false })
lots_stand_by_expiry = refl

a_lot_expires_up_to_its_day : expiring_shown may_4 with_early_lot may_10 None ≡ Ok (record { act = 10; lots = early ∷ []; more = false })
a_lot_expires_up_to_its_day = refl

none_expires_before : expiring_shown may_4 with_early_lot (pos 20582) None ≡ Ok (record { act = 10; lots = []; more = false })
none_expires_before = refl

those_behind_a_lot : expiring_shown may_4 with_early_lot may_31 (Some L0) ≡ Ok (record { act = 10; lots = next ∷ []; more = false })
those_behind_a_lot = refl

a_lot_that_never_came_is_refused : expiring_shown may_4 with_early_lot may_31 (Some (lot_of OATS (codes "L9"))) ≡ Err UnknownLot
a_lot_that_never_came_is_refused = refl

-- what is staged counts, and a lot of which all is shipped is not listed

a_staged_lot_is_listed : expiring_shown may_4 with_picks may_10 None
    ≡ Ok (record { act = 12; lots = record { item = oats; lot = record { bins = []; expiry = may_10; lot = codes "L0"; reserved = 0; staged = 5; status = Free } } ∷ []; more = false })
a_staged_lot_is_listed = refl

a_lot_that_is_gone_is_not : expiring_shown may_4 shipped may_10 None ≡ Ok (record { act = 13; lots = []; more = false })
a_lot_that_is_gone_is_not = refl

-- the next day is after the early lot's expiry
a_lot_that_has_expired_is_listed : expiring_shown may_4 (keyed (codes "K-D") (OpenDay may_31) ∷ with_early_lot) may_10 None
    ≡ Ok (record { act = 11; lots = record { item = oats; lot = record { bins = record { bin = A1; qty = 5 } ∷ []; expiry = may_10; lot = codes "L0"; reserved = 0; staged = 0; status = Expired } } ∷ []; more = false })
a_lot_that_has_expired_is_listed = refl

a_recalled_lot_says_so : expiring_shown may_4 (keyed (codes "K-R") (Recall L0) ∷ with_early_lot) may_10 None
    ≡ Ok (record { act = 11; lots = record { item = oats; lot = record { bins = record { bin = A1; qty = 5 } ∷ []; expiry = may_10; lot = codes "L0"; reserved = 0; staged = 0; status = Recalled } } ∷ []; more = false })
a_recalled_lot_says_so = refl

-- Lots in a bin

abbrev early_in_bin : BinLot
early_in_bin = record { item = oats; lot = codes "L0"; expiry = may_10; qty = 5; status = Free }

abbrev next_in_bin : BinLot
next_in_bin = record { item = oats; lot = codes "L2"; expiry = may_31; qty = 10; status = Free }

abbrev last_in_bin : BinLot
last_in_bin = record { item = oats; lot = codes "L1"; expiry = june_30; qty = 10; status = Free }

lots_in_a_bin_stand_by_expiry : bin_shown may_4 with_early_lot A1 None
    ≡ Ok (record { act = 10; bin = A1; kind = Store; lots = early_in_bin ∷ next_in_bin ∷ last_in_bin ∷ []; more = false })
lots_in_a_bin_stand_by_expiry = refl

those_behind_a_lot_in_a_bin : bin_shown may_4 with_early_lot A1 (Some L2) ≡ Ok (record { act = 10; bin = A1; kind = Store; lots = last_in_bin ∷ []; more = false })
those_behind_a_lot_in_a_bin = refl

-- rye bread has the smaller GTIN, so its lot stands first, though it came last and expires last
abbrev with_rye : List Act
with_rye = keyed (codes "K-Y") (receive (lot_of RYE (codes "RY")) june_30 A1 3) ∷ with_early_lot

abbrev rye_in_bin : BinLot
rye_in_bin = record { item = record { gtin = RYE; name = codes "Rye bread" }; lot = codes "RY"; expiry = june_30; qty = 3; status = Free }

lots_in_a_bin_stand_by_item : bin_shown may_4 with_rye A1 None
    ≡ Ok (record { act = 11; bin = A1; kind = Store; lots = rye_in_bin ∷ early_in_bin ∷ next_in_bin ∷ last_in_bin ∷ []; more = false })
lots_in_a_bin_stand_by_item = refl

behind_an_item_are_those_of_the_next : bin_shown may_4 with_rye A1 (Some (lot_of RYE (codes "RY")))
    ≡ Ok (record { act = 11; bin = A1; kind = Store; lots = early_in_bin ∷ next_in_bin ∷ last_in_bin ∷ []; more = false })
behind_an_item_are_those_of_the_next = refl

-- a lot lies in two bins, each shows what it has of it
abbrev moved : List Act
moved = keyed (codes "K-V") (move L2 A1 A2 4) ∷ with_early_lot

a_bin_shows_its_own_units : bin_shown may_4 moved A1 None
    ≡ Ok (record { act = 11; bin = A1; kind = Store; lots = early_in_bin ∷ record { item = oats; lot = codes "L2"; expiry = may_31; qty = 6; status = Free } ∷ last_in_bin ∷ []; more = false })
a_bin_shows_its_own_units = refl

and_the_other_bin_the_others : bin_shown may_4 moved A2 None
    ≡ Ok (record { act = 11; bin = A2; kind = Store; lots = record { item = oats; lot = codes "L2"; expiry = may_31; qty = 4; status = Free } ∷ []; more = false })
and_the_other_bin_the_others = refl

an_empty_bin : bin_shown may_4 with_early_lot Q1 None ≡ Ok (record { act = 10; bin = Q1; kind = HoldBin; lots = []; more = false })
an_empty_bin = refl

-- what is on a stage is in no bin; one who saw the lot last goes on behind it all the same
behind_a_lot_that_is_gone : bin_shown may_4 with_picks A1 (Some L0)
    ≡ Ok (record { act = 12; bin = A1; kind = Store; lots = record { item = oats; lot = codes "L2"; expiry = may_31; qty = 3; status = Free } ∷ last_in_bin ∷ []; more = false })
behind_a_lot_that_is_gone = refl

what_a_recall_brings_back_is_in_returns : bin_shown may_4 (keyed (codes "K-R") (Recall L2) ∷ with_picks) (codes "RETURNS") None
    ≡ Ok (record { act = 13; bin = codes "RETURNS"; kind = HoldBin; lots = record { item = oats; lot = codes "L2"; expiry = may_31; qty = 7; status = Recalled } ∷ []; more = false })
what_a_recall_brings_back_is_in_returns = refl

a_recalled_lot_in_a_bin_says_so : bin_shown may_4 (keyed (codes "K-R") (Recall L1) ∷ with_early_lot) A1 (Some L2)
    ≡ Ok (record { act = 11; bin = A1; kind = Store; lots = record { item = oats; lot = codes "L1"; expiry = june_30; qty = 10; status = Recalled } ∷ []; more = false })
a_recalled_lot_in_a_bin_says_so = refl

a_bin_that_is_not_known_is_refused : bin_shown may_4 with_early_lot (codes "B-99") None ≡ Err UnknownBin
a_bin_that_is_not_known_is_refused = refl

-- also where the lot is not known either
the_bin_is_judged_first : bin_shown may_4 with_early_lot (codes "B-99") (Some (lot_of OATS (codes "L9"))) ≡ Err UnknownBin
the_bin_is_judged_first = refl

behind_a_lot_that_never_came_there_is_nothing : bin_shown may_4 with_early_lot A1 (Some (lot_of OATS (codes "L9"))) ≡ Err UnknownLot
behind_a_lot_that_never_came_there_is_nothing = refl
