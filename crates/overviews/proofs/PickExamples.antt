-- What the pick lists of the worked histories say.
use Rattle.std.specs.Prelude.{◌≡◌, ℕ, List, [], ◌∷◌, codes, refl, Ok, Err}
use Rattle.commands.specs.declared.command.Command.TheVariants.{Cancel, Order, Ship, Recall, Least}
use Rattle.commands.specs.declared.refusal.Refusal.TheVariants.{UnknownOrder}
use Rattle.commands.specs.declared.rows.ItemRow.{ItemRow}
use Rattle.commands.specs.declared.rows.OrderState.TheVariants.{Open, Done, Cancelled}
use Rattle.commands.specs.declared.views.BinUnits.{BinUnits}
use Rattle.commands.specs.declared.views.ReservedLot.{ReservedLot}
use Rattle.overviews.specs.declared.picks.PickLine.{PickLine}
use Rattle.machine.specs.Acts.{Act}
use Rattle.machine.proofs.examples.ExampleHistories.{may_4, may_10, may_31, june_30, with_two_orders, with_early_lot, with_picks, OATS, RYE, A1, A2, Q1, S1, S2, L2, keyed, lot_of, receive, move}
use Rattle.overviews.specs.Picks.{picks_shown}

abbrev S3 : List ℕ
S3 = codes "S-3"

abbrev oats : ItemRow
oats = record { gtin = OATS; name = codes "Oat drink" }

abbrev in_bin : List ℕ → ℕ → BinUnits
in_bin bin qty = record { bin = bin; qty = qty }

-- what is to be taken of the lots

abbrev five_of_early : ReservedLot
five_of_early = record { lot = codes "L0"; expiry = may_10; qty = 5; bins = in_bin A1 5 ∷ [] }

-- a bin shows all that it has of the lot
abbrev seven_of_next : ReservedLot
seven_of_next = record { lot = codes "L2"; expiry = may_31; qty = 7; bins = in_bin A1 10 ∷ [] }

-- what is left to be picked of the twelve units, with nothing shipped
abbrev oats_line : ℕ → ℕ → List ReservedLot → PickLine
oats_line short staged take = record { item = oats; least = 0; ordered = 12; shipped = 0; short = short; staged = staged; take = take }

the_lot_that_expires_first_is_taken_first : picks_shown may_4 with_early_lot S1
    ≡ Ok (record { customer = codes "Corner Shop"; lines = oats_line 0 0 (five_of_early ∷ seven_of_next ∷ []) ∷ []; order = S1; state = Open })
the_lot_that_expires_first_is_taken_first = refl

what_is_short_is_on_no_lot : picks_shown may_4 with_two_orders S2
    ≡ Ok (record { customer = codes "Harbour Cafe"; lines = oats_line 4 0 (record { lot = codes "L1"; expiry = june_30; qty = 8; bins = in_bin A1 10 ∷ [] } ∷ []) ∷ []; order = S2; state = Open })
what_is_short_is_on_no_lot = refl

-- the lot lies in two bins, and both are named
both_bins_of_a_lot_are_named : picks_shown may_4 (keyed (codes "K-V") (move L2 A1 A2 4) ∷ with_early_lot) S1
    ≡ Ok (record {
      customer = codes "Corner Shop";
      lines = oats_line 0 0 (five_of_early ∷ record { lot = codes "L2"; expiry = may_31; qty = 7; bins = in_bin A1 6 ∷ in_bin A2 4 ∷ [] } ∷ []) ∷ [];
      order = S1;
      state = Open;
    })
both_bins_of_a_lot_are_named = refl

-- nothing is reserved of what lies in a HOLD bin, and the bin is not named
a_hold_bin_is_not_named : picks_shown may_4 (keyed (codes "K-V") (move L2 A1 Q1 4) ∷ with_early_lot) S1
    ≡ Ok (record {
      customer = codes "Corner Shop";
      lines = oats_line 0 0 (
          five_of_early ∷ record { lot = codes "L2"; expiry = may_31; qty = 6; bins = in_bin A1 6 ∷ [] }
          ∷ record { lot = codes "L1"; expiry = june_30; qty = 1; bins = in_bin A1 10 ∷ [] } ∷ []
          ) ∷ [];
      order = S1;
      state = Open;
    })
a_hold_bin_is_not_named = refl

what_is_staged_is_taken_no_more : picks_shown may_4 with_picks S1
    ≡ Ok (record { customer = codes "Corner Shop"; lines = oats_line 0 12 [] ∷ []; order = S1; state = Open })
what_is_staged_is_taken_no_more = refl

-- the recall takes seven staged units back, and the lot that expires last stands in
a_recalled_lot_is_made_good : picks_shown may_4 (keyed (codes "K-R") (Recall L2) ∷ with_picks) S1
    ≡ Ok (record { customer = codes "Corner Shop"; lines = oats_line 0 5 (record { lot = codes "L1"; expiry = june_30; qty = 7; bins = in_bin A1 10 ∷ [] } ∷ []) ∷ []; order = S1; state = Open })
a_recalled_lot_is_made_good = refl

an_order_that_is_done : picks_shown may_4 (keyed (codes "K-S") (Ship S1) ∷ with_picks) S1
    ≡ Ok (record { customer = codes "Corner Shop"; lines = record { item = oats; least = 0; ordered = 12; shipped = 12; short = 0; staged = 0; take = [] } ∷ []; order = S1; state = Done })
an_order_that_is_done = refl

an_order_that_is_cancelled_needs_nothing : picks_shown may_4 (keyed (codes "K-X") (Cancel S2) ∷ with_two_orders) S2
    ≡ Ok (record { customer = codes "Harbour Cafe"; lines = oats_line 0 0 [] ∷ []; order = S2; state = Cancelled })
an_order_that_is_cancelled_needs_nothing = refl

-- An order of two items: rye bread has the smaller GTIN, so its line stands first; it asks for 30 days

abbrev with_rye : List Act
with_rye =
    keyed (codes "K-3") (Order (record { order = S3; customer = codes "Mill Inn"; lines = record { gtin = OATS; qty = 2 } ∷ record { gtin = RYE; qty = 4 } ∷ [] }))
    ∷ keyed (codes "K-N") (Least (record { gtin = RYE; days = 30 })) ∷ keyed (codes "K-Y") (receive (lot_of RYE (codes "RY")) june_30 A1 3) ∷ with_early_lot

each_line_has_its_item : picks_shown may_4 with_rye S3
    ≡ Ok (record {
      customer = codes "Mill Inn";
      lines = record {
        item = record { gtin = RYE; name = codes "Rye bread" };
        least = 30;
        ordered = 4;
        shipped = 0;
        short = 1;
        staged = 0;
        take = record { lot = codes "RY"; expiry = june_30; qty = 3; bins = in_bin A1 3 ∷ [] } ∷ [];
      }
          ∷ record { item = oats; least = 0; ordered = 2; shipped = 0; short = 1; staged = 0; take = record { lot = codes "L1"; expiry = june_30; qty = 1; bins = in_bin A1 10 ∷ [] } ∷ [] }
          ∷ [];
      order = S3;
      state = Open;
    })
each_line_has_its_item = refl

an_order_that_is_not_known_has_no_picks : picks_shown may_4 with_early_lot S3 ≡ Err UnknownOrder
an_order_that_is_not_known_has_no_picks = refl
