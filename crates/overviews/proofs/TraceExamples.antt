-- What traces show of the worked histories.
use Rattle.std.specs.Prelude.{◌≡◌, ℕ, List, [], ◌∷◌, codes, refl, pos, Ok, Err}
use Rattle.commands.specs.declared.command.Command.TheVariants.{Ship, Recall, Count, Adjust}
use Rattle.commands.specs.declared.refusal.Refusal.TheVariants.{UnknownItem, UnknownLot}
use Rattle.commands.specs.declared.rows.ItemRow.{ItemRow}
use Rattle.commands.specs.declared.views.LotStatus.TheVariants.{Free, Recalled}
use Rattle.machine.specs.Acts.{Act}
use Rattle.machine.proofs.examples.ExampleHistories.{may_4, may_31, june_30, with_early_lot, with_picks, with_one_lot, OATS, A1, A2, S1, L1, L2, keyed, delivered, lot_of, receive}
use Rattle.overviews.specs.Shown.{trace_shown}

abbrev oats : ItemRow
oats = record { gtin = OATS; name = codes "Oat drink" }

abbrev RETURNS : List ℕ
RETURNS = codes "RETURNS"

-- The two customers, before the recall: lot L2 came by act 7 with 10 units, 7 of them are staged for S-1.
a_lot_that_is_staged : trace_shown may_4 with_picks L2
    ≡ Ok (record {
      act = 12;
      bins = record { bin = A1; qty = 3 } ∷ [];
      deliveries = record { act = 7; day = may_4; delivery = codes "D-1"; line = 2; qty = 10 } ∷ [];
      expiry = may_31;
      item = oats;
      lot = codes "L2";
      off = 0;
      on = 0;
      received = 10;
      shipments = [];
      staged = record { customer = codes "Corner Shop"; order = S1; qty = 7 } ∷ [];
      status = Free;
    })
a_lot_that_is_staged = refl

-- The staged units are shipped.
abbrev with_shipment : List Act
with_shipment = keyed (codes "K-13") (Ship S1) ∷ with_picks

a_lot_that_is_shipped : trace_shown may_4 with_shipment L2
    ≡ Ok (record {
      act = 13;
      bins = record { bin = A1; qty = 3 } ∷ [];
      deliveries = record { act = 7; day = may_4; delivery = codes "D-1"; line = 2; qty = 10 } ∷ [];
      expiry = may_31;
      item = oats;
      lot = codes "L2";
      off = 0;
      on = 0;
      received = 10;
      shipments = record { number = 1; day = may_4; qty = 7; order = S1; customer = codes "Corner Shop" } ∷ [];
      staged = [];
      status = Free;
    })
a_lot_that_is_shipped = refl

-- The recall finds units on the stage: they are in RETURNS then.
a_lot_that_is_recalled : trace_shown may_4 (keyed (codes "K-13") (Recall L2) ∷ with_picks) L2
    ≡ Ok (record {
      act = 13;
      bins = record { bin = A1; qty = 3 } ∷ record { bin = RETURNS; qty = 7 } ∷ [];
      deliveries = record { act = 7; day = may_4; delivery = codes "D-1"; line = 2; qty = 10 } ∷ [];
      expiry = may_31;
      item = oats;
      lot = codes "L2";
      off = 0;
      on = 0;
      received = 10;
      shipments = [];
      staged = [];
      status = Recalled;
    })
a_lot_that_is_recalled = refl

-- A lot that came twice. 3 units were written on, and then a count found 9 where there were 13.
abbrev came_twice : List Act
came_twice =
    keyed (codes "K-9") (Count (record { lot = L1; bin = A1; qty = 9 }))
    ∷ keyed (codes "K-8") (Adjust (record { lot = L1; bin = A1; change = pos 3 }))
    ∷ delivered (codes "D-7") 14 (receive L1 june_30 A2 6) ∷ with_one_lot

a_lot_that_came_twice : trace_shown may_4 came_twice L1
    ≡ Ok (record {
      act = 9;
      bins = record { bin = A1; qty = 9 } ∷ record { bin = A2; qty = 6 } ∷ [];
      deliveries = record { act = 6; day = may_4; delivery = codes "D-1"; line = 1; qty = 10 } ∷ record { act = 7; day = may_4; delivery = codes "D-7"; line = 14; qty = 6 } ∷ [];
      expiry = june_30;
      item = oats;
      lot = codes "L1";
      off = 4;
      on = 3;
      received = 16;
      shipments = [];
      staged = [];
      status = Free;
    })
a_lot_that_came_twice = refl

a_trace_of_a_lot_that_never_came : trace_shown may_4 with_early_lot (lot_of OATS (codes "L9")) ≡ Err UnknownLot
a_trace_of_a_lot_that_never_came = refl

a_trace_of_an_item_that_is_not_known : trace_shown may_4 with_early_lot (lot_of (codes "00000000000017") (codes "L1")) ≡ Err UnknownItem
a_trace_of_an_item_that_is_not_known = refl
