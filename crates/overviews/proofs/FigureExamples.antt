-- The figures of the worked histories.
use Rattle.std.specs.Prelude.{◌≡◌, ℕ, List, [], ◌∷◌, codes, refl, ℤ, Result, Ok}
use Rattle.commands.specs.declared.command.Command.TheVariants.{Cancel, Hold, OpenDay, Recall, Ship, Urgent}
use Rattle.commands.specs.declared.refusal.Refusal.{Refusal}
use Rattle.overviews.specs.declared.figures.FiguresView.{FiguresView}
use Rattle.overviews.specs.declared.figures.LotFigures.{LotFigures}
use Rattle.overviews.specs.declared.figures.OpenFigures.{OpenFigures}
use Rattle.overviews.specs.declared.figures.UnitFigures.{UnitFigures}
use Rattle.machine.specs.Acts.{Act}
use Rattle.machine.proofs.examples.ExampleHistories.{may_4, may_31, june_1, with_two_orders, with_early_lot, with_picks, OATS, A1, Q1, S1, L0, L1, L2, keyed, lot_of, move}
use Rattle.overviews.specs.Figures.{figures_shown}

-- The figures in the order in which they are written

abbrev figures : ℕ → ℤ → LotFigures → OpenFigures → UnitFigures → Result FiguresView Refusal
figures act day lots open_orders units = Ok (record { act = act; day = day; lots = lots; open_orders = open_orders; units = units })

abbrev lot_count : (expired held recalled : ℕ) → LotFigures
lot_count expired held recalled = record { expired = expired; held = held; recalled = recalled }

abbrev order_count : (orders short staged urgent : ℕ) → OpenFigures
order_count orders short staged urgent = record { orders = orders; short = short; staged = staged; urgent = urgent }

abbrev units : (house returns : ℕ) → UnitFigures
units house returns = record { house = house; returns = returns }

new_books_have_no_figures : figures_shown may_4 [] ≡ figures 0 may_4 (lot_count 0 0 0) (order_count 0 0 0 0) (units 0 0)
new_books_have_no_figures = refl

-- Orders

two_orders_are_open : figures_shown may_4 with_early_lot ≡ figures 10 may_4 (lot_count 0 0 0) (order_count 2 0 0 0) (units 25 0)
two_orders_are_open = refl

one_of_two_is_short : figures_shown may_4 with_two_orders ≡ figures 9 may_4 (lot_count 0 0 0) (order_count 2 1 0 0) (units 20 0)
one_of_two_is_short = refl

abbrev ten : Act
ten = keyed (codes "K-U") (Urgent (record { order = codes "S-3"; customer = codes "Mill Inn"; lines = record { gtin = OATS; qty = 10 } ∷ [] }))

-- the urgent order takes what the second order had
an_urgent_order_is_counted : figures_shown may_4 (ten ∷ with_early_lot) ≡ figures 11 may_4 (lot_count 0 0 0) (order_count 3 1 0 1) (units 25 0)
an_urgent_order_is_counted = refl

-- units on a stage are in the house
an_order_with_units_staged_is_counted : figures_shown may_4 with_picks ≡ figures 12 may_4 (lot_count 0 0 0) (order_count 2 0 1 0) (units 25 0)
an_order_with_units_staged_is_counted = refl

abbrev shipped : List Act
shipped = keyed (codes "K-S") (Ship S1) ∷ with_picks

an_order_that_is_done_is_not_counted : figures_shown may_4 shipped ≡ figures 13 may_4 (lot_count 0 0 0) (order_count 1 0 0 0) (units 13 0)
an_order_that_is_done_is_not_counted = refl

an_order_that_is_cancelled_is_not_counted : figures_shown may_4 (keyed (codes "K-X") (Cancel S1) ∷ with_two_orders) ≡ figures 10 may_4 (lot_count 0 0 0) (order_count 1 0 0 0) (units 20 0)
an_order_that_is_cancelled_is_not_counted = refl

-- Lots

-- the first lot expired on 10 May, the second may ship on 31 May; so the second order is short
an_expired_lot_is_counted : figures_shown may_4 (keyed (codes "K-D") (OpenDay may_31) ∷ with_early_lot) ≡ figures 11 may_31 (lot_count 1 0 0) (order_count 2 1 0 0) (units 25 0)
an_expired_lot_is_counted = refl

-- the first lot is shipped whole; of the second three units are there, and it has expired
a_lot_that_is_gone_is_not_counted : figures_shown may_4 (keyed (codes "K-D") (OpenDay june_1) ∷ shipped) ≡ figures 14 june_1 (lot_count 1 0 0) (order_count 1 1 0 0) (units 13 0)
a_lot_that_is_gone_is_not_counted = refl

-- held comes before expired, and recalled before held
a_held_lot_that_expires_stays_held : figures_shown may_4 (keyed (codes "K-D") (OpenDay may_31) ∷ keyed (codes "K-H") (Hold L0) ∷ with_early_lot)
    ≡ figures 12 may_31 (lot_count 0 1 0) (order_count 2 1 0 0) (units 25 0)
a_held_lot_that_expires_stays_held = refl

a_recalled_lot_is_held_no_more : figures_shown may_4 (keyed (codes "K-R") (Recall L0) ∷ keyed (codes "K-H") (Hold L0) ∷ with_early_lot)
    ≡ figures 12 may_4 (lot_count 0 0 1) (order_count 2 1 0 0) (units 25 0)
a_recalled_lot_is_held_no_more = refl

a_recalled_lot_that_never_came_is_not_counted : figures_shown may_4 (keyed (codes "K-R") (Recall (lot_of OATS (codes "L9"))) ∷ with_early_lot)
    ≡ figures 11 may_4 (lot_count 0 0 0) (order_count 2 0 0 0) (units 25 0)
a_recalled_lot_that_never_came_is_not_counted = refl

-- Units

-- seven units come back from the stage; five units of the first lot are staged still
what_a_recall_brings_back_is_in_returns : figures_shown may_4 (keyed (codes "K-R") (Recall L2) ∷ with_picks) ≡ figures 13 may_4 (lot_count 0 0 1) (order_count 2 1 1 0) (units 25 7)
what_a_recall_brings_back_is_in_returns = refl

-- the units in RETURNS are those of all lots; what lies in another HOLD bin is in the house alone
returns_has_units_of_all_lots : figures_shown may_4 (keyed (codes "K-S") (Recall L0) ∷ keyed (codes "K-R") (Recall L2) ∷ keyed (codes "K-V") (move L1 A1 Q1 2) ∷ with_picks)
    ≡ figures 15 may_4 (lot_count 0 0 2) (order_count 2 2 0 0) (units 25 12)
returns_has_units_of_all_lots = refl
