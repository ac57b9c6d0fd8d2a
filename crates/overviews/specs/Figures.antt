-- The figures of the house at one moment, each a count or a sum over what other queries show.
use Rattle.std.specs.Prelude.{ℕ, Bool, true, false, not, ◌&&◌, ◌==◌, List, length, map, count_by, None, Result, Ok, ℤ}
use Rattle.commands.specs.declared.refusal.Refusal.{Refusal}
use Rattle.commands.specs.declared.views.LotStatus.{LotStatus}
use Rattle.commands.specs.declared.views.LotStatus.TheVariants.{Recalled, Held, Expired, ShortDated, Free}
use Rattle.overviews.specs.declared.figures.FiguresView.{FiguresView}
use Rattle.overviews.specs.declared.figures.LotFigures.{LotFigures}
use Rattle.overviews.specs.declared.figures.OpenFigures.{OpenFigures}
use Rattle.overviews.specs.declared.figures.UnitFigures.{UnitFigures}
use Rattle.overviews.specs.declared.lists.OpenOrder.{OpenOrder}
use Rattle.machine.specs.Acts.{Act}
use Rattle.machine.specs.Postings.{any_lot, balance, in_house, is_bin}
use Rattle.machine.specs.Standing.{RETURNS, lots, today}
use Rattle.machine.specs.Ledger.{postings}
use Rattle.machine.specs.Planning.{is_urgent}
use Rattle.machine.specs.Cards.{lot_units_in_house}
use Rattle.machine.specs.Views.{lot_status}
use Rattle.overviews.specs.Pages.{open_order, open_orders}

-- Open orders

abbrev pub is_short_order : OpenOrder → Bool
is_short_order o = not (o.short == 0)

abbrev pub is_staged_order : OpenOrder → Bool
is_staged_order o = not (o.staged == 0)

abbrev pub open_figures : ℤ → List Act → OpenFigures
open_figures first acts = record {
  orders = length (open_orders first acts None);
  short = count_by is_short_order (map (open_order first acts) (open_orders first acts None));
  staged = count_by is_staged_order (map (open_order first acts) (open_orders first acts None));
  urgent = count_by is_urgent (open_orders first acts None);
}

-- Lots, by how they stand

abbrev pub shows_expired : LotStatus → Bool
shows_expired Recalled = false
shows_expired Held = false
shows_expired Expired = true
shows_expired ShortDated = false
shows_expired Free = false

abbrev pub shows_held : LotStatus → Bool
shows_held Recalled = false
shows_held Held = true
shows_held Expired = false
shows_held ShortDated = false
shows_held Free = false

abbrev pub shows_recalled : LotStatus → Bool
shows_recalled Recalled = true
shows_recalled Held = false
shows_recalled Expired = false
shows_recalled ShortDated = false
shows_recalled Free = false

-- the lots with units in bins or on stages whose status passes a test
abbrev pub lots_standing : ℤ → List Act → (LotStatus → Bool) → ℕ
lots_standing first acts test = count_by (λ k. not (lot_units_in_house first acts k.lot == 0) && test (lot_status first acts k)) (lots acts)

abbrev pub lot_figures : ℤ → List Act → LotFigures
lot_figures first acts = record {
  expired = lots_standing first acts shows_expired;
  held = lots_standing first acts shows_held;
  recalled = lots_standing first acts shows_recalled;
}

-- Units of all lots

abbrev pub unit_figures : ℤ → List Act → UnitFigures
unit_figures first acts = record {
  house = balance in_house any_lot (postings first acts);
  returns = balance (is_bin RETURNS) any_lot (postings first acts);
}

abbrev pub figures_view : ℤ → List Act → FiguresView
figures_view first acts = record {
  act = length acts;
  day = today first acts;
  lots = lot_figures first acts;
  open_orders = open_figures first acts;
  units = unit_figures first acts;
}

-- never refused
abbrev pub figures_shown : ℤ → List Act → Result FiguresView Refusal
figures_shown first acts = Ok (figures_view first acts)
