-- What the texts ask for.
use Rattle.std.proofs.Common.{refl, ℕ, List}
use Rattle.sqlite.specs.Listing.{understood}
use Rattle.sqlite_tied.specs.Compute.{everything}
use Rattle.whole_tables.specs.Words.{meta, items, all_items, all_items_laws, least, bins, all_bins, all_bins_laws, lots, all_lots, all_lots_laws, recalls, stock, orders, lines, staged, all_staged, all_staged_laws, reserved, shipments, shiplines, cards, repeats}
use Rattle.whole_tables.specs.declared.texts.TheConstants.{ALL_META, ALL_LEAST, ALL_RECALLS, ALL_STOCK, ALL_ORDERS, ALL_LINES, ALL_RESERVED, ALL_SHIPMENTS, ALL_SHIPLINES, ALL_CARDS, ALL_REPEATS, LOWER_STOCK, UPPER_STOCK, LOWER_LINES, UPPER_LINES, LOWER_RESERVED, UPPER_RESERVED, LOWER_SHIPLINES, UPPER_SHIPLINES, LOWER_CARDS, UPPER_CARDS, LOWER_REPEATS, UPPER_REPEATS}
use Rattle.whole_tables.specs.Whole.{WholeIs}
use Rattle.whole_tables.specs.Halves.{HalvesAre}
use Rattle.whole_tables.specs.declared.halves.Half.{Half}
use Rattle.whole_tables.specs.declared.halves.Half.TheVariants.{Lower, Upper}

pub meta_is : WholeIs meta ALL_META.now
unfolding understood everything
meta_is rest = (refl, refl, (refl, refl))

pub items_is : WholeIs items all_items.text
items_is = all_items_laws.is

pub least_is : WholeIs least ALL_LEAST.now
unfolding understood everything
least_is rest = (refl, refl, (refl, refl))

pub bins_is : WholeIs bins all_bins.text
bins_is = all_bins_laws.is

pub lots_is : WholeIs lots all_lots.text
lots_is = all_lots_laws.is

pub recalls_is : WholeIs recalls ALL_RECALLS.now
unfolding understood everything
recalls_is rest = (refl, refl, (refl, refl))

pub stock_is : WholeIs stock ALL_STOCK.now
unfolding understood everything
stock_is rest = (refl, refl, (refl, refl))

pub orders_is : WholeIs orders ALL_ORDERS.now
unfolding understood everything
orders_is rest = (refl, refl, (refl, refl))

pub lines_is : WholeIs lines ALL_LINES.now
unfolding understood everything
lines_is rest = (refl, refl, (refl, refl))

pub staged_is : WholeIs staged all_staged.text
staged_is = all_staged_laws.is

pub reserved_is : WholeIs reserved ALL_RESERVED.now
unfolding understood everything
reserved_is rest = (refl, refl, (refl, refl))

pub shipments_is : WholeIs shipments ALL_SHIPMENTS.now
unfolding understood everything
shipments_is rest = (refl, refl, (refl, refl))

pub shiplines_is : WholeIs shiplines ALL_SHIPLINES.now
unfolding understood everything
shiplines_is rest = (refl, refl, (refl, refl))

pub cards_is : WholeIs cards ALL_CARDS.now
unfolding understood everything
cards_is rest = (refl, refl, (refl, refl))

pub repeats_is : WholeIs repeats ALL_REPEATS.now
unfolding understood everything
repeats_is rest = (refl, refl, (refl, refl))

abbrev pub stock_half : Half → List ℕ
stock_half Lower = LOWER_STOCK.now
stock_half Upper = UPPER_STOCK.now

pub stock_halves : HalvesAre stock stock_half
unfolding understood everything
stock_halves Lower rest = (refl, refl, (refl, refl))
stock_halves Upper rest = (refl, refl, (refl, refl))

abbrev pub lines_half : Half → List ℕ
lines_half Lower = LOWER_LINES.now
lines_half Upper = UPPER_LINES.now

pub lines_halves : HalvesAre lines lines_half
unfolding understood everything
lines_halves Lower rest = (refl, refl, (refl, refl))
lines_halves Upper rest = (refl, refl, (refl, refl))

abbrev pub reserved_half : Half → List ℕ
reserved_half Lower = LOWER_RESERVED.now
reserved_half Upper = UPPER_RESERVED.now

pub reserved_halves : HalvesAre reserved reserved_half
unfolding understood everything
reserved_halves Lower rest = (refl, refl, (refl, refl))
reserved_halves Upper rest = (refl, refl, (refl, refl))

abbrev pub shiplines_half : Half → List ℕ
shiplines_half Lower = LOWER_SHIPLINES.now
shiplines_half Upper = UPPER_SHIPLINES.now

pub shiplines_halves : HalvesAre shiplines shiplines_half
unfolding understood everything
shiplines_halves Lower rest = (refl, refl, (refl, refl))
shiplines_halves Upper rest = (refl, refl, (refl, refl))

abbrev pub cards_half : Half → List ℕ
cards_half Lower = LOWER_CARDS.now
cards_half Upper = UPPER_CARDS.now

pub cards_halves : HalvesAre cards cards_half
unfolding understood everything
cards_halves Lower rest = (refl, refl, (refl, refl))
cards_halves Upper rest = (refl, refl, (refl, refl))

abbrev pub repeats_half : Half → List ℕ
repeats_half Lower = LOWER_REPEATS.now
repeats_half Upper = UPPER_REPEATS.now

pub repeats_halves : HalvesAre repeats repeats_half
unfolding understood everything
repeats_halves Lower rest = (refl, refl, (refl, refl))
repeats_halves Upper rest = (refl, refl, (refl, refl))
