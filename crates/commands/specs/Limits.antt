-- The limits of the warehouse.
use Rattle.std.specs.Prelude.{Bool, List, length}
use Rattle.values.specs.Values.{is_between}
pub use Rattle.commands.specs.declared.limits.TheConstants.{ORDER_LINES_MAX, ITEMS_MAX, BINS_MAX, UNITS_MAX, OPEN_MAX, ACTS_MAX, SHORT_MAX, KEY_TEXT_MAX, CARD_NOTE_MAX, MARK, SCHEMA_VERSION}

-- an order has 1 to 200 lines
abbrev pub has_order_lines : {X : Type 0} → List X → Bool
has_order_lines lines = is_between 1 ORDER_LINES_MAX (length lines)
