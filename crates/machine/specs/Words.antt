-- What the definitions of this crate say of what it stands on: each word from where it is defined.
pub use Rattle.values.specs.Values.{same_text}
pub use Rattle.values.specs.declared.lot.LotId.{LotId}
pub use Rattle.commands.specs.Lists.{total, in_order}
pub use Rattle.commands.specs.Spelling.{key_text, spelling}
pub use Rattle.commands.specs.declared.command.Command.{Command}
pub use Rattle.commands.specs.declared.command.Command.TheVariants.{Pick, Ship, Recall, Receive, Move, Count, Adjust, Unpick, Hold, OpenDay, Least, Order, Urgent, Item, Bin, Cancel, Release}
pub use Rattle.commands.specs.declared.command.OrderLine.{OrderLine}
pub use Rattle.commands.specs.declared.key.Key.{Key}
pub use Rattle.commands.specs.declared.refusal.Refusal.{Refusal}
pub use Rattle.commands.specs.declared.refusal.Refusal.TheVariants.{KeyUsed, UnknownItem, UnknownLot, UnknownOrder, NoNotice, ActsFull, UnknownBin, NoSuchLine, ItemExists, BinExists, OrderExists, ItemTwice, OtherExpiry, LotRecalled, LotExpired, TooFewDays, LotHeld, LotNotHeld, AlreadyRecalled, NotStoreBin, OrderClosed, StillStaged, NothingStaged, DayNotLater, NotInBin, OverReserved, OverStaged, SameBin, OverUnits, OverOrdered}
pub use Rattle.commands.specs.declared.rows.CardKind.{CardKind}
pub use Rattle.commands.specs.declared.rows.CardKind.TheVariants.{Receipt, WriteOn, WriteOff as WrittenOff, Shipment}
pub use Rattle.commands.specs.declared.rows.CardRow.{CardRow}
pub use Rattle.commands.specs.declared.rows.ItemRow.{ItemRow}
pub use Rattle.commands.specs.declared.rows.ShipmentRow.{ShipmentRow}
pub use Rattle.commands.specs.declared.views.CardView.{CardView}
pub use Rattle.commands.specs.declared.views.NoticeView.{NoticeView}
pub use Rattle.commands.specs.declared.views.OrderView.{OrderView}
pub use Rattle.commands.specs.declared.views.ShortView.{ShortView}
pub use Rattle.commands.specs.declared.views.StockView.{StockView}
pub use Rattle.plan.specs.Overlap.{plan_rows, reserved_in, reserved_for}
pub use Rattle.plan.specs.declared.Row.{Row}
