-- What the definitions of this crate say of what it stands on: each word from where it is defined.
pub use Rattle.sqlite.specs.Command.TheVariants.{Select}
pub use Rattle.sqlite.specs.Effect.{Database}
pub use Rattle.sqlite.specs.Given.{IsPlain}
pub use Rattle.sqlite.specs.Listing.{understood, reads_listing}
pub use Rattle.sqlite.specs.Order.{Row}
pub use Rattle.sqlite.specs.Schema.{Schema}
pub use Rattle.sqlite.specs.Tree.{Trees}
pub use Rattle.sqlite.proofs.Callers.{command_of}
pub use Rattle.values.specs.declared.lot.LotId.{LotId}
pub use Rattle.commands.specs.Tables.{Tables}
pub use Rattle.table_words.specs.Cells.{typed}
pub use Rattle.table_words.specs.Found.{no_two, AreRows}
pub use Rattle.table_words.specs.Schema.{schema_with}
pub use Rattle.table_words.specs.Typed.{same_lot_id, Rule, tables_in, Keeps}
pub use Rattle.table_words.proofs.Plans.{scan, alone, by_rowid}
pub use Rattle.keyed_rows.specs.Described.{Described, rule_of, IsLawful}
pub use Rattle.tables.specs.Bins.{bins, bins_laws, all_bins, all_bins_laws}
pub use Rattle.tables.specs.Cards.{cards, cards_laws}
pub use Rattle.tables.specs.Items.{items, items_laws, all_items, all_items_laws}
pub use Rattle.tables.specs.Least.{least, least_laws}
pub use Rattle.tables.specs.Lines.{lines, lines_laws}
pub use Rattle.tables.specs.Lots.{lots, lots_laws, all_lots, all_lots_laws}
pub use Rattle.tables.specs.Meta.{meta, meta_laws}
pub use Rattle.tables.specs.Orders.{orders, orders_laws}
pub use Rattle.tables.specs.Recalls.{recalls, recalls_laws}
pub use Rattle.tables.specs.Repeats.{repeats, repeats_laws}
pub use Rattle.tables.specs.Reserved.{reserved, reserved_laws}
pub use Rattle.tables.specs.Shiplines.{shiplines, shiplines_laws}
pub use Rattle.tables.specs.Shipments.{shipments, shipments_laws}
pub use Rattle.tables.specs.Staged.{staged, staged_laws, all_staged, all_staged_laws}
pub use Rattle.tables.specs.Stock.{stock, stock_laws}
pub use Rattle.tables.specs.Urgents.{urgents, urgents_laws, all_urgents, all_urgents_laws}
