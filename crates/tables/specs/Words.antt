-- What the definitions of this crate say of what it stands on: each word from where it is defined.
pub use Rattle.std.specs.Prelude.{ℕ, List, [], codes, nat_eq, true, bytes_eq, Bool, None, nat_lt, nat_le, filter}
pub use Rattle.std.proofs.Common.{refl, ap, ap₂, ◌∙◌, pos, sym, subst}
pub use Rattle.std.proofs.lemmas.Bool.{and_parts}
pub use Rattle.sqlite.specs.Collation.TheVariants.{Binary}
pub use Rattle.sqlite.specs.Command.TheVariants.{Update, Delete}
pub use Rattle.sqlite.specs.Given.{IsPlain}
pub use Rattle.sqlite.specs.Order.{Row, column, bytes}
pub use Rattle.sqlite.specs.Rowids.TheVariants.{Chosen}
pub use Rattle.sqlite.specs.Schema.{Schema}
pub use Rattle.sqlite.specs.Term.{Term, col, lit, op2}
pub use Rattle.sqlite.specs.declared.types.Value.{Value}
pub use Rattle.sqlite.specs.declared.types.Value.TheVariants.{Text, Int, Null}
pub use Rattle.sqlite_rules.specs.Edit.{with_rowid}
pub use Rattle.sqlite_sql.specs.Ops.{binary, is_true}
pub use Rattle.sqlite_sql.specs.declared.ops.BinaryOp.TheVariants.{Compare}
pub use Rattle.sqlite_sql.specs.declared.ops.CompareOp.TheVariants.{Le, Gt, Ge}
pub use Rattle.sqlite_trees.specs.Tree.{rowid}
pub use Rattle.sqlite_trees.specs.View.{is_int}
pub use Rattle.sqlite.proofs.Callers.{command_of}
pub use Rattle.values.specs.Values.{is_name, is_gtin, is_lot_text, LEAST_DAYS_MAX, is_title, is_between}
pub use Rattle.values.specs.declared.lot.LotId.{LotId}
pub use Rattle.commands.specs.Tables.{Tables}
pub use Rattle.commands.specs.declared.limits.TheConstants.{ACTS_MAX, SCHEMA_VERSION, KEY_TEXT_MAX}
pub use Rattle.commands.specs.declared.rows.BinRow.{BinRow}
pub use Rattle.commands.specs.declared.rows.CardRow.{CardRow}
pub use Rattle.commands.specs.declared.rows.ItemRow.{ItemRow}
pub use Rattle.commands.specs.declared.rows.LeastRow.{LeastRow}
pub use Rattle.commands.specs.declared.rows.LineRow.{LineRow}
pub use Rattle.commands.specs.declared.rows.LotRow.{LotRow}
pub use Rattle.commands.specs.declared.rows.MetaRow.{MetaRow}
pub use Rattle.commands.specs.declared.rows.OrderRow.{OrderRow}
pub use Rattle.commands.specs.declared.rows.RecallRow.{RecallRow}
pub use Rattle.commands.specs.declared.rows.RepeatRow.{RepeatRow}
pub use Rattle.commands.specs.declared.rows.ReservedRow.{ReservedRow}
pub use Rattle.commands.specs.declared.rows.ShiplineRow.{ShiplineRow}
pub use Rattle.commands.specs.declared.rows.ShipmentRow.{ShipmentRow}
pub use Rattle.commands.specs.declared.rows.StagedRow.{StagedRow}
pub use Rattle.commands.specs.declared.rows.StockRow.{StockRow}
pub use Rattle.commands.specs.declared.rows.UrgentRow.{UrgentRow}
pub use Rattle.table_words.specs.Cells.{is_the_text, number_in, flag_number, is_word, is_count, is_order_state, fits_in, is_the_number}
pub use Rattle.table_words.specs.Found.{AreRows, only_if}
pub use Rattle.table_words.specs.Schema.{bins_table, cards_table, schema_with, items_table, least_table, lines_table, lots_table, meta_table, orders_table, recalls_table, repeats_table, reserved_table, shiplines_table, shipments_table, staged_table, stock_table, urgents_table}
pub use Rattle.table_words.specs.Stored.{stored_row, one, none, text_stored, is_stored_row, pair, lot_columns}
pub use Rattle.table_words.specs.Typed.{bin_mapping, same_bin, bin_key, same_lot_id, CardKey, same_card, card_key, card_mapping, item_mapping, same_item, item_key, least_mapping, least_key, LineKey, same_line, line_key, line_mapping, lot_mapping, same_lot, lot_key, is_meta, meta_in, has_meta, meta_read, meta_cells, same_order, order_key, is_open_order, order_mapping, recall_mapping, recall_key, same_repeat, repeat_key, repeat_mapping, ReservedKey, same_reserved, reserved_key, reserved_mapping, ShiplineKey, same_shipline, shipline_key, shipline_mapping, is_stored_shipment, stored_shipment, same_shipment, shipment_key, shipment_mapping, shipment_rest, StagedKey, same_staged, staged_key, staged_mapping, StockKey, stock_mapping, same_stock, stock_key, urgent_key, urgent_mapping}
pub use Rattle.table_words.proofs.CellLemmas.{bin_kind_back, and_true, and_assoc, same_word, equals_text, same_count, same_number, itself_number, same_lots, itself_lot, card_kind_back, flag_back, same_the_number, id_is, order_state_back, open_is, equals_number}
pub use Rattle.table_words.proofs.KeyLemmas.{same_bytes, itself_bytes, same_both, itself_both, one_by_rowid, few}
pub use Rattle.table_words.proofs.Plans.{same, by_rowid, scan, alone}
pub use Rattle.table_words.proofs.ScanLemmas.{passes, in_order, scanned}
pub use Rattle.table_words.proofs.WriteLemmas.{cast_null, cast_number, only_shown}
pub use Rattle.keyed_rows.specs.AskedLaws.{key_found}
pub use Rattle.keyed_rows.specs.Asks.{Compared, Asks, for_all, by_text, AreSought, IsText, IsAsked, of_key, by_key, by_lot, tests_of}
pub use Rattle.keyed_rows.specs.Described.{Described, IsLawful, Query, QueryIs, IsSought, Change, ChangeIs, IsChange, Stores, sound, by_id, DropIs}
pub use Rattle.keyed_rows.specs.Mapped.{planned, whole_change}
pub use Rattle.keyed_rows.specs.Ordered.{AreInOrder}
pub use Rattle.keyed_rows.specs.declared.reading.All.{All}
pub use Rattle.keyed_rows.proofs.Above.{above, above_count}
pub use Rattle.keyed_rows.proofs.Laws.{one_keyed, rows_of, found_by_key, found_by_test}
pub use Rattle.tables.specs.declared.goods_texts.TheConstants.{ADD_BIN, BINS_OF, ALL_BINS, ADD_ITEM, ITEMS_OF, ALL_ITEMS, CHANGE_LEAST, ADD_LEAST, LEAST_OF, ASKING_LEAST, ADD_LOT, CHANGE_LOT, LOTS_OF, LOT_OF, ALL_LOTS, ADD_META, CHANGE_META, ADD_RECALL, RECALLS_OF, ADD_STOCK, CHANGE_STOCK, STOCK_OF, STOCK_OF_LOT, STOCK_IN, DROP_STOCK}
pub use Rattle.tables.specs.declared.history_texts.TheConstants.{ADD_CARD, CARDS_OF, ADD_REPEAT, REPEATS_OF, ADD_SHIPLINE, ADD_SHIPMENT, SHIPMENTS_OF}
pub use Rattle.tables.specs.declared.least.Asking.{Asking}
pub use Rattle.tables.specs.declared.order_texts.TheConstants.{ADD_LINE, CHANGE_LINE, FILL_LINES, LINES_OF_ORDER, LINE_OF, ADD_ORDER, CHANGE_ORDER, ORDERS_OF, OPEN_ORDERS, ADD_RESERVED, CHANGE_RESERVED, RESERVED_OF_ITEM, RESERVED_OF_ORDER, ALL_RESERVED, DROP_RESERVED, ADD_STAGED, CHANGE_STAGED, STAGED_OF_ITEM, STAGED_OF_ORDER, ALL_STAGED, DROP_STAGED, DROP_STAGE, ADD_URGENT, URGENTS_OF, ALL_URGENTS}
pub use Rattle.tables.specs.declared.orders.Open.{Open}
