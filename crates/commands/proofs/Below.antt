-- What the proofs of this crate say of what it stands on: each word from where it is defined.
pub use Rattle.std.specs.Fmt.{signed_decimal}
pub use Rattle.std.specs.List.{join_with_byte, list_all, list_any}
pub use Rattle.std.specs.Prelude.{decimal, nat_lt, codes, ◌&&◌, ℤ, pos, negsuc, Result, Ok, Err, OnOk, OnErr, IsErr, ◌==◌, Some, bytes_eq, IsTrue, nat_le, ◌||◌}
pub use Rattle.std.proofs.Common.{◌≡◌, ℕ, List, [], ◌∷◌, ◌++◌, append_assoc, append-nil, length, map, get_or, take, ◌+◌, ◌<◌, ap, sym, ◌∙◌, Bor, zero, suc, Bool, true, refl, arith, lit<, ◌/◌, ◌%◌, ◌^◌, ◌≤◌, length-append, drop, subst, take-append-drop, false, cond, ◌*◌, rules, set, length-take}
pub use Rattle.std.proofs.lemmas.Bool.{eqb-true}
pub use Rattle.std.proofs.lemmas.Bool.Decides.{nat_tests}
pub use Rattle.std.proofs.lemmas.Fmt.{decimal_step, length-decimal-le, decimal_injective, signed_decimal_injective, decimal_by_steps, decimal_digit}
pub use Rattle.std.proofs.lemmas.List.{take_more, map-append, take_more_set}
pub use Rattle.values.specs.Values.{is_name, is_line_no, is_between, is_name_char, is_gtin, is_lot_text, is_qty, is_counted, is_delta, QTY_MAX, is_least_days, is_title, is_one_of, is_upper, is_lower, is_digit, is_set_82, has_no_edge_space, LOT_MAX, TITLE_MAX}
pub use Rattle.values.specs.declared.lot.LotId.{LotId}
pub use Rattle.label.specs.Days.{is_day, is_business_day, day_text, last_digits, date_of}
pub use Rattle.commands.specs.Limits.{has_order_lines, ORDER_LINES_MAX, ITEMS_MAX, BINS_MAX, UNITS_MAX, OPEN_MAX, ACTS_MAX, SHORT_MAX, KEY_TEXT_MAX, CARD_NOTE_MAX, MARK, SCHEMA_VERSION}
pub use Rattle.commands.specs.Sinks.{Reaches, StopsWithin}
pub use Rattle.commands.specs.Sound.{is_sound, is_sound_key, is_lot_id, is_order_line, is_picking, are_lines, is_new_order}
pub use Rattle.commands.specs.Spelling.{lines_fields, with_line_feeds, picking_fields, key_text}
pub use Rattle.commands.specs.Words.{bin_kind_word, named, bin_kind_of, order_state_word, order_state_of, card_kind_word, card_kind_of, lot_status_word, lot_status_of}
pub use Rattle.commands.specs.declared.command.BinKind.{BinKind}
pub use Rattle.commands.specs.declared.command.BinKind.TheVariants.{Store, Hold}
pub use Rattle.commands.specs.declared.command.Command.{Command}
pub use Rattle.commands.specs.declared.command.Command.TheVariants.{Item, Bin, Receive, Move, Count, Adjust, Order, Cancel, Pick, Unpick, Ship, Release, Recall, OpenDay, Least, Urgent}
pub use Rattle.commands.specs.declared.command.OrderLine.{OrderLine}
pub use Rattle.commands.specs.declared.command.Picking.{Picking}
pub use Rattle.commands.specs.declared.key.Key.{Key}
pub use Rattle.commands.specs.declared.key.Key.TheVariants.{Plain, Line}
