-- What the proofs of this crate say of what it stands on: each word from where it is defined.
pub use Rattle.std.specs.Fmt.{signed_decimal}
pub use Rattle.std.specs.Io.KnownBytes.{Appends}
pub use Rattle.std.specs.List.{slice_split, join_with_byte, list_all, onto_first}
pub use Rattle.std.specs.Prelude.{ℤ, pos, negsuc, ◌==◌, codes, decimal, option_map, option_and_then, IsErr, neg_ℤ, nat_le, FitsSigned}
pub use Rattle.std.specs.Str.{bytes_eq}
pub use Rattle.std.proofs.Common.{◌≡◌, ℕ, true, List, [], ◌∷◌, append_assoc, refl, ap, sym, ◌∙◌, arith, Some, None, IsTrue, ◌++◌, take, drop, length, ◌-◌, take-append-drop, subst, append-nil, Option, Result, Ok, Err, ◌+◌, flat_map, zero, suc, ◌<◌, ◌≤◌, get_or, map, Bor, ◌*◌, ◌/◌, ◌%◌, ◌^◌, Bool, false, lit<, rules, w64, tests}
pub use Rattle.std.proofs.KnownBytes.{Appends-trans, Appends-nil}
pub use Rattle.std.proofs.lemmas.Bool.{cond-true, cond-false, le-leb}
pub use Rattle.std.proofs.lemmas.Bool.Decides.{nat_tests}
pub use Rattle.std.proofs.lemmas.Fmt.{decimal_by_steps, length-decimal-le}
pub use Rattle.std.proofs.lemmas.Int.{to_z-of_z}
pub use Rattle.std.proofs.lemmas.Iterator.Consumers.{map_from_collect}
pub use Rattle.std.proofs.lemmas.Iterator.Splits.{YieldsList-from_slice_split}
pub use Rattle.std.proofs.lemmas.List.{take_rest, take_more, length-map}
pub use Rattle.std.proofs.lemmas.List.Splits.{slice_split-cons_yes, slice_split-cons_no}
pub use Rattle.std.proofs.lemmas.Option.{same_Some}
pub use Rattle.std.proofs.lemmas.Result.{IfOk-weaker}
pub use Rattle.std.proofs.lemmas.Slice.Eq.{bytes_eq-Decides}
pub use Rattle.values.specs.Values.{checked, is_gtin, is_lot_text, is_name, is_title, is_qty, is_counted, is_delta, is_line_no, is_digit, is_least_days, first_is, is_between, QTY_MAX, LINE_MAX, LEAST_DAYS_MAX, number_from}
pub use Rattle.values.specs.declared.lot.LotId.{LotId}
pub use Rattle.label.specs.Days.{is_day, is_business_day, day_text}
unfoldable pub use Rattle.label.specs.Days.{date_of, date_after, date_in_year}
pub use Rattle.label.proofs.DayTexts.{parsed_day-day_text}
pub use Rattle.commands.specs.Cards.{rest_after}
pub use Rattle.commands.specs.Limits.{has_order_lines}
pub use Rattle.commands.specs.Lists.{total}
pub use Rattle.commands.specs.Sinks.{Reaches}
pub use Rattle.commands.specs.Sound.{is_lot_id, is_order_line, are_lines, is_new_order, is_picking, is_sound, is_sound_key}
pub use Rattle.commands.specs.Spelling.{fields, key_text, order_fields, picking_fields, lines_fields}
unfoldable pub use Rattle.commands.specs.Spelling.{spelling}
pub use Rattle.commands.specs.Words.{bin_kind_word, bin_kind_of, order_state_word}
pub use Rattle.commands.specs.declared.command.BinKind.{BinKind}
pub use Rattle.commands.specs.declared.command.BinKind.TheVariants.{Store, Hold as HoldBin}
pub use Rattle.commands.specs.declared.command.Command.{Command}
pub use Rattle.commands.specs.declared.command.Command.TheVariants.{Item, Bin, Receive, Move, Count, Adjust, Order, Cancel, Pick, Unpick, Ship, Hold, Release, Recall, OpenDay, Least, Urgent}
pub use Rattle.commands.specs.declared.command.NewOrder.{NewOrder}
pub use Rattle.commands.specs.declared.command.OrderLine.{OrderLine}
pub use Rattle.commands.specs.declared.command.Picking.{Picking}
pub use Rattle.commands.specs.declared.key.Key.{Key}
pub use Rattle.commands.specs.declared.key.Key.TheVariants.{Plain, Line}
pub use Rattle.commands.specs.declared.rows.CardKind.TheVariants.{Receipt, WriteOff, Shipment}
pub use Rattle.commands.specs.declared.rows.CardRow.{CardRow}
pub use Rattle.commands.specs.declared.rows.ItemRow.{ItemRow}
pub use Rattle.commands.specs.declared.rows.OrderClass.TheVariants.{Normal}
pub use Rattle.commands.specs.declared.rows.OrderState.TheVariants.{Open}
pub use Rattle.commands.specs.declared.rows.RepeatRow.{RepeatRow}
pub use Rattle.commands.specs.declared.views.CardView.{CardView}
pub use Rattle.commands.specs.declared.views.NoticeView.{NoticeView}
pub use Rattle.commands.specs.declared.views.OrderView.{OrderView}
pub use Rattle.commands.specs.declared.views.ShortView.{ShortView}
pub use Rattle.commands.proofs.Fields.{AllPrintable, and_three, and_four}
pub use Rattle.commands.proofs.Joining.{AllLack, PartsLack, lacks_failing, and_both, Lacks, all-append, and_true}
pub use Rattle.commands.proofs.OneSpelling.{PartsPrintable, fields_printable, one_spelling}
pub use Rattle.commands.proofs.OneText.{small_line}
pub use Rattle.commands.proofs.Printing.{is_printable, name_lacks}
pub use Rattle.texts.specs.Card.{card_text, card_end, card_line}
pub use Rattle.texts.specs.Lines.{head_line, lot_line, line}
pub use Rattle.texts.specs.Notice.{notice_text, bin_line, shipment_line, notice_start, notice_end}
pub use Rattle.texts.specs.PickList.{pick_list_text, pick_list_start, item_lines, from_line, item_line, take_lines, take_line}
pub use Rattle.texts.specs.Reading.{Fields, lot_read, order_read, picking_read, own_key, business_day_read, field_at, line_read, line_at, lines_read, number_read, qty_read, counted_read, least_days_read, line_no_read, delta_read}
unfoldable pub use Rattle.texts.specs.Reading.{command_read, key_read}
pub use Rattle.texts.specs.Shortages.{shortages_text, short_line}
pub use Rattle.texts.specs.Sinks.{AddsCardLine}
pub use Rattle.texts.specs.Starting.{told_by, Tells}
pub use Rattle.texts.specs.Writing.{AppendsBeginning, Writes}
pub use Rattle.texts.specs.declared.sinks.CardLines.{CardLines}
pub use Rattle.texts.specs.declared.start.Start.{Start}
