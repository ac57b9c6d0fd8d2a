-- What the proofs of this crate say of what it stands on: each word from where it is defined.
pub use Rattle.std.specs.Global.{Vec}
pub use Rattle.std.specs.Io.KnownBytes.{Appends, Consumes, Keeps}
pub use Rattle.std.specs.List.{list_any, find, count_by, list_all}
pub use Rattle.std.specs.Option.{option_map_or}
pub use Rattle.std.specs.Prelude.{◌||◌, nat_lt, MatchOption, IsTrue, negsuc, ◌==◌, IsUtf8, IfOk}
pub use Rattle.std.specs.Str.{IsAscii}
pub use Rattle.std.proofs.Common.{◌≡◌, ℕ, List, [], ◌∷◌, ◌++◌, map, flat_map, Ok, Err, Result, OnOk, refl, sym, ap, ◌∙◌, append_assoc, ◌+◌, ◌-◌, ◌<◌, ◌≤◌, true, false, length, take, drop, Option, Some, None, inl, inr, arith, length-take, length-drop, Bool, if◌then◌else◌, option_map, codes, ℤ, pos, subst, ◌⊎◌, ◌≢◌, length-append, append-nil, zero, suc, lit<, rules}
pub use Rattle.std.proofs.KnownBytes.{Consumes-trans, Appends-kept, Consumes-nil}
pub use Rattle.std.proofs.lemmas.Bool.Decides.{nat_tests}
pub use Rattle.std.proofs.lemmas.Grind.{common_steps}
pub use Rattle.std.proofs.lemmas.Str.{IsUtf8-from_ascii}
pub use Rattle.json.specs.Print.{print, escape}
pub use Rattle.json.specs.Token.{Token}
pub use Rattle.json.specs.Tree.{items_tokens}
pub use Rattle.json.specs.Written.{Written}
pub use Rattle.serde_json.specs.Data.{Data}
pub use Rattle.serde_json.specs.View.{items_of}
pub use Rattle.serde_json.specs.Written.{items_outline, compact_text}
pub use Rattle.serde_json.proofs.Texts.{print-outline}
pub use Rattle.values.specs.Faults.{fault_code}
pub use Rattle.values.specs.Values.{is_name, is_name_char, is_between, NAME_MAX, is_title, is_gtin, is_lot_text, number_from}
pub use Rattle.values.specs.declared.fault.LabelFault.{LabelFault}
pub use Rattle.values.specs.declared.fault.LabelFault.TheVariants.{BadPrefix, UnknownIdentifier, CutShort, NotADigit, CheckDigit, VariableMeasure, LotEmpty, LotTooLong, LotCharacter, NoSuchDate, IdentifierRepeated, IdentifierMissing, SeparatorMisplaced, OutOfMemory}
pub use Rattle.label.specs.Days.{day_text}
unfoldable pub use Rattle.label.specs.Days.{date_of, date_after, date_in_year}
pub use Rattle.commands.specs.Refusals.{refusal_code}
pub use Rattle.commands.specs.Replies.{reply_text}
pub use Rattle.commands.specs.declared.command.BinKind.TheVariants.{Store}
pub use Rattle.commands.specs.declared.refusal.Refusal.{Refusal}
pub use Rattle.commands.specs.declared.refusal.Refusal.TheVariants.{KeyUsed, ActsFull, UnknownItem, UnknownBin, UnknownLot, UnknownOrder, NoSuchLine, ItemExists, BinExists, OrderExists, ItemTwice, OtherExpiry, LotRecalled, LotExpired, LotHeld, LotNotHeld, AlreadyRecalled, NotStoreBin, OrderClosed, StillStaged, NothingStaged, DayNotLater, TooFewDays, NotInBin, OverReserved, OverStaged, SameBin, OverUnits, OverOrdered, NoNotice}
pub use Rattle.commands.specs.declared.replies.ReplyField.TheVariants.{Returned, ChangedBy, ShipmentNumber, UnitsShort}
pub use Rattle.commands.specs.declared.rows.OrderClass.TheVariants.{Normal}
pub use Rattle.commands.specs.declared.views.LotStatus.TheVariants.{Free}
pub use Rattle.commands.proofs.Joining.{and_both}
pub use Rattle.commands.proofs.Printing.{is_printable, Printable, name_printable, title_printable, gtin_printable, lot_printable, day_printable}
pub use Rattle.texts.specs.Writing.{AppendsBeginning, Writes}
pub use Rattle.texts.proofs.Beginnings.{beginning_of_none}
pub use Rattle.overviews.specs.declared.lists.BinLot.{BinLot}
pub use Rattle.overviews.specs.declared.lists.NamedItem.{NamedItem}
pub use Rattle.overviews.specs.declared.lists.OpenOrder.{OpenOrder}
pub use Rattle.requests.specs.Faults.{wire_code}
pub use Rattle.requests.specs.Head.{HEAD_MAX, BODY_MAX, head_end, fields_of, body_length, is_named, length_field, Named}
pub use Rattle.requests.specs.Laws.{needs_more}
pub use Rattle.requests.specs.Requests.{headless, answered, after_head, read_ask, IsCutReading, IsReading}
pub use Rattle.requests.specs.declared.ask.Ask.{Ask}
pub use Rattle.requests.specs.declared.fault.WireFault.{WireFault}
pub use Rattle.requests.specs.declared.fault.WireFault.TheVariants.{Head, Length, TooLarge, Json, Field, Path, Method, Memory}
pub use Rattle.requests.specs.declared.method.Method.TheVariants.{Post}
pub use Rattle.requests.specs.declared.request.Read.{Read}
pub use Rattle.requests.specs.declared.request.Read.TheVariants.{Need, Bad, Request}
pub use Rattle.wire.specs.Answers.{answer_text, json_type, CRLF}
unfoldable pub use Rattle.wire.specs.Answers.{head_text}
pub use Rattle.wire.specs.Laws.{CommandAnswersAreJson}
pub use Rattle.wire.specs.Lists.{books_data, open_orders_data, item_names_data, bin_view_data, expiring_data}
pub use Rattle.wire.specs.Logging.{is_gap, without_gap, cut_word, next_word, line_with, line_behind, log_line, shown_byte}
pub use Rattle.wire.specs.Serving.{IsRead, IsTaken, stopped}
pub use Rattle.wire.specs.Shorts.{cause_row_text, code_text, code_data, code_row_text, code_row_data, cause_text, cause_data, cause_row_data, tally_text, tally_data}
pub use Rattle.wire.specs.Tokens.{Adds, data_tokens}
pub use Rattle.wire.specs.Views.{order_data, stock_data}
pub use Rattle.wire.specs.declared.serving.Taken.{Taken}
pub use Rattle.wire.specs.declared.serving.Taken.TheVariants.{More, End, NoRoom}
pub use Rattle.wire.specs.Picks.{take_data, picks_data}
pub use Rattle.wire.specs.Figures.{figures_data}
pub use Rattle.commands.specs.declared.rows.OrderState.TheVariants.{Open}
pub use Rattle.commands.specs.declared.views.BinUnits.{BinUnits}
