-- What the proofs of this crate say of what it stands on: each word from where it is defined.
pub use Rattle.std.specs.BTreeMap.{BTreeMap, is_at, insert_entry, get, get_by, IsOrdered}
pub use Rattle.std.specs.BTreeSet.{BTreeSet, contains}
pub use Rattle.std.specs.Cmp.{IsTotalOrder}
pub use Rattle.std.specs.Cmp.Lexicographic.{slice_cmp, texts_ties}
pub use Rattle.std.specs.List.{list_any, sum_by}
pub use Rattle.std.specs.Map.{lookup, set_value, remove_entry, values_of}
pub use Rattle.std.specs.Option.{option_map, unwrap_or, option_to_list, option_copied_mut, option_copied}
pub use Rattle.std.specs.Ordering.{is_eq, nat_cmp}
pub use Rattle.std.specs.Prelude.{◌||◌, if◌then◌else◌, Option, Some, None, IfSome, reverse, Result, Ok, Err, OnOk, OnErr, is_ok, is_err}
pub use Rattle.std.specs.declared.cmp.Ordering.{Ordering}
pub use Rattle.std.proofs.Common.{append-nil, append_assoc, ◌≡◌, ℕ, ◌&&◌, not, List, [], filter, Bool, true, false, ◌∷◌, ◌++◌, refl, ap, sym, subst, ◌∙◌, cond, ◌⊎◌, inl, inr, map, Vec, Global, ◌+◌, ◌≤◌, length, arith, drop, add-one, drop-cons, rules}
pub use Rattle.std.proofs.Math.Seq.{drop-length}
pub use Rattle.std.proofs.lemmas.Fn.{filter_same}
pub use Rattle.std.proofs.lemmas.List.Elements.{filter_agree}
pub use Rattle.std.proofs.lemmas.List.Folds.{list_any-append}
pub use Rattle.std.proofs.lemmas.List.Sums.{length-filter, count_by-le-length}
pub use Rattle.std.proofs.lemmas.Map.Entries.{sum_by-set_value, sum_by-remove_entry, sum_by-insert_entry}
pub use Rattle.std.proofs.lemmas.Map.Lookups.{exact_bytes}
pub use Rattle.std.proofs.lemmas.Map.Views.{tells_apart}
pub use Rattle.values.specs.Values.{same_text}
pub use Rattle.values.proofs.Turned.{same_text_is, turned_same, turned_across, same_text_turned}
pub use Rattle.commands.specs.Names.{names_of}
pub use Rattle.commands.specs.declared.command.OrderLine.{OrderLine}
pub use Rattle.commands.specs.declared.rows.LeastRow.{LeastRow}
pub use Rattle.commands.specs.declared.rows.LineRow.{LineRow}
pub use Rattle.commands.specs.declared.rows.LotRow.{LotRow}
pub use Rattle.commands.specs.declared.rows.OrderRow.{OrderRow}
pub use Rattle.commands.specs.declared.rows.StagedRow.{StagedRow}
pub use Rattle.commands.specs.declared.rows.StockRow.{StockRow}
pub use Rattle.commands.specs.declared.rows.UrgentRow.{UrgentRow}
pub use Rattle.machine.specs.KeyedRows.{no_two}
pub use Rattle.machine.specs.Planning.{is_open_state}
pub use Rattle.machine.proofs.Tests.{and_both, not_true, or_false, or_none}
pub use Rattle.row_rules.specs.declared.slice.Rows.{Rows}
pub use Rattle.row_rules.proofs.Making.{same_items}
pub use Rattle.row_rules.proofs.Walking.{IsKept}
pub use Rattle.rows_in_memory.specs.Keys.{has_key, with_key, with_keys, AreKeyed}
pub use Rattle.rows_in_memory.specs.KnownRows.{RowMap, rows_in, rows_at, KnowsAll, placed, KnowsNone, LearnsAt, ForgetsBy, Remembers, IsPart, ForgetsAt, ChangesBy, each_changed, SetsAt, last_set, SetsBy, list_weight, map_weight, without_row, with_put}
pub use Rattle.rows_in_memory.specs.NameOrder.{names_told}
pub use Rattle.rows_in_memory.specs.OpenLines.{orders_at, are_apart, with_order, without_order, ChangesAt, IsSame, holds, Gains, Loses, Entries, Keeps, all_names, has_line_row, has_closed_row, is_closed_state}
pub use Rattle.rows_in_memory.specs.Parts.{is_ending, with_name, with_names, with_some, items_of_lots, has_line_in, with_lines, is_among, has_urgent_row, urgent_lines}
