-- What the proofs of this crate say of what it stands on: each word from where it is defined.
pub use Rattle.std.specs.BTreeMap.{BTreeMap, get, is_at}
pub use Rattle.std.specs.BTreeSet.{BTreeSet, contains}
pub use Rattle.std.specs.Cmp.{unsigned_tied}
pub use Rattle.std.specs.Cmp.Lexicographic.{slice_cmp, texts_ties}
pub use Rattle.std.specs.List.{list_any, cons_option}
pub use Rattle.std.specs.List.Sorted.{IsSorted, IsSortedBy, IsSortedByKey, IsStableBy, IsStableByKey, ties}
pub use Rattle.std.specs.Option.{option_or}
pub use Rattle.std.specs.Ordering.{nat_cmp, ordering_then, is_eq, is_lt, int_cmp}
pub use Rattle.std.specs.Prelude.{◌||◌, Some, if◌then◌else◌, ◌==◌, map, flat_map, find, Result, Ok, Err, IfOk, Vec, ℤ, int_lt, nat_lt, Option, None, is_some, decimal, pos, ◌+ℤ◌}
pub use Rattle.std.specs.declared.cmp.Ordering.{Ordering}
pub use Rattle.std.specs.declared.cmp.Ordering.TheVariants.{Less, Equal, Greater}
pub use Rattle.std.proofs.Common.{◌≡◌, ℕ, ◌≤◌, List, ap, sym, subst, ◌∙◌, arith, Bool, true, false, ◌&&◌, not, refl, ◌+◌, ◌<◌, min, length, get_or, drop, ◌-◌, [], ◌∷◌, ◌++◌, append_assoc, filter, zero, suc, take, add-one, cond, reverse, rules}
pub use Rattle.std.proofs.Math.Seq.{drop-length}
pub use Rattle.std.proofs.lemmas.Int.{ints}
pub use Rattle.std.proofs.lemmas.List.{take_more, take-append-drop, take_rest}
pub use Rattle.std.proofs.lemmas.List.Elements.{filter_agree, filter-append}
pub use Rattle.std.proofs.lemmas.List.Folds.{find-append, list_any-append}
pub use Rattle.std.proofs.lemmas.List.Sorted.{answers_always}
pub use Rattle.std.proofs.lemmas.Map.Lookups.{exact_unsigned}
pub use Rattle.std.proofs.lemmas.Map.Views.{tells_apart}
pub use Rattle.std.proofs.lemmas.Result.{IfOk-weaker}
pub use Rattle.values.specs.Values.{same_text}
pub use Rattle.values.proofs.Turned.{turned_same}
pub use Rattle.commands.specs.Lists.{total, placed}
pub use Rattle.commands.specs.declared.command.OrderLine.{OrderLine}
pub use Rattle.commands.specs.declared.rows.ItemRow.{ItemRow}
pub use Rattle.commands.specs.declared.rows.LeastRow.{LeastRow}
pub use Rattle.commands.specs.declared.rows.LineRow.{LineRow}
pub use Rattle.commands.specs.declared.rows.LotRow.{LotRow}
pub use Rattle.commands.specs.declared.rows.OrderRow.{OrderRow}
pub use Rattle.commands.specs.declared.rows.RecallRow.{RecallRow}
pub use Rattle.commands.specs.declared.rows.ReservedRow.{ReservedRow}
pub use Rattle.commands.specs.declared.rows.StagedRow.{StagedRow}
pub use Rattle.commands.specs.declared.rows.StockRow.{StockRow}
pub use Rattle.commands.specs.declared.rows.UrgentRow.{UrgentRow}
pub use Rattle.commands.proofs.Digits.{line_room}
pub use Rattle.plan.specs.Changes.{HasFront, IsCut, cut_of}
pub use Rattle.plan.specs.Limits.{AreSmall}
pub use Rattle.plan.specs.Overlap.{plan_rows, demand_total, supply_total, Stretch, overlap, row_of, rows_of_demand, rows_of_stretches, demands_laid, supplies_laid}
pub use Rattle.plan.specs.declared.Demand.{Demand}
pub use Rattle.plan.specs.declared.Row.{Row}
pub use Rattle.plan.specs.declared.Supply.{Supply}
pub use Rattle.plan.specs.declared.TheConstants.{SUM_MAX}
pub use Rattle.plan.proofs.Counting.{cut_is}
pub use Rattle.plan.proofs.Nothing.{wanted, plan_of_wanted}
pub use Rattle.plan.proofs.OneInFront.{one_total, one_kept}
pub use Rattle.plan.proofs.Running.{drop_from}
pub use Rattle.machine.specs.Planning.{is_open_state}
pub use Rattle.machine.specs.Postings.{is_lot, of_item}
pub use Rattle.machine.specs.Standing.{is_expired}
pub use Rattle.machine.specs.Verdict.{Judgement, first_refusal, names_item_twice}
pub use Rattle.machine.proofs.Numbers.{equal_turned}
pub use Rattle.machine.proofs.Tests.{and_both, and_first_false, same_text_turned, or_none, and_false}
pub use Rattle.row_rules.specs.Apart.{RowKey, row_key, row_cmp, HasRows}
pub use Rattle.row_rules.specs.Between.{replanned_between}
pub use Rattle.row_rules.specs.Indexed.{demands_of, supplies_of, demands_told, supplies_told}
pub use Rattle.row_rules.specs.LookUps.{IsOrder, first_before, IsInOrder, rows_named, GivesFirst, rows_given, row_given}
pub use Rattle.row_rules.specs.Plans.{demands_within, supplies_within, plan_within, demand_seen, is_earlier, is_urgent_seen, inserted, demands_seen, is_store_found, supplies_seen, is_usable, in_store_seen, has_qty, rows_to_put, rows_to_drop, goes_first, named_rows, named_row}
pub use Rattle.row_rules.specs.Replanning.{first_as_one, rows_behind, item_demands, replanned_rows, replanned_from, same_row, rows_apart, item_supplies, shares_changed}
pub use Rattle.row_rules.specs.Seen.{CAP, capped}
pub use Rattle.row_rules.specs.Status.{days_in, earliest_seen}
pub use Rattle.row_rules.specs.declared.indexed.DemandsIndexed.{DemandsIndexed}
pub use Rattle.row_rules.specs.declared.indexed.SuppliesIndexed.{SuppliesIndexed}
pub use Rattle.row_rules.specs.declared.plans.DemandRows.{DemandRows}
pub use Rattle.row_rules.specs.declared.plans.SupplyRows.{SupplyRows}
pub use Rattle.row_rules.specs.declared.replanning.IndexedRows.{IndexedRows}
pub use Rattle.row_rules.specs.declared.replanning.Replanned.{Replanned}
pub use Rattle.row_rules.specs.declared.slice.Rows.{Rows}
