-- What the proofs of this crate say of what it stands on: each word from where it is defined.
pub use Rattle.std.specs.Cmp.{IsTotalOrder}
pub use Rattle.std.specs.List.{AllByRecursion, list_any}
pub use Rattle.std.specs.List.Sorted.{IsSortedBy}
pub use Rattle.std.specs.Ordering.{ordering_reverse}
pub use Rattle.std.specs.Prelude.{IsTrue, if◌then◌else◌, IfSome}
pub use Rattle.std.proofs.Common.{◌≡◌, true, ℕ, ℤ, List, [], ◌∷◌, ◌∙◌, map, refl, sym, Result, arith, suc, ◌+◌, ◌<◌, ◌≤◌, Bool, false, length, filter, find, inl, inr, get_or, ap, subst, Ordering, Less, Equal, Greater, is_eq, is_lt, IsPermutation, true≢false, ◌↔◌, not, ◌++◌, is_le, is_gt, int_cmp, Some, Vec, Global, Ok, Err, ap₂, Option, ◌≢◌, zero, take, drop, None, rules}
pub use Rattle.std.proofs.lemmas.Bool.{cases_Bool, and_parts, not-true, false_from_ne_true}
pub use Rattle.std.proofs.lemmas.Int.{ints}
pub use Rattle.std.proofs.lemmas.List.{map-append}
pub use Rattle.std.proofs.lemmas.List.Elements.{filter-append}
pub use Rattle.std.proofs.lemmas.List.Sorted.{sorted_far, ranks_by, length_permutation, IsPermutation-sym, answers_always}
pub use Rattle.std.proofs.lemmas.Option.{same_Some, none-some}
pub use Rattle.sqlite.specs.Collation.TheVariants.{Binary}
pub use Rattle.sqlite.specs.Effect.{Database}
pub use Rattle.sqlite.specs.Given.{IsPlain}
pub use Rattle.sqlite.specs.Held.{state}
pub use Rattle.sqlite.specs.Listing.{understood}
pub use Rattle.sqlite.specs.Order.{Row}
pub use Rattle.sqlite.specs.State.{State, Shown, HasCleanDisk, Survives, IsUnchanged}
pub use Rattle.sqlite.specs.declared.types.Value.{Value}
pub use Rattle.sqlite.specs.declared.types.Value.TheVariants.{Int, Null, Real, Text, Blob}
pub use Rattle.sqlite_sql.specs.Ops.{is_true, from_truth}
pub use Rattle.sqlite_sql.specs.declared.ops.BinaryOp.TheVariants.{Compare}
pub use Rattle.sqlite_sql.specs.declared.ops.CompareOp.TheVariants.{Le, Gt}
pub use Rattle.sqlite_trees.specs.Tree.{IsAscending, rowid}
pub use Rattle.sqlite_trees.specs.View.{is_int}
pub use Rattle.sqlite_value.specs.Order.{value_cmp}
pub use Rattle.sqlite.proofs.Callers.{reads_as, never_commits}
pub use Rattle.sqlite.proofs.StateLemmas.{survives_weaker}
pub use Rattle.sqlite_keyed.proofs.ListLemmas.{all-filter, IsPermutation-filter, all-append, all_weaker}
pub use Rattle.sqlite_value.proofs.OrderLemmas.{value_cmp-Int}
pub use Rattle.table_words.specs.Cells.{typed}
pub use Rattle.table_words.specs.Found.{no_two}
pub use Rattle.table_words.specs.Schema.{schema_with}
pub use Rattle.table_words.specs.Steps.{IsReady}
pub use Rattle.table_words.specs.Typed.{AreTyped, tables_in}
pub use Rattle.table_words.specs.declared.error.TableFault.{TableFault}
pub use Rattle.table_words.proofs.CallLemmas.{inside_then, on_ok_if, if_ok, if_err}
pub use Rattle.table_words.proofs.CellLemmas.{and_true, both_typed, shown_typed}
pub use Rattle.table_words.proofs.KeyLemmas.{IsSame}
pub use Rattle.table_words.proofs.Plans.{by_rowid}
pub use Rattle.table_words.proofs.ScanLemmas.{show, in_order}
pub use Rattle.keyed_rows.specs.Described.{Described, IsLawful, Query, IsSought}
pub use Rattle.keyed_rows.specs.Handed.{Hands, HandsOver}
pub use Rattle.keyed_rows.specs.declared.each_fault.EachFault.{EachFault}
pub use Rattle.keyed_rows.proofs.Laws.{typed_rows, rows_of as kept_rows, found_by_key, reads, typed_are}
pub use Rattle.keyed_rows.proofs.Over.{rest_shown, over}
pub use Rattle.keyed_rows.proofs.Rising.{found_alike, few_with_key}
pub use Rattle.whole_tables.specs.Halves.{HalvesAre, is_in, half_of, test_of, FindsHalf, FindsStored}
pub use Rattle.whole_tables.specs.Same.{AreOnce, FindAlike, IsFirstOther, Begin, ArePartedAt}
pub use Rattle.whole_tables.specs.Whole.{rows_of, AreAll, WholeIs, typed_rows_of}
pub use Rattle.whole_tables.specs.declared.halves.Half.{Half}
pub use Rattle.whole_tables.specs.declared.halves.Half.TheVariants.{Lower, Upper}
