-- What the proofs of this crate say of what it stands on: each word from where it is defined.
pub use Rattle.std.specs.List.{IsDistinct, AllByRecursion, position, position_or_len, list_any}
pub use Rattle.std.specs.Prelude.{nat_lt, MatchOption, ◌==◌, if◌then◌else◌, map, filter, flat_map, nat_eq, ◌||◌}
pub use Rattle.std.proofs.Common.{◌≡◌, ℕ, suc, ◌+◌, ◌≤◌, ◌<◌, min, Bool, true, false, not, ◌&&◌, Option, Some, None, List, [], ◌∷◌, ◌++◌, length, get_or, take, refl, ap, sym, ◌∙◌, ◌⊎◌, inl, inr, arith, eq-eqb, below_more, drop, subst, ◌≢◌, ◌-◌, max, append_assoc, set, cond, add-one, is_ok, append-nil, length-append}
pub use Rattle.std.proofs.Math.Seq.{take-append_seam, take-append-add, take-length, drop-cons, drop-length}
pub use Rattle.std.proofs.lemmas.Bool.{eqb-true, ltb-true, ltb-false, leb-true, leb-false, eqb-false, ne_eqb}
pub use Rattle.std.proofs.lemmas.Grind.{flat_map-append, common_steps}
pub use Rattle.std.proofs.lemmas.List.{take_more, get_or-take, length-take, take-append-drop, take-append-le, map-append, get_or_read, take_rest}
pub use Rattle.std.proofs.lemmas.List.Elements.{filter-append}
pub use Rattle.std.proofs.lemmas.List.Sums.{prefix_len-le-length}
pub use Rattle.std.proofs.lemmas.Map.Keys.{IsDistinct-head, IsDistinct-tail}
pub use Rattle.std.proofs.lemmas.Result.{on_ok_weaker}
pub use Rattle.plan.specs.Changes.{IsFirstChange, IsFront, IsCut, ends_in_time, same_demand, same_supply, change_start, count_kept, cut_of, need_lowered, avail_lowered, HasFront, CutKeepsFront, IsPicked}
pub use Rattle.plan.specs.Laws.{ServesAllItCan, AreBookingsDistinct, AreLotsDistinct, ShortfallIsLast, EarlierLotsGoFirst, IsOverlapOf, IsBeyondSupplies, RemovingDisturbsNone, IsFewRows, TakingDisturbsNone}
pub use Rattle.plan.specs.Limits.{AreSmall}
pub use Rattle.plan.specs.Lists.{total}
pub use Rattle.plan.specs.Overlap.{demand_total, supply_total, plan_rows, short_in, Stretch, overlap, row_of, rows_of_demand, rows_from, supplies_laid, rows_of_stretches, demands_laid, reserved_total, laid, demand_behind, supply_behind, reserved_in, reserved_for, reserved_on}
pub use Rattle.plan.specs.Steps.{IsChangeStart, IsFewest, picked, left_of}
pub use Rattle.plan.specs.declared.Demand.{Demand}
pub use Rattle.plan.specs.declared.Row.{Row}
pub use Rattle.plan.specs.declared.Supply.{Supply}
pub use Rattle.plan.specs.declared.TheConstants.{SUM_MAX}
