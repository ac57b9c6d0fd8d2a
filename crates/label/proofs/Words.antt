-- What the proofs of this crate say of what it stands on: each word from where it is defined.
pub use Rattle.std.specs.List.{list_all, range_with_len, position_or_len}
pub use Rattle.std.specs.Option.{option_or, ok_or}
pub use Rattle.std.specs.Prelude.{ℤ, unwrap_or, ◌==◌, if◌then◌else◌, is_some, is_none, IsTrue, slice_index_or, codes, slice_index, Contains, IfOk, IfErr}
pub use Rattle.std.specs.Str.{all_ascii_digits}
pub use Rattle.std.proofs.Common.{◌≡◌, ℕ, zero, suc, Bool, true, false, not, List, [], ◌∷◌, length, take, drop, pos, Option, Some, None, Result, Ok, Err, refl, ap, sym, subst, ◌∙◌, ◌<◌, ◌++◌, arith, append_assoc, negsuc, ◌&&◌, ◌+◌, ◌-◌, ◌≤◌, inl, inr, nat_lt, nat_le, ◌+ℤ◌, ◌≤ℤ◌, unsigned_abs, int_le, Decides, ◌*◌, ◌/◌, ◌%◌, cond, map, IfSome, ◌↔◌, ⊎_elim, ◌⊎◌, length-append, add-one, rules, FitsSigned, w32, w64}
pub use Rattle.std.proofs.lemmas.Bool.{cond-false, and_right, lt-leb, true_from_ne_false, cases_lt, cases_order, cond_both, ltb-true, ltb-false, and_parts, and_from, leb-true, le-leb, cond-true, eqb-true, cases_eq, eq-eqb, ne_eqb, or_cases, false≢true, not-false, eqb-false, both_ways}
pub use Rattle.std.proofs.lemmas.Bool.Decides.{nat_tests, same_from_decides}
pub use Rattle.std.proofs.lemmas.Grind.{common_steps}
pub use Rattle.std.proofs.lemmas.List.{append-nil, length-drop, take_at, drop_at, take-append-drop, take_all, drop_all}
pub use Rattle.std.proofs.lemmas.List.Sums.{split_at_first, passes_at_first, prefix_len-le-length}
pub use Rattle.std.proofs.lemmas.Slice.Eq.{bytes_eq-Decides}
pub use Rattle.jiff_core.specs.Calendar.{days_in_month, days_in_year, days_of_months, day_of_year, day_count, IsCivilDate}
pub use Rattle.jiff_core.proofs.CalendarLemmas.{days_from_civil-day_count, days_in_month_bounds, days_of_months_more, days_of_months_all, days_of_months-zero, day_count-day_of_year, day_count-next_year, day_count-later_year, day_count-lt_year, day_count-lt_month, day_count-day}
pub use Rattle.jiff.specs.Words.{IsYmd, epoch_day}
pub use Rattle.jiff.proofs.SpanFacts.{signed_arith}
pub use Rattle.values.specs.Faults.{first_fault, sound_or, gtin_text_fault, lot_text_fault}
pub use Rattle.values.specs.Values.{same_text, first_is, is_gtin, is_lot_text, checked, is_between, is_digit, is_set_82, weighted_sum}
pub use Rattle.values.specs.declared.fault.LabelFault.{LabelFault}
pub use Rattle.values.specs.declared.fault.LabelFault.TheVariants.{BadPrefix, UnknownIdentifier, CutShort, NotADigit, NoSuchDate, SeparatorMisplaced, IdentifierRepeated, CheckDigit, VariableMeasure, LotEmpty, LotTooLong, LotCharacter, IdentifierMissing}
pub use Rattle.label.specs.Days.{day_number, is_date, date_of, day_text, parsed_day, is_day, Date, dated_day, last_digits, two_digits, is_day_form, is_business_day, year_of_day}
pub use Rattle.label.specs.Expiry.{expiry_day, expiry_read, full_year, expiry_text}
pub use Rattle.label.specs.Labels.{LabelParts, GTIN_IDENTIFIER, LOT_IDENTIFIER, EXPIRY_IDENTIFIER, SEPARATOR, is_listed, identifier_fault, expiry_text_fault, data_fault, lot_fault, up_to_separator, after_separator, after_data, elements_fault, rest_fault, has_bad_prefix, without_prefix, with_element, elements_parts, rest_parts, label_of, label_read, arrangements, identifiers, IsLabel, label_fault, label_parts, prefixes, IsLabelOf, label_text}
pub use Rattle.label.specs.Reading.{Step, identifier_at, new_field_read, label_found, elements_read, body_read, body_of, and_then, nothing_found, has_found, field_read, element_read, IsStep}
pub use Rattle.label.specs.declared.gs1.Label.{Label}
pub use Rattle.label.specs.declared.reader.Found.{Found}
