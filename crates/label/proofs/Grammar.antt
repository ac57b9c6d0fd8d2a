-- A text has no fault exactly if it is a label.
use Rattle.label.proofs.Words.{◌≡◌, ℕ, List, [], ◌++◌, Some, None, sym, ap, ◌∙◌, subst, ℤ, expiry_day, LabelParts, IsLabel, rest_fault, rest_parts, has_bad_prefix, without_prefix, label_fault, label_parts, BadPrefix}
use Rattle.label.proofs.SoundBody.{body_from_sound}
use Rattle.label.proofs.ArrangedBody.{reads_arrangement, begins_otherwise}
use Rattle.label.proofs.Prefixes.{past_prefix, prefix_of, label_fault-good_prefix, good_prefix}

-- a label has no fault, and one set of values only
pub label_has_no_fault : (today : ℤ) (s : List ℕ) (p : LabelParts) (day : ℤ) → IsLabel today s p day
    → (label_fault today s ≡ None) × (label_parts s ≡ p) × (expiry_day today p.yymmdd ≡ Some day)
label_has_no_fault today s p day is =
    let k = is.is_body in
    let read = reads_arrangement today p.gtin p.lot p.yymmdd day is.gtin_rule is.lot_rule is.expiry_rule is.body k.0 k.1 k.2 in
    let begins = begins_otherwise today p.gtin p.lot p.yymmdd day is.gtin_rule is.lot_rule is.expiry_rule is.body k.0 k.1 k.2 in
    let past = past_prefix is.prefix is.body begins is.is_prefix.0 is.is_prefix.1 is.is_prefix.2 in (
      ap (label_fault today) is.text_is ∙ label_fault-good_prefix today (is.prefix ++ is.body) past.0 ∙ ap (rest_fault today []) past.1 ∙ read.sound,
      ap label_parts is.text_is ∙ ap rest_parts past.1 ∙ read.says,
      is.expiry_rule,
    )

-- a text without a fault is a label of its parts
pub IsLabel-from_none : (today : ℤ) (s : List ℕ) → label_fault today s ≡ None → (day : ℤ) × IsLabel today s (label_parts s) day
IsLabel-from_none today s h =
    let tests = good_prefix (has_bad_prefix s) BadPrefix (rest_fault today [] (without_prefix s)) h in
    let start = prefix_of s tests.0 in
    let body = body_from_sound today (without_prefix s) tests.1 in
    let is : IsLabel today s body.0 body.1 = record {
      prefix = start.0;
      body = without_prefix s;
      is_prefix = start.1;
      is_body = body.5;
      text_is = start.2;
      gtin_rule = body.2;
      lot_rule = body.3;
      expiry_rule = body.4;
    } in
    (body.1, subst (λ q. IsLabel today s q body.1) (sym (label_has_no_fault today s body.0 body.1 is).1) is)
