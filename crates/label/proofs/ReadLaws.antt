-- What a text reads as: `Ok` exactly at the labels, with their values, and `Err` exactly at the faults.
use Rattle.label.proofs.Words.{◌≡◌, ℕ, List, [], Option, Some, None, Ok, Err, refl, sym, ap, ◌∙◌, subst, arith, append_assoc, IsTrue, ℤ, ◌↔◌, is_gtin, is_lot_text, sound_or, expiry_day, LabelParts, IsLabelOf, label_fault, label_parts, label_of, label_read, label_text, LabelFault, Label}
use Rattle.label.proofs.Grammar.{label_has_no_fault, IsLabel-from_none}

sound_parts : {X : Type 0} (o : Option LabelFault) (x y : X) → sound_or o x ≡ Ok y → (o ≡ None) × (x ≡ y)
sound_parts None x y h = (refl, grind arith)
sound_parts (Some f) x y h = absurd (grind arith)

fault_parts : {X : Type 0} (o : Option LabelFault) (x : X) (f : LabelFault) → sound_or o x ≡ Err f → o ≡ Some f
fault_parts None x f h = absurd (grind arith)
fault_parts (Some d) x f h = ap Some (grind arith)

label_of-parts : (today : ℤ) (p : LabelParts) (day : ℤ) → expiry_day today p.yymmdd ≡ Some day → label_of today p ≡ record { gtin = p.gtin; lot = p.lot; expiry = day }
label_of-parts today p day h = rw h refl

pub label_read-label : (today : ℤ) (s : List ℕ) (label : Label) → IsLabelOf today s label → label_read today s ≡ Ok label
label_read-label today s label is =
    let p : LabelParts = record { gtin = label.gtin; lot = label.lot; yymmdd = is.yymmdd } in
    let reads = label_has_no_fault today s p label.expiry is.is_label in
    rw (reads.0, reads.1) (ap Ok (label_of-parts today p label.expiry reads.2))

pub IsLabelOf-from_read : (today : ℤ) (s : List ℕ) (label : Label) → label_read today s ≡ Ok label → IsLabelOf today s label
IsLabelOf-from_read today s label h =
    let parts = sound_parts (label_fault today s) (label_of today (label_parts s)) label h in
    let is = IsLabel-from_none today s parts.0 in
    subst (IsLabelOf today s) (sym (label_of-parts today (label_parts s) is.0 is.1.expiry_rule) ∙ parts.1) (record { yymmdd = (label_parts s).yymmdd; is_label = is.1 })

-- a text reads as a label exactly if it is that label
pub reads_exactly_labels : (today : ℤ) (s : List ℕ) (label : Label) → (label_read today s ≡ Ok label) ↔ IsLabelOf today s label
reads_exactly_labels today s label = (IsLabelOf-from_read today s label, label_read-label today s label)

-- and as a fault exactly if it has that fault
pub reads_exactly_faults : (today : ℤ) (s : List ℕ) (f : LabelFault) → (label_read today s ≡ Err f) ↔ (label_fault today s ≡ Some f)
reads_exactly_faults today s f = (fault_parts (label_fault today s) (label_of today (label_parts s)) f, λ h. ap (λ o. sound_or o (label_of today (label_parts s))) h)

-- what is written of values that keep their rules is read back as these values
pub label_read-label_text : (today : ℤ) (gtin lot yymmdd : List ℕ) (day : ℤ) → IsTrue (is_gtin gtin) → IsTrue (is_lot_text lot) → expiry_day today yymmdd ≡ Some day
    → label_read today (label_text gtin lot yymmdd) ≡ Ok (record { gtin = gtin; lot = lot; expiry = day })
label_read-label_text today gtin lot yymmdd day gtin_rule lot_rule expiry_rule =
    label_read-label today (label_text gtin lot yymmdd) (record { gtin = gtin; lot = lot; expiry = day }) (record {
      yymmdd = yymmdd;
      is_label = record {
        prefix = [];
        body = label_text gtin lot yymmdd;
        is_prefix = (0, omega arith, refl);
        is_body = (0, omega arith, simp append_assoc);
        text_is = refl;
        gtin_rule = gtin_rule;
        lot_rule = lot_rule;
        expiry_rule = expiry_rule;
      };
    })
