use Rattle.texts.proofs.Words.{rules, w64, to_z-of_z, FitsSigned}
use Rattle.texts.proofs.card.put_card_line.Goals as goal

pub returns : goal.returns
returns g c =
    let fits : FitsSigned w64 c.args.row.now.qty = search rules in
    rw (
      c.as_bytes.ensures,
      c.number_field-act.ensures,
      c.text.ensures,
      c.day.ensures.value,
      c.as_bytes-2.ensures,
      c.kind_field.ensures,
      c.as_bytes-3.ensures,
      c.note_field.ensures,
      c.as_bytes-4.ensures,
      c.signed_field.ensures,
      to_z-of_z w64 c.args.row.now.qty fits,
      c.as_bytes-5.ensures,
      c.number_field.ensures,
    ) at c.put_line.ensures
