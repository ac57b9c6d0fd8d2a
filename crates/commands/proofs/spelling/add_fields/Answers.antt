use Rattle.std.proofs.Common.{arith}
use Rattle.commands.proofs.Appending.{fields_more}
use Rattle.commands.proofs.spelling.add_fields.Goals as goal

pub loop-field-preserved : goal.loop-field-preserved
loop-field-preserved c =
    let e = fields_more c.args.text.now.items c.args.fields.now c.loop-field.field-index in
    grind (arith, e)
