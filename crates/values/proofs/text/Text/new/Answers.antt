use Rattle.std.proofs.Common.{arith, rules}
use Rattle.values.proofs.Padding.{padded_text}
use Rattle.values.proofs.text.Text.new.Goals as goal

pub invariant_of-result : goal.invariant_of-result
invariant_of-result g c = padded_text g.row.N c.copy_from_slice.new.self c.args.text.now c.copy_from_slice.ensures.after (omega arith)

pub returns-then-text-clause-fits : goal.returns-then-text-clause-fits
returns-then-text-clause-fits g c = search rules
