use Rattle.values.proofs.Packing.{filled}
use Rattle.values.proofs.text_key.at_the_end.Goals as goal

pub returns : goal.returns
returns c = filled c.args.text.now c.copy_from_slice.new.self c.requires c.copy_from_slice.ensures.after
