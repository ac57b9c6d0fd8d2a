use Rattle.commands.proofs.command.Lines.into_vec.Goals as goal

pub returns : goal.returns
returns c = cc
