use Rattle.std.proofs.Common.{◌≡◌, drop, false}
use Rattle.clap.specs.Simple.{app_of}
use Rattle.clap.specs.declared.builder.command.Command.TheViews.{out-Command as fields_of}
use Rattle.command_line.specs.Program.{add_values}
use Rattle.command_line.proofs.words.with_values.Given as goal

-- the values that are left make of the command now what all of them make of the first
abbrev pub invariant-loop-value : goal.invariant-loop-value
invariant-loop-value l = ((fields_of l.command).has_globals ≡ false) × (add_values (drop l.value-index l.values) (app_of l.command) ≡ add_values l.values (app_of l.fn.bare))
