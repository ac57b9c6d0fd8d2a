use Rattle.std.proofs.Common.{◌≡◌, drop}
use Rattle.clap.specs.Simple.{app_of}
use Rattle.command_line.specs.Program.{add_lines}
use Rattle.command_line.proofs.words.with_lines.Given as goal

-- the lines that are left make of the program now what all of them make of the first
abbrev pub invariant-loop-line : goal.invariant-loop-line
invariant-loop-line l = add_lines (drop l.line-index l.lines) (app_of l.program) ≡ add_lines l.lines (app_of l.fn.bare)
