use Rattle.commands.proofs.Below.{◌≡◌, ◌++◌, take, lines_fields, with_line_feeds}
use Rattle.commands.proofs.spelling.add_lines.Given as goal

abbrev pub invariant-loop-line : goal.invariant-loop-line
invariant-loop-line l = l.text.items ≡ l.initial.text.items ++ with_line_feeds (lines_fields (take l.line-index l.lines))
