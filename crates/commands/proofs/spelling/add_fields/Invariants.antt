use Rattle.commands.proofs.Below.{◌≡◌, ◌++◌, map, take, with_line_feeds}
use Rattle.commands.proofs.spelling.add_fields.Given as goal

abbrev pub invariant-loop-field : goal.invariant-loop-field
invariant-loop-field l = l.text.items ≡ l.initial.text.items ++ with_line_feeds (map (λ f. f.now) (take l.field-index l.fields))
