use Rattle.histories.proofs.Words.{length, rules, appended_bytes}
use Rattle.histories.proofs.Ends.{longer, still_open, read_on, is_line, piece_came, no_piece, no_bytes, end_back}
use Rattle.histories.proofs.reading.read_line.Goals as goal

pub loop-line-preserved : goal.loop-line-preserved
loop-line-preserved g c =
    let step = c.append_piece.ensures in
    let old = c.loop-line.line.items in
    let new = c.append_piece.new.line.items in (
      read_on old new step.appends _ _ _ c.loop-line.invariant.0 step.bytes,
      still_open old new step.appends c.loop-line.invariant.1 (step.unfinished (search rules)),
      step.room,
    )

pub returns-then-branch-clause-whole : goal.returns-then-branch-clause-whole
returns-then-branch-clause-whole g c is_whole =
    let step = c.append_piece.ensures in
    let old = c.loop-line.line.items in
    let new = c.append_piece.new.line.items in
    let some = piece_came _ (length (appended_bytes old new)) _ c.how_it_ends.result (longer old new step.appends) (search rules) is_whole in
    is_line old new step.appends c.loop-line.invariant.1 step.stops (step.finished (search rules)) some

pub returns-then-branch-clause-part : goal.returns-then-branch-clause-part
returns-then-branch-clause-part g c is_part =
    let step = c.append_piece.ensures in
    let old = c.loop-line.line.items in
    let new = c.append_piece.new.line.items in
    let none = no_piece _ (length (appended_bytes old new)) _ c.how_it_ends.result (longer old new step.appends) (search rules) is_part in (
      still_open old new step.appends c.loop-line.invariant.1 (no_bytes (appended_bytes old new) none),
      end_back _ _ _ old c.loop-line.invariant.0 (step.end (search rules) none),
    )
