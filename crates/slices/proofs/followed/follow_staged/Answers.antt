use Rattle.slices.proofs.followed.follow_staged.Goals as goal

pub returns : goal.returns
returns c = (c.leave_stage.new.staged.rows, c.leave_stage.ensures, c.change_staged.ensures)
