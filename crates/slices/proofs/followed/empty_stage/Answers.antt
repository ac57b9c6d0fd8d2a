use Rattle.std.proofs.Common.{inl, inr, sym}
use Rattle.slices.proofs.followed.empty_stage.Goals as goal

pub returns-in-Some : goal.returns-in-Some
returns-in-Some c = inl (c.in-Some.gone.now, sym c.in-Some.ensures, c.drop_all.ensures)

pub returns-in-None : goal.returns-in-None
returns-in-None c = inr c.new.ensures
