use Rattle.slices.proofs.Words.{ℕ, List, Option, refl, sym, subst, StageLeft}
use Rattle.slices.proofs.followed.leave_stage.Goals as goal

pub returns-in-Some : goal.returns-in-Some
returns-in-Some c = subst (λ (x : Option (List ℕ)). StageLeft x c.args.stages.now.rows c.args.staged.now.rows c.empty_stage.new.staged.rows) (sym c.in-Some.is) c.empty_stage.ensures

pub returns-in_default : goal.returns-in_default
returns-in_default c = subst (λ (x : Option (List ℕ)). StageLeft x c.args.stages.now.rows c.args.staged.now.rows c.args.staged.now.rows) (sym c.in_default.is) refl
