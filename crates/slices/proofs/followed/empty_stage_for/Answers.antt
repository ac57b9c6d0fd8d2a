use Rattle.slices.proofs.Words.{ℕ, List, Option, refl, sym, subst, StageEmptied}
use Rattle.slices.proofs.followed.empty_stage_for.Goals as goal

pub returns-in-Some : goal.returns-in-Some
returns-in-Some c = subst (λ (x : Option (List ℕ)). StageEmptied x c.args.stages.now.rows c.empty.new.self.rows) (sym c.in-Some.is) c.empty.ensures

pub returns-in_default : goal.returns-in_default
returns-in_default c = subst (λ (x : Option (List ℕ)). StageEmptied x c.args.stages.now.rows c.args.stages.now.rows) (sym c.in_default.is) refl
