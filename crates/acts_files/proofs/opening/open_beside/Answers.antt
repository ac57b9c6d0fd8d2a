use Rattle.acts_files.proofs.Words.{refl, subst, sym, IsTrue, LeavesOldest}
use Rattle.acts_files.proofs.Own.{never_refused}
use Rattle.acts_files.proofs.opening.open_beside.Goals as goal

pub returns-in-Err-clause-own : goal.returns-in-Err-clause-own
returns-in-Err-clause-own g c clean first acts history holds now own =
    never_refused g.D.Disk first c.args.begun acts c.args.disk c.open.new.self.disk c.in-Err.fault history (subst (λ d. IsTrue (g.D.Disk.is_clean d)) c.into_disk.ensures now) own
    (c.in-Err.ensures.kept clean first acts history holds (refl, refl)).2

pub returns-in-Err-clause-leaves : goal.returns-in-Err-clause-leaves
returns-in-Err-clause-leaves g c clean first acts history holds =
    subst (λ d. LeavesOldest g.D.Disk c.args.begun acts c.args.disk d) (sym c.into_disk.ensures) (c.in-Err.ensures.leaves clean first acts history holds (refl, refl))
