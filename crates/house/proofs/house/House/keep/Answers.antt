use Rattle.house.proofs.Words.{subst, sym, as_before_itself}
use Rattle.house.proofs.Kept.{survives_itself}
use Rattle.house.proofs.house.House.keep.Goals as goal

pub returns-then-may_tell_of_acts-clause-same : goal.returns-then-may_tell_of_acts-clause-same
returns-then-may_tell_of_acts-clause-same g c other = absurd (other (c.may_tell_of_acts.ensures.yes c.if-may_tell_of_acts.true))

pub returns-then-may_tell_of_acts-clause-kept : goal.returns-then-may_tell_of_acts-clause-kept
returns-then-may_tell_of_acts-clause-kept g c clean first begun newer older history holds none keeps = c.bring_up.ensures.kept clean first begun newer older history holds keeps

pub returns-then-may_tell_of_acts-clause-asked : goal.returns-then-may_tell_of_acts-clause-asked
returns-then-may_tell_of_acts-clause-asked g c other = absurd (other (c.may_tell_of_acts.ensures.yes c.if-may_tell_of_acts.true))

pub returns-then-may_tell_of_acts-clause-leaves : goal.returns-then-may_tell_of_acts-clause-leaves
returns-then-may_tell_of_acts-clause-leaves g c clean first begun newer older history holds keeps = c.bring_up.ensures.leaves clean first begun newer older history holds keeps

pub returns-else-may_tell_of_acts-clause-as_before : goal.returns-else-may_tell_of_acts-clause-as_before
returns-else-may_tell_of_acts-clause-as_before g c clean = as_before_itself _

pub returns-else-may_tell_of_acts-clause-survives : goal.returns-else-may_tell_of_acts-clause-survives
returns-else-may_tell_of_acts-clause-survives g c = survives_itself _ _

pub returns-else-may_tell_of_acts-clause-kept : goal.returns-else-may_tell_of_acts-clause-kept
returns-else-may_tell_of_acts-clause-kept g c clean first begun newer older history holds none keeps =
    subst (g.K.Keeper.keeps c.args.keeper.now begun) (sym (none (c.may_tell_of_acts.ensures.no c.if-may_tell_of_acts.false))) keeps
