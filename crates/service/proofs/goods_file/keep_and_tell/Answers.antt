use Rattle.std.proofs.Common.{◌++◌, Err, ap, inl, inr, refl}
use Rattle.service.proofs.goods_file.keep_and_tell.Goals as goal

pub returns-in-Ok-clause-told : goal.returns-in-Ok-clause-told
returns-in-Ok-clause-told g c clean first begun newer older history holds keeps =
    (c.bring_up.ensures.holds clean first (newer ++ older) history holds, inl (c.in-Ok.ensures.kept clean first begun newer older history holds keeps, c.print_tally.ensures))

pub returns-in-Err-clause-told : goal.returns-in-Err-clause-told
returns-in-Err-clause-told g c clean first begun newer older history holds keeps = (
  c.bring_up.ensures.holds clean first (newer ++ older) history holds,
  inr (c.in-Err.ensures.leaves clean first begun newer older history holds keeps, c.in-Err.ensures.fails, (c.in-Err.fault, ap Err c.fault_of_keep.ensures), refl),
)
