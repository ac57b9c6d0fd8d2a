use Rattle.slices.proofs.Words.{List, subst, reverse, nat_cmp, slice_cmp, StagedRow, same_staged_row, ChangesBy, with_put, without_row}
use Rattle.slices.proofs.followed.follow_staged_for.Goals as goal

pub returns : goal.returns
returns c = (
  c.empty_stage_for.new.stages.rows,
  c.drop_all.new.self.rows,
  c.empty_stage_for.ensures,
  subst (λ (rows : List StagedRow). ChangesBy (slice_cmp nat_cmp) (λ (r : StagedRow). reverse r.order) (without_row same_staged_row) rows c.empty_stage_for.new.stages.rows c.drop_all.new.self.rows) c.as_slice.ensures c.drop_all.ensures,
  subst (λ (rows : List StagedRow). ChangesBy (slice_cmp nat_cmp) (λ (r : StagedRow). reverse r.order) (with_put same_staged_row) rows c.drop_all.new.self.rows c.put_all.new.self.rows) c.as_slice-2.ensures c.put_all.ensures,
)
