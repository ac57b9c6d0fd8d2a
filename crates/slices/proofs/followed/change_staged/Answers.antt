use Rattle.slices.proofs.Words.{List, subst, reverse, nat_cmp, slice_cmp, StagedRow, same_staged_row, ChangesBy, with_put, without_row}
use Rattle.slices.proofs.followed.change_staged.Goals as goal

pub returns : goal.returns
returns c = (
  c.drop_all.new.self.rows,
  subst (λ (rows : List StagedRow). ChangesBy (slice_cmp nat_cmp) (λ (r : StagedRow). reverse r.lot.gtin) (without_row same_staged_row) rows c.args.staged.now.rows c.drop_all.new.self.rows) c.as_slice.ensures c.drop_all.ensures,
  subst (λ (rows : List StagedRow). ChangesBy (slice_cmp nat_cmp) (λ (r : StagedRow). reverse r.lot.gtin) (with_put same_staged_row) rows c.drop_all.new.self.rows c.put_all.new.self.rows) c.as_slice-2.ensures c.put_all.ensures,
)
