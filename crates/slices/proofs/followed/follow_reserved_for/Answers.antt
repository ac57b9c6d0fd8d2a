use Rattle.slices.proofs.Words.{List, subst, reverse, nat_cmp, slice_cmp, ReservedRow, same_reserved_row, ChangesBy, with_put, without_row}
use Rattle.slices.proofs.followed.follow_reserved_for.Goals as goal

pub returns : goal.returns
returns c = (
  c.lose_all.new.self.rows,
  subst (λ (rows : List ReservedRow). ChangesBy (slice_cmp nat_cmp) (λ (r : ReservedRow). reverse r.order) (without_row same_reserved_row) rows c.args.reserved.now.rows c.lose_all.new.self.rows) c.as_slice.ensures c.lose_all.ensures,
  subst (λ (rows : List ReservedRow). ChangesBy (slice_cmp nat_cmp) (λ (r : ReservedRow). reverse r.order) (with_put same_reserved_row) rows c.lose_all.new.self.rows c.put_all.new.self.rows) c.as_slice-2.ensures c.put_all.ensures,
)
