use Rattle.slices.proofs.Words.{List, subst, reverse, nat_cmp, slice_cmp, ReservedRow, same_reserved_row, ChangesBy, with_put, without_row}
use Rattle.slices.proofs.followed.follow_reserved.Goals as goal

pub returns : goal.returns
returns c = (
  c.drop_all.new.self.rows,
  subst (λ (rows : List ReservedRow). ChangesBy (slice_cmp nat_cmp) (λ (r : ReservedRow). reverse r.lot.gtin) (without_row same_reserved_row) rows c.args.reserved.now.rows c.drop_all.new.self.rows) c.as_slice.ensures c.drop_all.ensures,
  subst (λ (rows : List ReservedRow). ChangesBy (slice_cmp nat_cmp) (λ (r : ReservedRow). reverse r.lot.gtin) (with_put same_reserved_row) rows c.drop_all.new.self.rows c.put_all.new.self.rows) c.as_slice-2.ensures c.put_all.ensures,
)
