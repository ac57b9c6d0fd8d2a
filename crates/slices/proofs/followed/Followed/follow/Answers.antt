use Rattle.slices.proofs.Words.{List, refl, subst, reverse, nat_cmp, slice_cmp, LineRow, LotRow, OrderRow, UrgentRow, turned_lot, lot_key_cmp, turned_line, line_key_cmp, same_lot_row, same_urgent_row, same_line_row, ChangesBy, SetsBy, with_put}
use Rattle.slices.proofs.followed.Followed.follow.Goals as goal

pub returns : goal.returns
returns c =
    let old = c.args.self.now in
    record {
      lots = subst (λ (rows : List LotRow). ChangesBy lot_key_cmp (λ (r : LotRow). turned_lot r.lot) (with_put same_lot_row) rows old.lots.rows c.put_all.new.self.rows) c.as_slice.ensures c.put_all.ensures;
      lots_of = subst (λ (rows : List LotRow). ChangesBy (slice_cmp nat_cmp) (λ (r : LotRow). reverse r.lot.gtin) (with_put same_lot_row) rows old.lots_of.rows c.put_all-2.new.self.rows) c.as_slice-2.ensures c.put_all-2.ensures;
      orders = subst (λ (rows : List OrderRow). SetsBy (slice_cmp nat_cmp) (λ (r : OrderRow). reverse r.order) rows old.orders.rows c.set_all.new.self.rows) c.as_slice-3.ensures c.set_all.ensures;
      urgents = subst (λ (rows : List UrgentRow). ChangesBy (slice_cmp nat_cmp) (λ (r : UrgentRow). reverse r.order) (with_put same_urgent_row) rows old.urgents.rows c.put_all-3.new.self.rows) c.as_slice-4.ensures c.put_all-3.ensures;
      lines = subst (λ (rows : List LineRow). ChangesBy (slice_cmp nat_cmp) (λ (r : LineRow). reverse r.order) (with_put same_line_row) rows old.lines.rows c.put_all-4.new.self.rows) c.as_slice-5.ensures c.put_all-4.ensures;
      lines_at = subst (λ (rows : List LineRow). ChangesBy line_key_cmp (λ (r : LineRow). turned_line (r.order, r.gtin)) (with_put same_line_row) rows old.lines_at.rows c.put_all-5.new.self.rows) c.as_slice-6.ensures c.put_all-5.ensures;
      stock = c.follow_stock.ensures;
      staged = c.follow_staged.ensures;
      staged_for = c.follow_staged_for.ensures;
      reserved = c.follow_reserved.ensures;
      reserved_for = c.follow_reserved_for.ensures;
      meta = refl;
    }
