use Rattle.slices.proofs.Words.{List, subst, reverse, nat_cmp, slice_cmp, StockRow, same_stock_row, ChangesBy, with_put, without_row}
use Rattle.slices.proofs.followed.follow_stock.Goals as goal

pub returns : goal.returns
returns c = (
  c.drop_all.new.self.rows,
  subst (λ (rows : List StockRow). ChangesBy (slice_cmp nat_cmp) (λ (r : StockRow). reverse r.lot.gtin) (without_row same_stock_row) rows c.args.stock.now.rows c.drop_all.new.self.rows) c.as_slice.ensures c.drop_all.ensures,
  subst (λ (rows : List StockRow). ChangesBy (slice_cmp nat_cmp) (λ (r : StockRow). reverse r.lot.gtin) (with_put same_stock_row) rows c.drop_all.new.self.rows c.put_all.new.self.rows) c.as_slice-2.ensures c.put_all.ensures,
)
