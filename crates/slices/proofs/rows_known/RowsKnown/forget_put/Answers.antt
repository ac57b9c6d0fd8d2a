use Rattle.slices.proofs.Words.{List, subst, reverse, nat_cmp, slice_cmp, BinRow, ItemRow, LeastRow, RecallRow, ForgetsBy}
use Rattle.slices.proofs.rows_known.RowsKnown.forget_put.Goals as goal

pub returns-clause-forgets : goal.returns-clause-forgets
returns-clause-forgets c = record {
  items = subst (λ (rows : List ItemRow). ForgetsBy (slice_cmp nat_cmp) (λ (r : ItemRow). reverse r.gtin) rows c.args.self.now.items.rows c.forget_all.new.self.rows) c.as_slice.ensures c.forget_all.ensures;
  least = subst (λ (rows : List LeastRow). ForgetsBy (slice_cmp nat_cmp) (λ (r : LeastRow). reverse r.gtin) rows c.args.self.now.least.rows c.forget_all-2.new.self.rows) c.as_slice-2.ensures c.forget_all-2.ensures;
  bins = subst (λ (rows : List BinRow). ForgetsBy (slice_cmp nat_cmp) (λ (r : BinRow). reverse r.name) rows c.args.self.now.bins.rows c.forget_all-3.new.self.rows) c.as_slice-3.ensures c.forget_all-3.ensures;
  recalls = subst (λ (rows : List RecallRow). ForgetsBy (slice_cmp nat_cmp) (λ (r : RecallRow). reverse r.lot.gtin) rows c.args.self.now.recalls.rows c.forget_all-4.new.self.rows) c.as_slice-4.ensures c.forget_all-4.ensures;
}
