use Rattle.slices.proofs.Words.{◌≡◌, ℕ, List, sym, subst, nat_cmp, slice_cmp, RowMap, KnowsNone}
use Rattle.slices.proofs.rows_known.RowsKnown.for_one_query.Goals as goal

none_still : {R : Type 0} (old new : RowMap (List ℕ) R) → new ≡ old → KnowsNone (slice_cmp nat_cmp) old → KnowsNone (slice_cmp nat_cmp) new
none_still {R = R} old new same none = subst (λ (m : RowMap (List ℕ) R). KnowsNone (slice_cmp nat_cmp) m) (sym same) none

pub returns : goal.returns
returns c =
    let none = c.new-rows.ensures in
    let followed = none.followed in
    record {
      items = none.items;
      least = none.least;
      bins = none.bins;
      recalls = none.recalls;
      followed = record {
        lots = followed.lots;
        lots_of = followed.lots_of;
        orders = followed.orders;
        urgents = none_still c.new-rows.result.followed.urgents.rows c.seek_alone.new.self.rows c.seek_alone.ensures followed.urgents;
        lines = followed.lines;
        lines_at = followed.lines_at;
        stock = followed.stock;
        staged = followed.staged;
        staged_for = none_still c.new-rows.result.followed.staged_for.rows c.seek_alone-2.new.self.rows c.seek_alone-2.ensures followed.staged_for;
        reserved = followed.reserved;
        reserved_for = none_still c.new-rows.result.followed.reserved_for.rows c.seek_alone-3.new.self.rows c.seek_alone-3.ensures followed.reserved_for;
        meta = followed.meta;
      };
    }
