-- Of no rows, and of some rows fewer, what is known is so.
use Rattle.slices.proofs.Words.{sym, subst, reverse, Option, nat_cmp, slice_cmp, Tables, MetaRow, Put, turned_lot, lot_key_cmp, turned_line, line_key_cmp, AreBinsOf, AreItemsOf, AreLeastOf, AreLotOf, AreRecallsOf, AreLinesOfOrder, AreLineOf, AreStockOf, AreOrdersOf, AreReservedOfItem, AreReservedOfOrder, AreStagedOfItem, AreStagedOfOrder, AreUrgentsOf, remembers_left, remembers_none, KnowsMeta, KnowsFollowed, KnowsNoneFollowed, KnowsRows, KnowsNoRows, ForgetsPut, Followed, RowsKnown}
use Rattle.tables.specs.Lots.{AreLotsOf}

-- of rows that follow what is written
pub none_followed : (t : Tables) (known : Followed) → KnowsNoneFollowed known → KnowsFollowed t known
none_followed t known none = record {
  lots = remembers_none lot_key_cmp turned_lot (λ by found. AreLotOf by t found) known.lots.rows none.lots;
  lots_of = remembers_none (slice_cmp nat_cmp) reverse (λ by found. AreLotsOf by t found) known.lots_of.rows none.lots_of;
  orders = remembers_none (slice_cmp nat_cmp) reverse (λ by found. AreOrdersOf by t found) known.orders.rows none.orders;
  urgents = remembers_none (slice_cmp nat_cmp) reverse (λ by found. AreUrgentsOf by t found) known.urgents.rows none.urgents;
  lines = remembers_none (slice_cmp nat_cmp) reverse (λ by found. AreLinesOfOrder by t found) known.lines.rows none.lines;
  lines_at = remembers_none line_key_cmp turned_line (λ by found. AreLineOf by t found) known.lines_at.rows none.lines_at;
  stock = remembers_none (slice_cmp nat_cmp) reverse (λ by found. AreStockOf by t found) known.stock.rows none.stock;
  staged = remembers_none (slice_cmp nat_cmp) reverse (λ by found. AreStagedOfItem by t found) known.staged.rows none.staged;
  staged_for = remembers_none (slice_cmp nat_cmp) reverse (λ by found. AreStagedOfOrder by t found) known.staged_for.rows none.staged_for;
  reserved = remembers_none (slice_cmp nat_cmp) reverse (λ by found. AreReservedOfItem by t found) known.reserved.rows none.reserved;
  reserved_for = remembers_none (slice_cmp nat_cmp) reverse (λ by found. AreReservedOfOrder by t found) known.reserved_for.rows none.reserved_for;
  meta = subst (λ (x : Option MetaRow). KnowsMeta t x) (sym none.meta) tt;
}

pub no_rows_known : (t : Tables) (known : RowsKnown) → KnowsNoRows known → KnowsRows t known
no_rows_known t known none = record {
  items = remembers_none (slice_cmp nat_cmp) reverse (λ by found. AreItemsOf by t found) known.items.rows none.items;
  least = remembers_none (slice_cmp nat_cmp) reverse (λ by found. AreLeastOf by t found) known.least.rows none.least;
  bins = remembers_none (slice_cmp nat_cmp) reverse (λ by found. AreBinsOf by t found) known.bins.rows none.bins;
  recalls = remembers_none (slice_cmp nat_cmp) reverse (λ by found. AreRecallsOf by t found) known.recalls.rows none.recalls;
  followed = none_followed t known.followed none.followed;
}

pub rows_stay_known : (puts : Put) (t : Tables) (old new : RowsKnown) → ForgetsPut puts old new → KnowsFollowed t new.followed → KnowsRows t old → KnowsRows t new
rows_stay_known puts t old new forgets followed known = record {
  items = remembers_left (slice_cmp nat_cmp) reverse (λ by found. AreItemsOf by t found) (λ r. reverse r.gtin) puts.items old.items.rows new.items.rows forgets.items known.items;
  least = remembers_left (slice_cmp nat_cmp) reverse (λ by found. AreLeastOf by t found) (λ r. reverse r.gtin) puts.least old.least.rows new.least.rows forgets.least known.least;
  bins = remembers_left (slice_cmp nat_cmp) reverse (λ by found. AreBinsOf by t found) (λ r. reverse r.name) puts.bins old.bins.rows new.bins.rows forgets.bins known.bins;
  recalls = remembers_left (slice_cmp nat_cmp) reverse (λ by found. AreRecallsOf by t found) (λ r. reverse r.lot.gtin) puts.recalls old.recalls.rows new.recalls.rows forgets.recalls known.recalls;
  followed = followed;
}

-- whatever is known of what follows what is written
pub forgets_beside : (puts : Put) (old new : RowsKnown) (followed : Followed) → ForgetsPut puts old new → ForgetsPut puts old (record new { followed = followed })
forgets_beside puts old new followed forgets = record { items = forgets.items; least = forgets.least; bins = forgets.bins; recalls = forgets.recalls }
