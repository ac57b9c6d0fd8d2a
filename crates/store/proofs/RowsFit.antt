-- The rows of a history fit into their columns. Those of items and bins have no number.
use Rattle.store.proofs.Words.{◌≡◌, refl, subst, true, MetaRow, fits_meta, tables_of, meta_row, some_one, RowsOfActsFit}
use Rattle.store.proofs.ActsFit.{meta_fits, least_fits, lot_fits, recall_fits, order_fits, urgent_fits, shipment_fits, repeat_fits}
use Rattle.store.proofs.UnitsFit.{stock_fits, line_fits, staged_fits, reserved_fits, shipline_fits, card_fits}
use Rattle.whole_tables.specs.declared.key.TableName.TheVariants as table

pub rows_of_acts_fit : RowsOfActsFit
unfolding tables_of
rows_of_acts_fit first acts h table.Meta k row e = subst (λ (r : MetaRow). fits_meta r ≡ true) (some_one (meta_row first acts) row e) (meta_fits first acts h)
rows_of_acts_fit first acts h table.Items k row e = refl
rows_of_acts_fit first acts h table.Least k row e = least_fits first acts h k row e
rows_of_acts_fit first acts h table.Bins k row e = refl
rows_of_acts_fit first acts h table.Lots k row e = lot_fits first acts h k row e
rows_of_acts_fit first acts h table.Recalls k row e = recall_fits first acts h k row e
rows_of_acts_fit first acts h table.Stock k row e = stock_fits first acts h k.0 k.1 row e
rows_of_acts_fit first acts h table.Orders k row e = order_fits first acts h k row e
rows_of_acts_fit first acts h table.Urgents k row e = urgent_fits first acts h k row e
rows_of_acts_fit first acts h table.Lines k row e = line_fits first acts h k.0 k.1 row e
rows_of_acts_fit first acts h table.Staged k row e = staged_fits first acts h k.0 k.1 row e
rows_of_acts_fit first acts h table.Reserved k row e = reserved_fits first acts h k.0 k.1 row e
rows_of_acts_fit first acts h table.Shipments k row e = shipment_fits first acts h k row e
rows_of_acts_fit first acts h table.Shiplines k row e = shipline_fits first k.1 acts h k.0 row e
rows_of_acts_fit first acts h table.Cards k row e = card_fits first acts h k.0 k.1 row e
rows_of_acts_fit first acts h table.Repeats k row e = repeat_fits first acts h k row e
