-- What is read of the tables of a history are the rows by which the figures of the house are shown.
use Rattle.queries.proofs.Words.{◌≡◌, List, length, true, ℤ, MetaRow, Act, IsHistory, tables_of, Rows, LotKey, same_lot, recall_key, is_lot_is, is_lot_refl, ReservedKey, same_reserved, reserved_key, same_share_is, same_share_refl, rows_read, AreCounted, AreFiguresOf}
use Rattle.queries.proofs.ExpiringRight.{in_house, counted}
use Rattle.queries.proofs.OpenRight.{all_open, open_read, lines_read}

pub record AreFiguresRead (first : ℤ) (acts : List Act) (meta : MetaRow) (rows : Rows) : Type 0 where
  pub count : length acts ≡ meta.acts
  pub are : AreCounted first acts rows

pub figures_right : (first : ℤ) (acts : List Act) → IsHistory first acts → (meta : MetaRow) (rows : Rows) → AreFiguresOf (tables_of first acts) meta rows → AreFiguresRead first acts meta rows
unfolding tables_of
figures_right first acts history meta rows are =
    let t = tables_of first acts in
    let found = are.are in
    let of_open = found.open_rows in
    let orders = all_open first acts history are.known are.is_known rows.orders of_open.all_open in
    record {
      count = counted first acts meta found.is_meta;
      are = record {
        open_orders = open_read first acts rows.orders orders rows.urgents of_open.are_urgent;
        lines = lines_read first acts rows.orders orders rows.urgents of_open.are_urgent rows.lines of_open.all_lines;
        reserved = rows_read {K = ReservedKey} same_reserved reserved_key same_share_is same_share_refl (λ k. true) (λ k. t.reserved k.0 k.1) rows.reserved of_open.all_reserved;
        house = in_house first acts rows.lots rows.stock rows.staged found.house;
        recalls = rows_read {K = LotKey} same_lot recall_key is_lot_is is_lot_refl (λ k. true) t.recall rows.recalls found.recalls;
      };
    }
