use Rattle.goodsin.proofs.Words.{◌≡◌, ◌≤◌, ◌+◌, ◌∷◌, [], ℕ, List, Some, Ok, All, length, expected_len, rows_read, IsReading, Stands, Fields, IsReceipt}
use Rattle.goodsin.proofs.file.read_rows.Given as goal

abbrev pub invariant-rows : goal.invariant-rows
invariant-rows g l = record {
  reading : IsReading l.reader;
  seven : expected_len l.reader ≡ Some 7;
  stands : (text : List ℕ) (h : Fields) → Stands g.R.Read.remaining text (h ∷ []) l.initial.reader
      → (fs : List Fields) × Stands g.R.Read.remaining text (h ∷ fs) l.reader × (rows_read l.fn.today 1 fs ≡ Ok l.rows.items) × (length fs ≡ length l.rows.items);
  counted : length l.rows.items + 1 ≡ l.row;
  few : length l.rows.items ≤ 1000;
  receipts : All IsReceipt l.rows.items;
}
