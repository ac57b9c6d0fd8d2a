-- Keys that tell exactly, and the keys of rows.
use Rattle.std.specs.Prelude.{◌≡◌, ℕ, Bool, true, ◌&&◌, List, bytes_eq}
use Rattle.std.proofs.Common.{refl, ◌∙◌}
use Rattle.std.specs.Ordering.{nat_cmp, ordering_then, is_eq}
use Rattle.std.specs.Cmp.{both_tied, first_so, second_so}
use Rattle.std.specs.Cmp.Lexicographic.{slice_cmp, texts_ties}
use Rattle.values.specs.declared.lot.LotId.{LotId}
use Rattle.values.specs.declared.lot_key.LotKey.{LotKey}
use Rattle.commands.specs.declared.rows.LineRow.{LineRow}
use Rattle.commands.specs.declared.rows.LotRow.{LotRow}
use Rattle.commands.specs.declared.rows.ReservedRow.{ReservedRow}
use Rattle.commands.specs.declared.rows.StagedRow.{StagedRow}
use Rattle.commands.specs.declared.rows.StockRow.{StockRow}
use Rattle.commands.specs.declared.rows.UrgentRow.{UrgentRow}
use Rattle.values.proofs.Turned.{same_text_is}
use Rattle.rows_in_memory.specs.LineOrder.{line_key_cmp}
use Rattle.rows_in_memory.specs.LotOrder.{lot_key_cmp}
use Rattle.rows_in_memory.specs.declared.line_keys.LineKey.{LineKey}

-- texts that compare as equal are one
pub text_one : (k q : List ℕ) → is_eq (slice_cmp nat_cmp k q) ≡ true → k ≡ q
text_one k q e = same_text_is k q (texts_ties k q ∙ e)

-- so are two texts
texts_one : (a b c d : List ℕ) → is_eq (ordering_then (slice_cmp nat_cmp a b) (slice_cmp nat_cmp c d)) ≡ true → (a ≡ b) × (c ≡ d)
texts_one a b c d e =
    let both = both_tied (is_eq (slice_cmp nat_cmp a b)) (is_eq (slice_cmp nat_cmp c d)) (slice_cmp nat_cmp a b) (slice_cmp nat_cmp c d) refl refl ∙ e in
    (text_one a b (first_so _ _ both), text_one c d (second_so _ _ both))

pub lot_one : (k q : LotKey) → is_eq (lot_key_cmp k q) ≡ true → k ≡ q
lot_one k q e =
    let both = texts_one k.lot q.lot k.item q.item e in
    λ i. record { lot = both.0 i; item = both.1 i }

pub line_one : (k q : LineKey) → is_eq (line_key_cmp k q) ≡ true → k ≡ q
line_one k q e =
    let both = texts_one k.order q.order k.item q.item e in
    λ i. record { order = both.0 i; item = both.1 i }

abbrev same_lot_id : LotId → LotId → Bool
same_lot_id a b = bytes_eq a.gtin b.gtin && bytes_eq a.lot b.lot

-- units of one lot in one bin
abbrev pub same_stock_row : StockRow → StockRow → Bool
same_stock_row a b = same_lot_id a.lot b.lot && bytes_eq a.bin b.bin

-- units of one lot staged for one order
abbrev pub same_staged_row : StagedRow → StagedRow → Bool
same_staged_row a b = bytes_eq a.order b.order && same_lot_id a.lot b.lot

-- or reserved for it
abbrev pub same_reserved_row : ReservedRow → ReservedRow → Bool
same_reserved_row a b = bytes_eq a.order b.order && same_lot_id a.lot b.lot

-- one lot
abbrev pub same_lot_row : LotRow → LotRow → Bool
same_lot_row a b = same_lot_id a.lot b.lot

-- one order
abbrev pub same_urgent_row : UrgentRow → UrgentRow → Bool
same_urgent_row a b = bytes_eq a.order b.order

-- one item of one order
abbrev pub same_line_row : LineRow → LineRow → Bool
same_line_row a b = bytes_eq a.order b.order && bytes_eq a.gtin b.gtin
