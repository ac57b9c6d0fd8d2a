-- The order of lots: by their texts, and then by their GTINs, each from its last character on.
use Rattle.std.specs.Prelude.{◌≡◌, true, reverse}
use Rattle.std.specs.Ordering.{nat_cmp, ordering_then, is_eq}
use Rattle.std.specs.declared.cmp.Ordering.{Ordering}
use Rattle.std.specs.Cmp.{both_tied}
use Rattle.std.specs.Cmp.Lexicographic.{slice_cmp}
use Rattle.values.specs.Values.{same_text}
use Rattle.values.specs.declared.lot.LotId.{LotId}
use Rattle.values.specs.declared.lot_key.LotKey.{LotKey}
use Rattle.std.proofs.Common.{sym, ◌∙◌}
use Rattle.std.proofs.Math.Bool.{and_comm}
use Rattle.machine.specs.Postings.{is_lot}
use Rattle.machine.proofs.Tests.{is_lot_is}
use Rattle.rows_in_memory.specs.NameOrder.{names_told}

-- the key of a lot
abbrev pub lot_key : LotId → LotKey
lot_key l = record { lot = reverse l.lot; item = reverse l.gtin }

abbrev pub lot_key_cmp : LotKey → LotKey → Ordering
lot_key_cmp a b = ordering_then (slice_cmp nat_cmp a.lot b.lot) (slice_cmp nat_cmp a.item b.item)

-- one lot exactly if neither is before the other
pub lots_told : (l m : LotId) → is_eq (lot_key_cmp (lot_key m) (lot_key l)) ≡ is_lot l m
lots_told l m =
    sym (both_tied (same_text l.lot m.lot) (same_text l.gtin m.gtin) (slice_cmp nat_cmp (reverse m.lot) (reverse l.lot)) (slice_cmp nat_cmp (reverse m.gtin) (reverse l.gtin)) (sym (names_told l.lot m.lot)) (sym (names_told l.gtin m.gtin)))
    ∙ and_comm (same_text l.lot m.lot) (same_text l.gtin m.gtin)

pub lots_exact : (l m : LotId) → is_lot l m ≡ true → l ≡ m
lots_exact l m e = is_lot_is l m e
