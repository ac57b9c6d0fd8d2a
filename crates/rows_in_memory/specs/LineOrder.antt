-- The order of lines: by the names of their orders, and then by their GTINs, each from its last character on.
use Rattle.std.specs.Prelude.{◌≡◌, ℕ, Bool, true, ◌&&◌, List, reverse}
use Rattle.std.specs.Ordering.{nat_cmp, ordering_then, is_eq}
use Rattle.std.specs.declared.cmp.Ordering.{Ordering}
use Rattle.std.specs.Cmp.{both_tied}
use Rattle.std.specs.Cmp.Lexicographic.{slice_cmp}
use Rattle.std.proofs.Common.{sym}
use Rattle.values.specs.Values.{same_text}
use Rattle.machine.proofs.Tests.{and_both, same_text_is}
use Rattle.rows_in_memory.specs.NameOrder.{names_told}
use Rattle.rows_in_memory.specs.declared.line_keys.LineKey.{LineKey}

-- an order's name and a GTIN
abbrev pub LineId : Type 0
LineId = List ℕ × List ℕ

abbrev pub same_line : LineId → LineId → Bool
same_line a b = same_text a.0 b.0 && same_text a.1 b.1

-- the key of a line
abbrev pub turned_line : LineId → LineKey
turned_line l = record { order = reverse l.0; item = reverse l.1 }

abbrev pub line_key_cmp : LineKey → LineKey → Ordering
line_key_cmp a b = ordering_then (slice_cmp nat_cmp a.order b.order) (slice_cmp nat_cmp a.item b.item)

-- one line exactly if neither is before the other
pub lines_told : (l m : LineId) → is_eq (line_key_cmp (turned_line m) (turned_line l)) ≡ same_line l m
lines_told l m = sym (both_tied (same_text l.0 m.0) (same_text l.1 m.1) (slice_cmp nat_cmp (reverse m.0) (reverse l.0)) (slice_cmp nat_cmp (reverse m.1) (reverse l.1)) (sym (names_told l.0 m.0)) (sym (names_told l.1 m.1)))

pub lines_exact : (l m : LineId) → same_line l m ≡ true → l ≡ m
lines_exact l m e =
    let both = and_both (same_text l.0 m.0) (same_text l.1 m.1) e in
    λ i. (same_text_is l.0 m.0 both.0 i, same_text_is l.1 m.1 both.1 i)
