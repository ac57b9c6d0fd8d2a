-- What is decided of a move by the rows of its slice: the conditions judged, and what it posts.
use Rattle.std.specs.Prelude.{◌∷◌}
use Rattle.rules.specs.Words.{not, nat_lt, [], Option, same_text, UnknownItem, UnknownBin, UnknownLot, NotInBin, SameBin, Movement, Judgement, sees_item, sees_bin, sees_lot, in_bin_seen, Slice, Change}
use Rattle.rules.specs.declared.posting.Place.TheVariants.{InBin}
use Rattle.rules.specs.declared.posting.Posting.{Posting}
use Rattle.rules.specs.Told.{told_once}
use Rattle.rules.specs.PostedChanges.{no_facts, stock_after, bins_changes}

abbrev pub move_seen : Slice → Movement → Judgement
move_seen s m =
    (not (sees_item s m.lot.gtin), UnknownItem)
    ∷ (not (sees_bin s m.from), UnknownBin)
    ∷ (not (sees_bin s m.to), UnknownBin)
    ∷ (not (sees_lot s m.lot), UnknownLot)
    ∷ (nat_lt (in_bin_seen s m.from m.lot) m.qty, NotInBin)
    ∷ (same_text m.from m.to, SameBin) ∷ []

-- the units go from the one bin to the other
abbrev pub move_told : Movement → Option Posting
move_told m = told_once m.lot (InBin m.from) (InBin m.to) m.qty

abbrev pub move_changes : Slice → Movement → Change
move_changes s m = bins_changes s m.lot.gtin (move_told m) s.rows.lots (stock_after s (move_told m)) (no_facts s)
