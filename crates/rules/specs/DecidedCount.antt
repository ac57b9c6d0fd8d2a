-- What is decided of a count or an adjustment by the rows of its slice: the conditions judged, and the rows changed.
use Rattle.std.specs.Prelude.{◌+◌, ◌-◌, if◌then◌else◌, ◌∷◌, ◌-ℤ◌}
use Rattle.rules.specs.Words.{ℕ, suc, min, Bool, not, nat_lt, List, [], ℤ, pos, negsuc, int_lt, Option, Some, LotId, UNITS_MAX, UnknownItem, UnknownBin, UnknownLot, NotInBin, OverUnits, Recount, Adjustment, CardKind, WriteOn, WrittenOff, CardRow, StockRow, Judgement, taken_off, put_on, reply_text, ChangedBy, capped, sees_item, sees_bin, units_seen, number_seen, lot_units, sees_lot, in_bin_seen, Slice, Change}
use Rattle.rules.specs.declared.posting.Place.TheVariants.{InBin, WriteOff}
use Rattle.rules.specs.declared.posting.Posting.{Posting}
use Rattle.rules.specs.Told.{told_once}
use Rattle.rules.specs.PostedChanges.{stock_after, bins_changes}
use Rattle.rules.specs.declared.changes.Facts.{Facts}

-- Judging

-- with `more` units put in and `fewer` taken out the item would exceed the limit
abbrev pub is_over_without : Slice → List ℕ → ℕ → ℕ → Bool
is_over_without s g more fewer = nat_lt UNITS_MAX (capped (units_seen s g + more) - fewer)

abbrev pub count_seen : Slice → Recount → Judgement
count_seen s c =
    (not (sees_item s c.lot.gtin), UnknownItem)
    ∷ (not (sees_bin s c.bin), UnknownBin)
    ∷ (not (sees_lot s c.lot), UnknownLot)
    ∷ (is_over_without s c.lot.gtin c.qty (in_bin_seen s c.bin c.lot), OverUnits) ∷ []

abbrev pub adjust_seen : Slice → Adjustment → Judgement
adjust_seen s a =
    (not (sees_item s a.lot.gtin), UnknownItem)
    ∷ (not (sees_bin s a.bin), UnknownBin)
    ∷ (not (sees_lot s a.lot), UnknownLot)
    ∷ (nat_lt (in_bin_seen s a.bin a.lot) (taken_off a.change), NotInBin)
    ∷ (is_over_without s a.lot.gtin (put_on a.change) (taken_off a.change), OverUnits) ∷ []

-- Changing: units of a lot are written on to a bin, or off it

-- the greatest number of units that is told with a sign
abbrev pub SIGNED_CAP : ℕ
SIGNED_CAP = 9_223_372_036_854_775_807

-- what was found less what was there
abbrev pub found_less : ℕ → ℕ → ℤ
found_less found have = pos found -ℤ pos (min have SIGNED_CAP)

-- units written on to a bin, or off it
abbrev pub written_told : LotId → List ℕ → ℤ → Option Posting
written_told l b (pos k) = told_once l WriteOff (InBin b) k
written_told l b (negsuc k) = told_once l (InBin b) WriteOff (suc k)

-- the card line of units written on or off, after which these are the stock rows
abbrev pub correction_card : Slice → LotId → List ℕ → ℤ → CardKind → List StockRow → CardRow
correction_card s l b change kind stock = record {
  lot = l;
  act = number_seen s;
  day = s.meta.day;
  kind = kind;
  note = b;
  qty = change;
  rest = lot_units l stock s.rows.staged;
}

abbrev pub correction_cards : Slice → LotId → List ℕ → ℤ → List StockRow → List CardRow
correction_cards s l b change stock =
    if int_lt (pos 0) change then correction_card s l b change WriteOn stock ∷ []
    else (if int_lt change (pos 0) then correction_card s l b change WrittenOff stock ∷ [] else [])

abbrev pub change_reply : Slice → ℤ → List ℕ
change_reply s change = reply_text (number_seen s) (Some (ChangedBy change))

abbrev pub correction_facts : Slice → LotId → List ℕ → ℤ → List StockRow → Facts
correction_facts s l b change stock = record { lots = []; cards = correction_cards s l b change stock; text = change_reply s change }

abbrev pub corrections : Slice → LotId → List ℕ → ℤ → Change
corrections s l b change =
    let stock = stock_after s (written_told l b change) in
    bins_changes s l.gtin (written_told l b change) s.rows.lots stock (correction_facts s l b change stock)

abbrev pub count_changes : Slice → Recount → Change
count_changes s c = corrections s c.lot c.bin (found_less c.qty (in_bin_seen s c.bin c.lot))

abbrev pub adjust_changes : Slice → Adjustment → Change
adjust_changes s a = corrections s a.lot a.bin a.change
