-- The stock card of a lot: one line for each act that received, wrote on, wrote off or shipped units of it.
use Rattle.std.specs.Prelude.{ℕ, List, [], ◌∷◌, ◌++◌, codes, decimal, flat_map, ℤ, pos, neg_ℤ}
use Rattle.machine.specs.Words.{LotId, Key, CardKind, Receipt, WriteOn, WrittenOff, Shipment, CardRow}
use Rattle.commands.specs.declared.key.Key.TheVariants.{Plain, Line}
use Rattle.machine.specs.Acts.{Act}
use Rattle.machine.specs.Postings.{Place, Supplier, InBin, Stage, Shipped, WriteOff, Posting, balance, in_house, is_lot}
use Rattle.machine.specs.Standing.{today}
use Rattle.machine.specs.Ledger.{postings_of, postings}

-- the units of a lot in bins or staged
abbrev pub lot_units_in_house : ℤ → List Act → LotId → ℕ
lot_units_in_house first acts l = balance in_house (is_lot l) (postings first acts)

-- `delivery/line`
abbrev pub delivery_note : Key → List ℕ
delivery_note (Plain name) = []
delivery_note (Line delivery line) = delivery ++ codes "/" ++ decimal line

abbrev pub card_line : ℤ → Act → List Act → Posting → CardKind → List ℕ → ℤ → List CardRow
card_line first act before p kind note q =
    record { lot = p.lot; act = p.act; day = today first (act ∷ before); kind = kind; note = note; qty = q; rest = lot_units_in_house first (act ∷ before) p.lot } ∷ []

-- the line of a posting into the house or out of it
abbrev pub card_lines : ℤ → Act → List Act → Posting → Place → Place → List CardRow
card_lines first act before p Supplier (InBin b) = card_line first act before p Receipt (delivery_note act.key) (pos p.qty)
card_lines first act before p WriteOff (InBin b) = card_line first act before p WriteOn b (pos p.qty)
card_lines first act before p (InBin b) WriteOff = card_line first act before p WrittenOff b (neg_ℤ (pos p.qty))
card_lines first act before p (Stage o) (Shipped n q) = card_line first act before p Shipment (decimal n) (neg_ℤ (pos p.qty))
card_lines first act before p _ _ = []

-- the card lines of all lots, the newest first
abbrev pub cards : ℤ → List Act → List CardRow
cards first [] = []
cards first (act ∷ before) =
    flat_map (λ p. card_lines first act before p p.from p.to) (postings_of first act before) ++ cards first before
