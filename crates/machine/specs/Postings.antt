-- Places, postings and balances.
use Rattle.std.specs.Prelude.{ℕ, ◌-◌, Bool, true, false, ◌&&◌, ◌==◌, if◌then◌else◌, List}
use Rattle.machine.specs.Words.{same_text, LotId, total}

-- where units may be. What of a lot is on the stage of an order is staged for the order's line of the lot's item.
pub data Place : Type 0 where
  Supplier : Place
  InBin : (bin : List ℕ) → Place
  Stage : (order : List ℕ) → Place
  Shipped : (shipment : ℕ) (order : List ℕ) → Place
  WriteOff : Place

-- units of a lot that an act brings from one place to another
pub record Posting : Type 0 where
  pub act : ℕ
  pub lot : LotId
  pub from : Place
  pub to : Place
  pub qty : ℕ

-- Which lots

abbrev pub is_lot : LotId → LotId → Bool
is_lot l m = same_text l.gtin m.gtin && same_text l.lot m.lot

abbrev pub any_lot : LotId → Bool
any_lot l = true

abbrev pub of_item : List ℕ → LotId → Bool
of_item g l = same_text g l.gtin

-- Which places

abbrev pub is_bin : List ℕ → Place → Bool
is_bin b (InBin c) = same_text b c
is_bin b _ = false

abbrev pub is_stage : List ℕ → Place → Bool
is_stage o (Stage p) = same_text o p
is_stage o _ = false

abbrev pub is_shipped_to : List ℕ → Place → Bool
is_shipped_to o (Shipped n p) = same_text o p
is_shipped_to o _ = false

abbrev pub is_shipment : ℕ → Place → Bool
is_shipment n (Shipped m p) = n == m
is_shipment n _ = false

-- in bins or staged
abbrev pub in_house : Place → Bool
in_house (InBin b) = true
in_house (Stage o) = true
in_house _ = false

-- the units of such lots that postings bring into such places, and those that they take out
abbrev pub units_in : (Place → Bool) → (LotId → Bool) → List Posting → ℕ
units_in places lots ps = total (λ p. if places p.to && lots p.lot then p.qty else 0) ps

abbrev pub units_out : (Place → Bool) → (LotId → Bool) → List Posting → ℕ
units_out places lots ps = total (λ p. if places p.from && lots p.lot then p.qty else 0) ps

-- the balance of such places in such lots: the postings into them less those out of them
abbrev pub balance : (Place → Bool) → (LotId → Bool) → List Posting → ℕ
balance places lots ps = units_in places lots ps - units_out places lots ps
