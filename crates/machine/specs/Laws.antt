-- Laws over all histories and all runs.
use Rattle.std.specs.Prelude.{◌≡◌, ◌≢◌, ℕ, ◌+◌, ◌≤◌, Bool, true, false, not, ◌==◌, ◌&&◌, ◌||◌, if◌then◌else◌, List, [], ◌∷◌, ◌++◌, map, Some, ℤ, unsigned_abs}
use Rattle.std.specs.List.{list_any, list_all, IsDistinct}
use Rattle.machine.specs.Words.{same_text, LotId, total, Key, Pick, Ship, Recall, ItemRow, CardKind, Receipt, WriteOn, WrittenOff, Shipment, CardRow, Row, plan_rows}
use Rattle.commands.specs.Cards.{rest_after}
use Rattle.commands.specs.declared.command.Picking.{Picking}
use Rattle.machine.specs.Acts.{Act}
use Rattle.machine.specs.Postings.{Place, Supplier, WriteOff, of_item, is_lot, is_shipment, units_in, units_out, balance}
use Rattle.machine.specs.Standing.{KnownLot, lot_known, is_shippable, bins, Placed, orders, order_named, shipments}
use Rattle.machine.specs.Ledger.{postings, postings_of}
use Rattle.machine.specs.Planning.{Booking, is_urgent, bookings_of, bookings, demand_of, supplies, item_postings, in_bin, in_store, staged_of_lot, is_open, reserved, reserved_of}
use Rattle.machine.specs.Once.{IsHistory, Outcome, outcome, acts_after, acts_after_file, same_key, same_command, Accepted, Repeated}
use Rattle.machine.specs.Machine.{Answer, Told, Run, AllSound, acts_after_all, outcomes}
use Rattle.machine.specs.Cards.{cards, lot_units_in_house}
use Rattle.machine.specs.Views.{card_of_lot, notice_view}
use Rattle.machine.specs.Touched.{is_touched, IsLeftAlone}

-- Requests that come again

-- the request has the key and the command of an act
abbrev pub repeats : Act → Act → Bool
repeats request act = same_key request.key act.key && same_command request.command act.command

-- the requests without those that repeat an act accepted before them
abbrev pub once_each : ℤ → List Act → List Act → List Act
once_each first acts [] = []
once_each first acts (request ∷ rest) =
    if list_any (repeats request) acts then once_each first acts rest
    else request ∷ once_each first (acts_after first acts request) rest

-- leaving those out gives the same acts
abbrev pub RepeatsActOnce : Type 0
RepeatsActOnce = (first : ℤ) (requests : List Act) → acts_after_all first [] (once_each first [] requests) ≡ acts_after_all first [] requests

-- one of the requests has this key and command, and was accepted with this text
pub record WasAccepted (first : ℤ) (requests : List Act) (request : Act) (text : List ℕ) : Type 0 where
  pub before : List Act
  pub same : Act
  pub behind : List Act
  pub place : requests ≡ before ++ same ∷ behind
  pub repeated : repeats request same ≡ true
  pub told : outcome first (acts_after_all first [] before) same ≡ Accepted text

-- each request that is left out was answered with the text of the one that was accepted
abbrev pub RepeatsGetTheFirstReply : Type 0
RepeatsGetTheFirstReply = (first : ℤ) (earlier : List Act) (request : Act) →
    list_any (repeats request) (acts_after_all first [] earlier) ≡ true →
    (text : List ℕ) × WasAccepted first earlier request text × (outcome first (acts_after_all first [] earlier) request ≡ Repeated text)

-- Lots that may be shipped

-- the lot is known, neither held nor recalled, and has as many days left as its item asks for
abbrev pub IsShippableLot : ℤ → List Act → LotId → Type 0
IsShippableLot first acts l = (k : KnownLot) × (lot_known acts l ≡ Some k) × (is_shippable first acts k ≡ true)

-- a lot of which units are staged is shippable
abbrev pub StagedLotsAreShippable : Type 0
StagedLotsAreShippable = (first : ℤ) (acts : List Act) (o : List ℕ) (l : LotId) → IsHistory first acts → staged_of_lot first acts o l ≢ 0 → IsShippableLot first acts l

-- no shipment act holds a unit of a lot that was not shippable at that act
abbrev pub ShippedLotsAreShippable : Type 0
ShippedLotsAreShippable = (first : ℤ) (before : List Act) (key : Key) (o : List ℕ) (l : LotId) →
    IsHistory first (record { key = key; command = Ship o } ∷ before) →
    total (λ p. if is_lot l p.lot then p.qty else 0) (postings_of first (record { key = key; command = Ship o }) before) ≢ 0 →
    IsShippableLot first before l

-- Items do not touch one another: what an act does not touch it leaves alone
abbrev pub OtherItemsAreLeftAlone : Type 0
OtherItemsAreLeftAlone = (first : ℤ) (act : Act) (before : List Act) (g : List ℕ) → IsHistory first (act ∷ before) → is_touched first act before g ≡ false → IsLeftAlone first act before g

-- Recall notices

-- the lines name exactly the places of which the balance is not 0, each once, with its balance
pub record IsListing {X K : Type 0} (same : K → K → Bool) (name : X → K) (qty : X → ℕ) (balance_of : K → ℕ) (lines : List X) : Type 0 where
  pub named : (k : K) → list_any (λ x. same k (name x)) lines ≡ not (balance_of k == 0)
  pub quantities : list_all (λ x. qty x == balance_of (name x)) lines ≡ true
  pub once : IsDistinct same (map name lines)

-- a notice names exactly the bins and the shipments with units of the lot, each once, with those units
pub record IsTraced (first : ℤ) (acts : List Act) (item : ItemRow) (l : LotId) : Type 0 where
  pub bins : IsListing same_text (λ u. u.bin) (λ u. u.qty) (λ b. in_bin first acts b l) (notice_view first acts item l).bins
  pub shipments : IsListing (λ m n. m == n) (λ u. u.number) (λ u. u.qty) (λ n. balance (is_shipment n) (is_lot l) (postings first acts)) (notice_view first acts item l).shipments

abbrev pub Traced : Type 0
Traced = (first : ℤ) (acts : List Act) (item : ItemRow) (l : LotId) → IsHistory first acts → IsTraced first acts item l

-- Stock cards

-- the last line of a lot's card tells the units of the lot in the house, which are 0 where there is no line
abbrev pub LastLinesTellUnits : Type 0
LastLinesTellUnits = (first : ℤ) (acts : List Act) (l : LotId) → rest_after 0 (card_of_lot first acts l) ≡ lot_units_in_house first acts l

-- Places, orders and runs

-- no more is taken out of places in the warehouse or out of shipments than was brought there
abbrev pub NeverOverdrawn : Type 0
NeverOverdrawn = (first : ℤ) (acts : List Act) (places : Place → Bool) (lots : LotId → Bool) → IsHistory first acts →
    places Supplier ≡ false → places WriteOff ≡ false → units_out places lots (postings first acts) ≤ units_in places lots (postings first acts)

-- a closed order has nothing staged and nothing reserved
abbrev pub ClosedOrdersAreEmpty : Type 0
ClosedOrdersAreEmpty = (first : ℤ) (acts : List Act) (o : List ℕ) (l : LotId) → IsHistory first acts → is_open first acts o ≡ false →
    (staged_of_lot first acts o l ≡ 0) × (reserved first acts o l ≡ 0)

-- a run over requests that keep the values' rules leads from a history to a history
abbrev pub RunsGoOn : Type 0
RunsGoOn = (first : ℤ) (old requests : List Act) (answers : List Answer) (new : List Act) → AllSound requests → IsHistory first old → Run first old requests answers new → IsHistory first new

-- and so do the rows of a goods-in file
abbrev pub FilesGoOn : Type 0
FilesGoOn = (first : ℤ) (acts rows : List Act) → AllSound rows → IsHistory first acts → IsHistory first (acts_after_file first acts rows)

-- where every request finds memory, a run is the one that the rules give
abbrev pub RunsWithMemory : Type 0
RunsWithMemory = (first : ℤ) (old requests : List Act) (told : List Outcome) (new : List Act) → Run first old requests (map Told told) new →
    (told ≡ outcomes first old requests) × (new ≡ acts_after_all first old requests)

-- the reservations on a lot never add up to more than its units in STORE bins
abbrev pub Covered : Type 0
Covered = (first : ℤ) (acts : List Act) (l : LotId) → IsHistory first acts →
    total (λ p. reserved first acts p.order l) (orders acts) ≤ balance (in_store acts) (is_lot l) (postings first acts)

-- a pick lowers its own reservation by its quantity and changes no other
abbrev pub PickDisturbsNone : Type 0
PickDisturbsNone = (first : ℤ) (before : List Act) (key : Key) (p : Picking) (o : List ℕ) (l : LotId) →
    let act : Act = record { key = key; command = Pick p } in
    IsHistory first (act ∷ before) →
    reserved first before o l ≡ reserved first (act ∷ before) o l + (if same_text o p.order && is_lot l p.lot then p.qty else 0)

-- the plan of an item with the bookings of urgent orders alone
abbrev pub urgent_plan : ℤ → List Act → List ℕ → List Row
urgent_plan first acts g = plan_rows (map (demand_of acts (item_postings first acts g)) (bookings_of is_urgent acts g)) (supplies first acts g)

-- an urgent order gets what it would get if no others had booked but urgent ones
abbrev pub UrgentOrdersComeFirst : Type 0
UrgentOrdersComeFirst = (first : ℤ) (acts : List Act) (p : Placed) (l : LotId) → IsHistory first acts → order_named acts p.order ≡ Some p → is_urgent p ≡ true →
    reserved first acts p.order l ≡ reserved_of (Some p) (lot_known acts l) (urgent_plan first acts l.gtin)

-- the booking has units of the lot, reserved or staged
abbrev pub has_of_lot : ℤ → List Act → LotId → Booking → Bool
has_of_lot first acts l b = not (reserved first acts b.order l == 0) || not (staged_of_lot first acts b.order l == 0)

-- a recall changes no reservation of the bookings of the item before the first one with units of the lot, reserved or staged
abbrev pub RecallDisturbsNone : Type 0
RecallDisturbsNone = (first : ℤ) (before : List Act) (key : Key) (l : LotId) (earlier later : List Booking) (o : List ℕ) (m : LotId) →
    let act : Act = record { key = key; command = Recall l } in
    IsHistory first (act ∷ before) → bookings before l.gtin ≡ earlier ++ later → list_any (has_of_lot first before l) earlier ≡ false →
    list_any (λ b. same_text o b.order) earlier ≡ true → reserved first (act ∷ before) o m ≡ reserved first before o m

-- and changes only reservations on lots of the item, of orders with one of the later bookings: where there is none, it changes no
-- reservation
abbrev pub RecallDisturbsLaterAlone : Type 0
RecallDisturbsLaterAlone = (first : ℤ) (before : List Act) (key : Key) (l : LotId) (earlier later : List Booking) (o : List ℕ) (m : LotId) →
    let act : Act = record { key = key; command = Recall l } in
    IsHistory first (act ∷ before) → bookings before l.gtin ≡ earlier ++ later → list_any (has_of_lot first before l) earlier ≡ false →
    of_item l.gtin m && list_any (λ b. same_text o b.order) later ≡ false → reserved first (act ∷ before) o m ≡ reserved first before o m

-- Conservation

-- the card quantities of a lot of one kind
abbrev pub is_kind : CardKind → CardKind → Bool
is_kind Receipt Receipt = true
is_kind WriteOn WriteOn = true
is_kind WrittenOff WrittenOff = true
is_kind Shipment Shipment = true
is_kind _ _ = false

abbrev pub card_total : CardKind → LotId → List CardRow → ℕ
card_total kind l rows = total (λ c. if is_lot l c.lot && is_kind kind c.kind then unsigned_abs c.qty else 0) rows

-- the units of a lot in all bins, on all stages and in all shipments
abbrev pub in_bins : ℤ → List Act → LotId → ℕ
in_bins first acts l = total (λ b. in_bin first acts b.bin l) (bins acts)

abbrev pub on_stages : ℤ → List Act → LotId → ℕ
on_stages first acts l = total (λ o. staged_of_lot first acts o.order l) (orders acts)

abbrev pub in_shipments : ℤ → List Act → LotId → ℕ
in_shipments first acts l = total (λ s. balance (is_shipment s.number) (is_lot l) (postings first acts)) (shipments first acts)

-- what came in of a lot is in bins, on stages or in shipments, or was written off
abbrev pub Conserved : Type 0
Conserved = (first : ℤ) (acts : List Act) (l : LotId) → IsHistory first acts →
    card_total Receipt l (cards first acts) + card_total WriteOn l (cards first acts)
    ≡ in_bins first acts l + on_stages first acts l + in_shipments first acts l + card_total WrittenOff l (cards first acts)
