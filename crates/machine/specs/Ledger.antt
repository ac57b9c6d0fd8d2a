-- The postings of the acts.
use Rattle.std.specs.Prelude.{ℕ, suc, ◌+◌, ◌-◌, not, ◌&&◌, ◌==◌, if◌then◌else◌, List, [], ◌∷◌, ◌++◌, filter, flat_map, ℤ, pos, negsuc}
use Rattle.machine.specs.Words.{LotId, Command, Receive, Move, Count, Adjust, Pick, Unpick, Ship, Hold, Recall, OpenDay, Least}
use Rattle.machine.specs.Acts.{Act, next_number}
use Rattle.machine.specs.Postings.{Place, Supplier, InBin, Stage, Shipped, WriteOff, Posting, balance, is_bin, is_lot, is_stage}
use Rattle.machine.specs.Standing.{RETURNS, KnownLot, Placed, lots, orders, is_shippable, shipments_so_far}

-- one posting, or none of no units
abbrev pub posting : ℕ → LotId → Place → Place → ℕ → List Posting
posting n l from to q = if q == 0 then [] else record { act = n; lot = l; from = from; to = to; qty = q } ∷ []

-- the difference between what a bin has of a lot and what is found in it
abbrev pub correction : ℕ → LotId → List ℕ → ℕ → ℕ → List Posting
correction n l b have found = posting n l WriteOff (InBin b) (found - have) ++ posting n l (InBin b) WriteOff (have - found)

-- units written on to a bin, or off it
abbrev pub written : ℕ → LotId → List ℕ → ℤ → List Posting
written n l b (pos k) = posting n l WriteOff (InBin b) k
written n l b (negsuc k) = posting n l (InBin b) WriteOff (suc k)

-- Stages are emptied by the balances before the act, ps being the postings of the acts before it.

-- all that is staged of the lot for the order goes to the place
abbrev pub cleared : ℕ → List Posting → Place → List ℕ → LotId → List Posting
cleared n ps to o l = posting n l (Stage o) to (balance (is_stage o) (is_lot l) ps)

-- all that is staged for the order goes to the shipment: one posting for each lot of which units are staged
abbrev pub shipped_off : ℕ → ℕ → List ℕ → List KnownLot → List Posting → List Posting
shipped_off n shipment o ks ps = flat_map (λ k. cleared n ps (Shipped shipment o) o k.lot) ks

-- all that is staged of these lots goes to RETURNS: one posting for each order for which units of one of them are staged
abbrev pub lot_returned : ℕ → List Placed → List Posting → KnownLot → List Posting
lot_returned n os ps k = flat_map (λ p. cleared n ps (InBin RETURNS) p.order k.lot) os

abbrev pub returned : ℕ → List KnownLot → List Placed → List Posting → List Posting
returned n ks os ps = flat_map (lot_returned n os ps) ks

-- the known lots that the newest act makes unshippable
abbrev pub made_unshippable : ℤ → Act → List Act → List KnownLot
made_unshippable first act before = filter (λ k. is_shippable first before k && not (is_shippable first (act ∷ before) k)) (lots before)

-- the postings of an act, ps being those of the acts before it
abbrev pub posted : ℤ → Act → List Act → List Posting → Command → List Posting
posted first act before ps (Receive r) = posting (next_number before) r.lot Supplier (InBin r.bin) r.qty
posted first act before ps (Move m) = posting (next_number before) m.lot (InBin m.from) (InBin m.to) m.qty
posted first act before ps (Count c) = correction (next_number before) c.lot c.bin (balance (is_bin c.bin) (is_lot c.lot) ps) c.qty
posted first act before ps (Adjust a) = written (next_number before) a.lot a.bin a.change
posted first act before ps (Pick p) = posting (next_number before) p.lot (InBin p.bin) (Stage p.order) p.qty
posted first act before ps (Unpick p) = posting (next_number before) p.lot (Stage p.order) (InBin p.bin) p.qty
posted first act before ps (Ship o) = shipped_off (next_number before) (shipments_so_far first before + 1) o (lots before) ps
posted first act before ps (Hold l) = returned (next_number before) (made_unshippable first act before) (orders before) ps
posted first act before ps (Recall l) = returned (next_number before) (made_unshippable first act before) (orders before) ps
posted first act before ps (OpenDay day) = returned (next_number before) (made_unshippable first act before) (orders before) ps
posted first act before ps (Least l) = returned (next_number before) (made_unshippable first act before) (orders before) ps
posted first act before ps _ = []

-- the postings of all acts, the newest first
abbrev pub postings : ℤ → List Act → List Posting
postings first [] = []
postings first (act ∷ before) = posted first act before (postings first before) act.command ++ postings first before

-- those of the newest act
abbrev pub postings_of : ℤ → Act → List Act → List Posting
postings_of first act before = posted first act before (postings first before) act.command
