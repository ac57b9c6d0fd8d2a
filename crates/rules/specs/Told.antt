-- Postings as the code has them.
use Rattle.std.specs.Prelude.{◌==◌, if◌then◌else◌, ◌∷◌}
use Rattle.rules.specs.Words.{ℕ, Bool, List, [], Option, Some, None, LotId, Place, Supplier, InBin, Stage, Shipped, WriteOff, Posting}
use Rattle.rules.specs.declared.posting.Place.{Place as PlaceTold}
use Rattle.rules.specs.declared.posting.Place.TheVariants as told
use Rattle.rules.specs.declared.posting.Posting.{Posting as PostingTold}
use Rattle.rules.specs.Shelf.{Shelf, keys_posted}

abbrev pub place_of : PlaceTold → Place
place_of told.Supplier = Supplier
place_of (told.InBin b) = InBin b
place_of (told.Stage o) = Stage o
place_of (told.Shipped n o) = Shipped n o
place_of told.WriteOff = WriteOff

abbrev pub posting_of : ℕ → PostingTold → Posting
posting_of n p = record { act = n; lot = p.lot; from = place_of p.from; to = place_of p.to; qty = p.qty }

-- a shelf by what its rows have
abbrev pub shelf_of : {K R : Type 0} → (K → K → Bool) → (R → K) → (K → ℕ → R) → (R → ℕ) → (Place → LotId → Option K) → Shelf K R
shelf_of same key row units at = record { same = same; key = key; row = row; units = units; at = at }

-- one posting, or none of no units
abbrev pub told_once : LotId → PlaceTold → PlaceTold → ℕ → Option PostingTold
told_once l from to q = if q == 0 then None else Some (record { lot = l; from = from; to = to; qty = q })

-- as the machine lists what an act posts that posts once at most
abbrev pub listed : ℕ → Option PostingTold → List Posting
listed n None = []
listed n (Some p) = posting_of n p ∷ []

-- the keys that it names
abbrev pub keys_of : {K R : Type 0} → Shelf K R → Option PostingTold → List K
keys_of shelf p = keys_posted shelf (listed 0 p) []
