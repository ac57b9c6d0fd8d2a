-- Which items an act touches: all others keep their postings, their plan and their reservations.
use Rattle.std.specs.Prelude.{◌≡◌, ℕ, Bool, true, false, not, ◌&&◌, ◌||◌, ◌==◌, List, ◌∷◌, ℤ}
use Rattle.std.specs.List.{list_any}
use Rattle.machine.specs.Words.{same_text, LotId, Command, Item, Bin, Receive, Move, Count, Adjust, Order, Cancel, Pick, Unpick, Ship, Hold, Release, Recall, OpenDay, Least, Urgent}
use Rattle.machine.specs.Acts.{Act}
use Rattle.machine.specs.Postings.{of_item}
use Rattle.machine.specs.Standing.{has_line, lots_of, orders, is_shippable}
use Rattle.machine.specs.Planning.{item_postings, staged_of_lot, plan, reserved}

-- the item has a lot that the act makes unshippable, or staged units
abbrev pub is_affected : ℤ → Act → List Act → List ℕ → Bool
is_affected first act before g =
    list_any (λ k. is_shippable first before k && not (is_shippable first (act ∷ before) k)) (lots_of before g)
    || list_any (λ k. list_any (λ o. not (staged_of_lot first before o.order k.lot == 0)) (orders before)) (lots_of before g)

abbrev pub touches : ℤ → Act → List Act → Command → List ℕ → Bool
touches first act before (Item i) g = same_text g i.gtin
touches first act before (Bin b) g = false
touches first act before (Receive r) g = of_item g r.lot
touches first act before (Move m) g = of_item g m.lot
touches first act before (Count c) g = of_item g c.lot
touches first act before (Adjust a) g = of_item g a.lot
touches first act before (Order o) g = list_any (λ l. same_text g l.gtin) o.lines
touches first act before (Urgent o) g = list_any (λ l. same_text g l.gtin) o.lines
touches first act before (Cancel o) g = has_line before o g
touches first act before (Pick p) g = of_item g p.lot
touches first act before (Unpick p) g = of_item g p.lot
touches first act before (Ship o) g = has_line before o g
touches first act before (Hold l) g = of_item g l
touches first act before (Release l) g = of_item g l
touches first act before (Recall l) g = of_item g l
touches first act before (OpenDay day) g = is_affected first act before g
touches first act before (Least l) g = same_text g l.gtin

abbrev pub is_touched : ℤ → Act → List Act → List ℕ → Bool
is_touched first act before g = touches first act before act.command g

-- what the act leaves as it was
pub record IsLeftAlone (first : ℤ) (act : Act) (before : List Act) (g : List ℕ) : Type 0 where
  pub postings : item_postings first (act ∷ before) g ≡ item_postings first before g
  pub plan : plan first (act ∷ before) g ≡ plan first before g
  pub reserved : (o : List ℕ) (l : LotId) → of_item g l ≡ true → reserved first (act ∷ before) o l ≡ reserved first before o l
