-- The pick list of an order.
use Rattle.std.specs.Prelude.{ℕ, List, [], ◌∷◌, ◌++◌, codes, decimal, flat_map}
use Rattle.label.specs.Days.{day_text}
use Rattle.commands.specs.Lists.{total}
use Rattle.commands.specs.Words.{order_state_word}
use Rattle.commands.specs.declared.views.BinUnits.{BinUnits}
use Rattle.commands.specs.declared.views.ReservedLot.{ReservedLot}
use Rattle.commands.specs.declared.views.LineView.{LineView}
use Rattle.commands.specs.declared.views.OrderView.{OrderView}
use Rattle.texts.specs.Lines.{line}

abbrev pub from_line : BinUnits → List ℕ
from_line u = line (codes "FROM" ∷ u.bin ∷ decimal u.qty ∷ [])

abbrev pub take_line : ReservedLot → List ℕ
take_line r = line (codes "TAKE" ∷ r.lot ∷ day_text r.expiry ∷ decimal r.qty ∷ [])

-- a reserved lot, and the bins from which it may be taken
abbrev pub take_lines : ReservedLot → List ℕ
take_lines r = take_line r ++ flat_map from_line r.bins

abbrev pub item_line : LineView → ℕ → List ℕ
item_line l staged = line (
    codes "ITEM" ∷ l.gtin
    ∷ codes "ORDERED" ∷ decimal l.ordered
    ∷ codes "STAGED" ∷ decimal staged
    ∷ codes "SHIPPED" ∷ decimal l.shipped
    ∷ codes "SHORT" ∷ decimal l.short
    ∷ codes "LEAST" ∷ decimal l.least
    ∷ [])

abbrev pub item_lines : LineView → List ℕ
item_lines l = item_line l (total (λ s. s.qty) l.staged) ++ flat_map take_lines l.reserved

abbrev pub pick_list_start : OrderView → List ℕ
pick_list_start v =
    line (codes "PICK LIST" ∷ v.order ∷ [])
    ++ line (codes "CUSTOMER" ∷ v.customer ∷ [])
    ++ line (codes "STATE" ∷ order_state_word v.state ∷ [])

-- the pick list
abbrev pub pick_list_text : OrderView → List ℕ
pick_list_text v = pick_list_start v ++ flat_map item_lines v.lines
