-- What a command names.
use Rattle.std.specs.Prelude.{◌≡◌, ℕ, ℤ, Bool, true, false, List, [], Option, Some, None}
use Rattle.values.specs.declared.lot.LotId.{LotId}
use Rattle.commands.specs.declared.command.OrderLine.{OrderLine}
use Rattle.commands.specs.declared.command.NewOrder.{NewOrder}
use Rattle.commands.specs.declared.command.Picking.{Picking}
use Rattle.commands.specs.declared.command.Command.{Command}
use Rattle.commands.specs.declared.command.Command.TheVariants.{Item, Bin, Receive, Move, Count, Adjust, Order, Cancel, Pick, Unpick, Ship, Hold, Release, Recall, OpenDay, Least, Urgent}
use Rattle.commands.specs.declared.names.Added.{Added}
use Rattle.commands.specs.declared.names.Added.TheVariants as added
use Rattle.commands.specs.declared.names.OrderStep.{OrderStep}
use Rattle.commands.specs.declared.names.OrderStep.TheVariants.{Taken, Cancelled, Picked, Unpicked, Shipped}
use Rattle.commands.specs.declared.names.NamedOrder.{NamedOrder}
use Rattle.commands.specs.declared.names.Names.{Names}

-- what it adds, the item or that of the lot, the lines of an order that is taken, the lot, the bin and of two the one from
-- which units go, the one to which they go, the order with what is done with it, and the day that it opens
pub record Named : Type 0 where
  pub adds : Option Added
  pub item : Option (List ℕ)
  pub lines : List OrderLine
  pub lot : Option LotId
  pub bin : Option (List ℕ)
  pub other_bin : Option (List ℕ)
  pub order : Option NamedOrder
  pub day : Option ℤ

abbrev pub none_named : Named
none_named = record { adds = None; item = None; lines = []; lot = None; bin = None; other_bin = None; order = None; day = None }

-- a lot with its item, and in a bin
abbrev pub lot_named : LotId → Named
lot_named l = record none_named { item = Some l.gtin; lot = Some l }

abbrev pub lot_in_bin : LotId → List ℕ → Named
lot_in_bin l b = record (lot_named l) { bin = Some b }

-- an order, with its lines where it is taken, and a lot in a bin with it
abbrev pub step_named : List ℕ → OrderStep → Option NamedOrder
step_named o step = Some (record { order = o; step = step })

abbrev pub order_named : List ℕ → OrderStep → Named
order_named o step = record none_named { order = step_named o step }

abbrev pub new_order_named : NewOrder → Named
new_order_named o = record (order_named o.order Taken) { lines = o.lines }

abbrev pub picking_named : Picking → OrderStep → Named
picking_named p step = record (lot_in_bin p.lot p.bin) { order = step_named p.order step }

abbrev pub names_of : Command → Named
names_of (Item i) = record none_named { adds = Some added.Item; item = Some i.gtin }
names_of (Bin b) = record none_named { adds = Some added.Bin; bin = Some b.bin }
names_of (Receive r) = lot_in_bin r.lot r.bin
names_of (Move m) = record (lot_in_bin m.lot m.from) { other_bin = Some m.to }
names_of (Count c) = lot_in_bin c.lot c.bin
names_of (Adjust a) = lot_in_bin a.lot a.bin
names_of (Order o) = new_order_named o
names_of (Cancel o) = order_named o Cancelled
names_of (Pick p) = picking_named p Picked
names_of (Unpick p) = picking_named p Unpicked
names_of (Ship o) = order_named o Shipped
names_of (Hold l) = lot_named l
names_of (Release l) = lot_named l
names_of (Recall l) = lot_named l
names_of (OpenDay day) = record none_named { day = Some day }
names_of (Least l) = record none_named { item = Some l.gtin }
names_of (Urgent o) = new_order_named o

-- what is done with an order
abbrev pub is_cancelled : OrderStep → Bool
is_cancelled Cancelled = true
is_cancelled _ = false

abbrev pub is_picked : OrderStep → Bool
is_picked Picked = true
is_picked _ = false

abbrev pub is_shipped : OrderStep → Bool
is_shipped Shipped = true
is_shipped _ = false

-- the program's record has these
pub record AreNames (n : Names) (these : Named) : Type 0 where
  pub adds : n.adds ≡ these.adds
  pub item : n.item ≡ these.item
  pub lines : n.lines.now ≡ these.lines
  pub lot : n.lot ≡ these.lot
  pub bin : n.bin ≡ these.bin
  pub other_bin : n.other_bin ≡ these.other_bin
  pub order : n.order ≡ these.order
  pub day : n.day ≡ these.day
