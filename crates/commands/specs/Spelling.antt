-- The spelling of a command and the text of a key.
use Rattle.std.specs.Prelude.{ℕ, List, [], ◌∷◌, ◌++◌, codes, decimal}
use Rattle.std.specs.List.{join_with_byte}
use Rattle.std.specs.Fmt.{signed_decimal}
use Rattle.label.specs.Days.{day_text}
use Rattle.commands.specs.Words.{bin_kind_word}
use Rattle.commands.specs.declared.key.Key.{Key}
use Rattle.commands.specs.declared.key.Key.TheVariants.{Plain, Line}
use Rattle.commands.specs.declared.command.OrderLine.{OrderLine}
use Rattle.commands.specs.declared.command.NewOrder.{NewOrder}
use Rattle.commands.specs.declared.command.Picking.{Picking}
use Rattle.commands.specs.declared.command.Command.{Command}
use Rattle.commands.specs.declared.command.Command.TheVariants.{Item, Bin, Receive, Move, Count, Adjust, Order, Cancel, Pick, Unpick, Ship, Hold, Release, Recall, OpenDay, Least, Urgent}

-- `K/` and the name, or `D/`, the delivery, `/` and the line
abbrev pub key_text : Key → List ℕ
key_text (Plain name) = codes "K/" ++ name
key_text (Line delivery line) = codes "D/" ++ delivery ++ codes "/" ++ decimal line

-- the lines of an order, each as its GTIN and its quantity
abbrev pub lines_fields : List OrderLine → List (List ℕ)
lines_fields [] = []
lines_fields (l ∷ ls) = l.gtin ∷ decimal l.qty ∷ lines_fields ls

abbrev pub order_fields : NewOrder → List (List ℕ)
order_fields o = o.order ∷ o.customer ∷ lines_fields o.lines

abbrev pub picking_fields : Picking → List (List ℕ)
picking_fields p = p.order ∷ p.lot.gtin ∷ p.lot.lot ∷ p.bin ∷ decimal p.qty ∷ []

-- the word of a command, and its fields in order
abbrev pub fields : Command → List (List ℕ)
fields (Item i) = codes "ITEM" ∷ i.gtin ∷ i.name ∷ []
fields (Bin b) = codes "BIN" ∷ b.bin ∷ bin_kind_word b.kind ∷ []
fields (Receive r) = codes "RECEIVE" ∷ r.lot.gtin ∷ r.lot.lot ∷ day_text r.expiry ∷ r.bin ∷ decimal r.qty ∷ []
fields (Move m) = codes "MOVE" ∷ m.lot.gtin ∷ m.lot.lot ∷ m.from ∷ m.to ∷ decimal m.qty ∷ []
fields (Count c) = codes "COUNT" ∷ c.lot.gtin ∷ c.lot.lot ∷ c.bin ∷ decimal c.qty ∷ []
fields (Adjust a) = codes "ADJUST" ∷ a.lot.gtin ∷ a.lot.lot ∷ a.bin ∷ signed_decimal a.change ∷ []
fields (Order o) = codes "ORDER" ∷ order_fields o
fields (Urgent o) = codes "URGENT" ∷ order_fields o
fields (Cancel o) = codes "CANCEL" ∷ o ∷ []
fields (Pick p) = codes "PICK" ∷ picking_fields p
fields (Unpick p) = codes "UNPICK" ∷ picking_fields p
fields (Ship o) = codes "SHIP" ∷ o ∷ []
fields (Hold l) = codes "HOLD" ∷ l.gtin ∷ l.lot ∷ []
fields (Release l) = codes "RELEASE" ∷ l.gtin ∷ l.lot ∷ []
fields (Recall l) = codes "RECALL" ∷ l.gtin ∷ l.lot ∷ []
fields (OpenDay day) = codes "OPENDAY" ∷ day_text day ∷ []
fields (Least l) = codes "LEAST" ∷ l.gtin ∷ decimal l.days ∷ []

-- the fields joined by single line feeds
unfoldable pub spelling : Command → List ℕ
spelling command = join_with_byte 10 (fields command)

-- a line feed before each field
abbrev pub with_line_feeds : List (List ℕ) → List ℕ
with_line_feeds [] = []
with_line_feeds (f ∷ fs) = (10 ∷ f) ++ with_line_feeds fs
