-- Every value of a command and of a key keeps its rule.
use Rattle.std.specs.Prelude.{Bool, ◌&&◌, List}
use Rattle.std.specs.List.{list_all}
use Rattle.values.specs.Values.{is_name, is_title, is_gtin, is_lot_text, is_qty, is_counted, is_delta, is_line_no, is_least_days}
use Rattle.label.specs.Days.{is_day, is_business_day}
use Rattle.values.specs.declared.lot.LotId.{LotId}
use Rattle.commands.specs.Limits.{has_order_lines}
use Rattle.commands.specs.declared.command.OrderLine.{OrderLine}
use Rattle.commands.specs.declared.command.NewOrder.{NewOrder}
use Rattle.commands.specs.declared.command.Picking.{Picking}
use Rattle.commands.specs.declared.key.Key.{Key}
use Rattle.commands.specs.declared.key.Key.TheVariants.{Plain, Line}
use Rattle.commands.specs.declared.command.Command.{Command}
use Rattle.commands.specs.declared.command.Command.TheVariants.{Item, Bin, Receive, Move, Count, Adjust, Order, Cancel, Pick, Unpick, Ship, Hold, Release, Recall, OpenDay, Least, Urgent}

abbrev pub is_lot_id : LotId → Bool
is_lot_id l = is_gtin l.gtin && is_lot_text l.lot

abbrev pub is_order_line : OrderLine → Bool
is_order_line l = is_gtin l.gtin && is_qty l.qty

abbrev pub are_lines : List OrderLine → Bool
are_lines ls = has_order_lines ls && list_all is_order_line ls

abbrev pub is_new_order : NewOrder → Bool
is_new_order o = is_name o.order && is_title o.customer && are_lines o.lines

abbrev pub is_picking : Picking → Bool
is_picking p = is_name p.order && is_lot_id p.lot && is_name p.bin && is_qty p.qty

abbrev pub is_sound : Command → Bool
is_sound (Item i) = is_gtin i.gtin && is_title i.name
is_sound (Bin b) = is_name b.bin
is_sound (Receive r) = is_lot_id r.lot && is_day r.expiry && is_name r.bin && is_qty r.qty
is_sound (Move m) = is_lot_id m.lot && is_name m.from && is_name m.to && is_qty m.qty
is_sound (Count c) = is_lot_id c.lot && is_name c.bin && is_counted c.qty
is_sound (Adjust a) = is_lot_id a.lot && is_name a.bin && is_delta a.change
is_sound (Order o) = is_new_order o
is_sound (Urgent o) = is_new_order o
is_sound (Cancel o) = is_name o
is_sound (Pick p) = is_picking p
is_sound (Unpick p) = is_picking p
is_sound (Ship o) = is_name o
is_sound (Hold l) = is_lot_id l
is_sound (Release l) = is_lot_id l
is_sound (Recall l) = is_lot_id l
is_sound (OpenDay day) = is_business_day day
is_sound (Least l) = is_gtin l.gtin && is_least_days l.days

abbrev pub is_sound_key : Key → Bool
is_sound_key (Plain name) = is_name name
is_sound_key (Line delivery line) = is_name delivery && is_line_no line
