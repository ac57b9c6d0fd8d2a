-- Every command is judged as by the machine, and changes what it changes there.
use Rattle.rules.proofs.Words.{Result, Key, Command, Item, Bin, Receive, Move, Count, Adjust, Order, Cancel, Pick, Unpick, Ship, Hold, Release, Recall, OpenDay, Least, Urgent, Slice, Change, RuleFault, command_seen, command_changes}
use Rattle.rules.proofs.decided.Decisions.{AreRight}
use Rattle.rules.proofs.decided.SetupDecided.{items_right, bins_right}
use Rattle.rules.proofs.decided.goods.ReceiveDecided.{receives_right}
use Rattle.rules.proofs.decided.goods.MovesDecided.{moves_right}
use Rattle.rules.proofs.decided.counts.CountDecided.{counts_right}
use Rattle.rules.proofs.decided.counts.AdjustDecided.{adjusts_right}
use Rattle.rules.proofs.decided.orders.OrdersDecided.{orders_right}
use Rattle.rules.proofs.decided.orders.UrgentDecided.{urgents_right}
use Rattle.rules.proofs.decided.orders.CancelDecided.{cancels_right}
use Rattle.rules.proofs.decided.picks.PickDecided.{picks_right}
use Rattle.rules.proofs.decided.picks.UnpickDecided.{unpicks_right}
use Rattle.rules.proofs.decided.orders.ShipDecided.{ships_right}
use Rattle.rules.proofs.decided.lots.HoldDecided.{holds_right}
use Rattle.rules.proofs.decided.lots.ReleaseDecided.{releases_right}
use Rattle.rules.proofs.decided.lots.RecallDecided.{recalls_right}
use Rattle.rules.proofs.decided.days.DayDecided.{days_right}
use Rattle.rules.proofs.decided.days.LeastDecided.{leasts_right}

pub every_right : (key : Key) (s : Slice) (result : Result Change RuleFault) (command : Command) → AreRight key s result command (command_seen s command) (command_changes s key command)
every_right key s result (Item i) = items_right key s result i
every_right key s result (Bin b) = bins_right key s result b
every_right key s result (Receive r) = receives_right key s result r
every_right key s result (Move m) = moves_right key s result m
every_right key s result (Count c) = counts_right key s result c
every_right key s result (Adjust a) = adjusts_right key s result a
every_right key s result (Order o) = orders_right key s result o
every_right key s result (Cancel o) = cancels_right key s result o
every_right key s result (Pick p) = picks_right key s result p
every_right key s result (Unpick p) = unpicks_right key s result p
every_right key s result (Ship o) = ships_right key s result o
every_right key s result (Hold l) = holds_right key s result l
every_right key s result (Release l) = releases_right key s result l
every_right key s result (Recall l) = recalls_right key s result l
every_right key s result (OpenDay day) = days_right key s result day
every_right key s result (Least l) = leasts_right key s result l
every_right key s result (Urgent o) = urgents_right key s result o
