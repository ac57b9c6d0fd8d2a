-- What is judged of a command, and what it changes, by its slice.
use Rattle.std.specs.Prelude.{◌∷◌}
use Rattle.rules.specs.Words.{nat_le, ACTS_MAX, Key, ActsFull, Command, Item, Bin, Receive, Move, Count, Adjust, Order, Cancel, Pick, Unpick, Ship, Hold, Release, Recall, OpenDay, Least, Urgent, Judgement, Slice, Change}
use Rattle.rules.specs.DecidedSetup.{item_seen, item_changes, bin_seen, bin_changes}
use Rattle.rules.specs.DecidedReceive.{receive_seen, receive_changes}
use Rattle.rules.specs.DecidedMove.{move_seen, move_changes}
use Rattle.rules.specs.DecidedCount.{count_seen, count_changes, adjust_seen, adjust_changes}
use Rattle.rules.specs.DecidedOrder.{order_seen, order_changes}
use Rattle.rules.specs.DecidedCancel.{cancel_seen, cancel_changes}
use Rattle.rules.specs.DecidedPick.{pick_seen, pick_changes, unpick_seen, unpick_changes}
use Rattle.rules.specs.DecidedShip.{ship_seen, ship_changes}
use Rattle.rules.specs.DecidedUrgent.{urgent_changes}
use Rattle.rules.specs.DecidedHold.{hold_seen, hold_changes, release_seen, release_changes, recall_seen, recall_changes}
use Rattle.rules.specs.DecidedDay.{day_judged, day_changes}
use Rattle.rules.specs.DecidedLeast.{least_judged, least_changes}

abbrev pub command_seen : Slice → Command → Judgement
command_seen s (Item i) = item_seen s i
command_seen s (Bin b) = bin_seen s b
command_seen s (Receive r) = receive_seen s r
command_seen s (Move m) = move_seen s m
command_seen s (Count c) = count_seen s c
command_seen s (Adjust a) = adjust_seen s a
command_seen s (Order o) = order_seen s o
command_seen s (Cancel o) = cancel_seen s o
command_seen s (Pick p) = pick_seen s p
command_seen s (Unpick p) = unpick_seen s p
command_seen s (Ship o) = ship_seen s o
command_seen s (Hold l) = hold_seen s l
command_seen s (Release l) = release_seen s l
command_seen s (Recall l) = recall_seen s l
command_seen s (OpenDay day) = day_judged s day
command_seen s (Least l) = least_judged s l
command_seen s (Urgent o) = order_seen s o

-- the number of acts is judged first
abbrev pub all_seen : Slice → Command → Judgement
all_seen s command = (nat_le ACTS_MAX s.meta.acts, ActsFull) ∷ command_seen s command

abbrev pub command_changes : Slice → Key → Command → Change
command_changes s key (Item i) = item_changes s i
command_changes s key (Bin b) = bin_changes s b
command_changes s key (Receive r) = receive_changes s key r
command_changes s key (Move m) = move_changes s m
command_changes s key (Count c) = count_changes s c
command_changes s key (Adjust a) = adjust_changes s a
command_changes s key (Order o) = order_changes s o
command_changes s key (Cancel o) = cancel_changes s o
command_changes s key (Pick p) = pick_changes s p
command_changes s key (Unpick p) = unpick_changes s p
command_changes s key (Ship o) = ship_changes s o
command_changes s key (Hold l) = hold_changes s l
command_changes s key (Release l) = release_changes s l
command_changes s key (Recall l) = recall_changes s l
command_changes s key (OpenDay day) = day_changes s day
command_changes s key (Least l) = least_changes s l
command_changes s key (Urgent o) = urgent_changes s o
