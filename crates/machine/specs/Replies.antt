-- The replies to accepted commands.
use Rattle.std.specs.Prelude.{ℕ, List, ◌∷◌, Option, Some, None, ℤ, pos, ◌-ℤ◌}
use Rattle.machine.specs.Words.{total, Command, Count, Adjust, Order, Ship, Hold, Recall, OpenDay, Least, Urgent}
use Rattle.commands.specs.Replies.{field_text, further_text, reply_text}
use Rattle.commands.specs.declared.replies.ReplyField.{ReplyField}
use Rattle.commands.specs.declared.replies.ReplyField.TheVariants.{ChangedBy, Returned, ShipmentNumber, UnitsShort}
use Rattle.machine.specs.Acts.{Act, next_number}
use Rattle.machine.specs.Standing.{shipments_so_far}
use Rattle.machine.specs.Ledger.{postings_of}
use Rattle.machine.specs.Planning.{in_bin, short_of_order}

-- the units that the newest act booked to RETURNS
abbrev pub units_returned : ℤ → Act → List Act → ℕ
units_returned first act before = total (λ p. p.qty) (postings_of first act before)

abbrev pub short_field : ℕ → List ℕ
short_field n = field_text (UnitsShort n)

abbrev pub change_field : ℤ → List ℕ
change_field z = field_text (ChangedBy z)

abbrev pub shipment_field : ℕ → List ℕ
shipment_field n = field_text (ShipmentNumber n)

abbrev pub returned_field : ℕ → List ℕ
returned_field n = field_text (Returned n)

-- what the reply says beside the number, after the act
abbrev pub further : ℤ → Act → List Act → Command → Option ReplyField
further first act before (Count c) = Some (ChangedBy (pos c.qty -ℤ pos (in_bin first before c.bin c.lot)))
further first act before (Adjust a) = Some (ChangedBy a.change)
further first act before (Order o) = Some (UnitsShort (short_of_order first (act ∷ before) o.order))
further first act before (Urgent o) = Some (UnitsShort (short_of_order first (act ∷ before) o.order))
further first act before (Ship o) = Some (ShipmentNumber (shipments_so_far first (act ∷ before)))
further first act before (Hold l) = Some (Returned (units_returned first act before))
further first act before (Recall l) = Some (Returned (units_returned first act before))
further first act before (OpenDay day) = Some (Returned (units_returned first act before))
further first act before (Least l) = Some (Returned (units_returned first act before))
further first act before _ = None

abbrev pub further_field : ℤ → Act → List Act → Command → List ℕ
further_field first act before command = further_text (further first act before command)

-- the reply to an act
abbrev pub reply : ℤ → Act → List Act → List ℕ
reply first act before = reply_text (next_number before) (further first act before act.command)
