-- New orders are decided as the machine decides them.
use Rattle.rules.proofs.Words.{◌≡◌, false, List, [], ◌∷◌, refl, ap, ◌∙◌, ℤ, Result, Key, NewOrder, Order, Act, IsHistory, tables_of, IsSlice, applied, none_put, none_dropped, new_line_rows, order_rows_to_put, order_reply, order_seen, order_changes, Slice, Change, RuleFault, room_for_acts, ◌&&◌, true}
use Rattle.rules.proofs.rows.TableSteps.{names_changed, reserved_changed}
use Rattle.rules.proofs.decided.Decisions.{AreRight, IsChange, meta_same}
use Rattle.rules.proofs.decided.orders.OrderJudged.{order_judged}
use Rattle.rules.proofs.decided.orders.OrderStep.{order_change, order_step}
use Rattle.rules.proofs.decided.orders.OrderTells.{row_is, is_new, some_wanted, new_lines_once}
use Rattle.rules.proofs.decided.orders.OrderShares.{order_named_rows, order_put_once}
use Rattle.rules.proofs.decided.orders.OrderReply.{order_text}

module _ (first : ℤ) (acts : List Act) (key : Key) (o : NewOrder) (s : Slice) (slice : IsSlice first (record { key = key; command = Order o }) acts (tables_of first acts) s)
    (next : IsHistory first (record { key = key; command = Order o } ∷ acts)) where
  abbrev act : Act
  act = record { key = key; command = Order o }

  -- what is made of the rows is the change of the act
  change_same : order_changes s o ≡ order_change first acts key o false (order_reply s o) (order_rows_to_put s o o.lines) []
  change_same = λ i. record {
    meta = meta_same first acts act s slice (room_for_acts first acts (Order o) next.1.passes) refl refl i;
    put = record none_put { orders = row_is first acts key o false s slice next i ∷ []; lines = new_line_rows o; reserved = order_rows_to_put s o o.lines };
    dropped = none_dropped;
    text = order_reply s o;
  }

  order_changed : IsChange first act acts (order_changes s o)
  order_changed =
      let named = order_named_rows first acts key o s slice next in
      record {
        applies = ap (λ c. applied c (tables_of first acts)) change_same
            ∙ order_step first acts key o false next.0 (is_new first acts key o false s slice next) (some_wanted first acts key o false s slice next) (order_reply s o) (order_rows_to_put s o o.lines) []
            (reserved_changed first act acts (order_rows_to_put s o o.lines) [] named);
        text = order_text first acts key o s slice next;
        once = λ i. new_lines_once first acts key o false s slice next i && (order_put_once first acts key o s slice next i && true);
        named = names_changed first act acts (order_changes s o) named;
      }

pub orders_right : (key : Key) (s : Slice) (result : Result Change RuleFault) (o : NewOrder) → AreRight key s result (Order o) (order_seen s o) (order_changes s o)
orders_right key s result o first acts history slice = record { judged = order_judged first acts key o false s slice history; changed = λ ok next. order_changed first acts key o s slice next }
