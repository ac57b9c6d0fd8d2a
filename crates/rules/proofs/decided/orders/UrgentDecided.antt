-- Urgent orders are decided as the machine decides them.
use Rattle.rules.proofs.Words.{◌≡◌, ℕ, true, false, ◌&&◌, not, List, [], ◌∷◌, refl, ap, ◌∙◌, ◌||◌, ℤ, Some, Result, list_any, same_text, Key, OrderLine, NewOrder, Urgent, reply_text, UnitsShort, Act, IsHistory, tables_of, no_two, names_item_twice, IsSlice, applied, number_seen, none_put, none_dropped, is_share_of, new_line_rows, order_seen, items_ordered, urgent_put, urgent_dropped, short_with, urgent_changes, Slice, Change, RuleFault, or_none, room_for_acts, rows_after_urgent}
use Rattle.rules.proofs.rows.TableSteps.{AreNamed, names_changed, reserved_changed}
use Rattle.rules.proofs.rows.DaysAsked.{earliest_told}
use Rattle.rules.proofs.rows.replanned.EachItem.{items_replanned, items_put_once}
use Rattle.rules.proofs.decided.Decisions.{AreRight, IsChange, meta_same}
use Rattle.rules.proofs.decided.orders.OrderJudged.{order_judged}
use Rattle.rules.proofs.decided.orders.OrderStep.{order_change, order_step}
use Rattle.rules.proofs.decided.orders.OrderTells.{number_is, row_is, is_new, is_single, some_wanted, new_lines_once}
use Rattle.rules.proofs.decided.orders.UrgentTells.{demands_after, supplies_after}
use Rattle.rules.proofs.decided.orders.UrgentReply.{urgent_text}

-- The items of lines

any_item : (g : List ℕ) (ls : List OrderLine) → list_any (λ (h : List ℕ). same_text g h) (items_ordered ls) ≡ list_any (λ l. same_text g l.gtin) ls
any_item g [] = refl
any_item g (l ∷ ls) = ap (λ b. same_text g l.gtin || b) (any_item g ls)

items_apart : (ls : List OrderLine) → names_item_twice ls ≡ false → no_two (λ (g h : List ℕ). same_text g h) (items_ordered ls) ≡ true
items_apart [] e = refl
items_apart (l ∷ ls) e =
    let two = or_none (list_any (λ m. same_text l.gtin m.gtin) ls) (names_item_twice ls) e in
    (λ i. not ((any_item l.gtin ls ∙ two.0) i) && items_apart ls two.1 i)

module _ (first : ℤ) (acts : List Act) (key : Key) (o : NewOrder) (s : Slice) (slice : IsSlice first (record { key = key; command = Urgent o }) acts (tables_of first acts) s)
    (next : IsHistory first (record { key = key; command = Urgent o } ∷ acts)) where
  abbrev act : Act
  act = record { key = key; command = Urgent o }

  abbrev text : List ℕ
  text = reply_text (number_seen s) (Some (UnitsShort (short_with o (urgent_put s o))))

  -- The rows that are reserved after the act

  apart : no_two (λ (g h : List ℕ). same_text g h) (items_ordered o.lines) ≡ true
  apart = items_apart o.lines (is_single first acts key o true s slice next)

  are_named : AreNamed first act acts (urgent_put s o) (urgent_dropped s o)
  are_named =
      items_replanned (λ (g : List ℕ). g) first acts act s slice refl next (items_ordered o.lines) apart (λ g. any_item g o.lines) s.meta.day (rows_after_urgent s o) (earliest_told first acts act s slice refl next.0)
      (demands_after first acts key o s slice next) (supplies_after first acts key o s slice next)

  put_once : no_two is_share_of (urgent_put s o) ≡ true
  put_once =
      items_put_once (λ (g : List ℕ). g) first acts act s slice refl next (items_ordered o.lines) apart (λ g. any_item g o.lines) s.meta.day (rows_after_urgent s o) (earliest_told first acts act s slice refl next.0)
      (demands_after first acts key o s slice next) (supplies_after first acts key o s slice next)

  -- what is made of the rows is the change of the act
  change_same : urgent_changes s o ≡ order_change first acts key o true text (urgent_put s o) (urgent_dropped s o)
  change_same = λ i. record {
    meta = meta_same first acts act s slice (room_for_acts first acts (Urgent o) next.1.passes) refl refl i;
    put = record none_put {
      orders = row_is first acts key o true s slice next i ∷ [];
      lines = new_line_rows o;
      urgents = record { order = o.order; act = number_is first acts key o true s slice next i } ∷ [];
      reserved = urgent_put s o;
    };
    dropped = record none_dropped { reserved = urgent_dropped s o };
    text = text;
  }

  urgent_changed : IsChange first act acts (urgent_changes s o)
  urgent_changed = record {
    applies = ap (λ c. applied c (tables_of first acts)) change_same
        ∙ order_step first acts key o true next.0 (is_new first acts key o true s slice next) (some_wanted first acts key o true s slice next) text (urgent_put s o) (urgent_dropped s o)
        (reserved_changed first act acts (urgent_put s o) (urgent_dropped s o) are_named);
    text = urgent_text first acts key o s slice next;
    once = λ i. new_lines_once first acts key o true s slice next i && (put_once i && true);
    named = names_changed first act acts (urgent_changes s o) are_named;
  }

pub urgents_right : (key : Key) (s : Slice) (result : Result Change RuleFault) (o : NewOrder) → AreRight key s result (Urgent o) (order_seen s o) (urgent_changes s o)
urgents_right key s result o first acts history slice = record { judged = order_judged first acts key o true s slice history; changed = λ ok next. urgent_changed first acts key o s slice next }
