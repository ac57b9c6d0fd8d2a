-- A command that places an order, urgent or not: what it touches, what it makes known, and what it leaves as it was.
use Rattle.rules.proofs.Words.{◌≡◌, ℕ, ◌-◌, Bool, true, false, ◌&&◌, List, ◌∷◌, refl, ◌∙◌, arith, ◌==◌, if◌then◌else◌, ℤ, Option, Some, None, find, option_map, list_all, list_any, same_text, is_name, is_title, is_sound, are_lines, Key, OrderLine, NewOrder, Command, Order, Urgent, Open, Done, Cancelled, Act, next_number, Placed, orders, order_named, has_order, lines_placed, is_cancelled, Booking, item_postings, shipped_of, order_state, need, IsHistory, if_urgent, line_row, urgent_row, is_touched, judgement, ordering, verdict, and_both, same_text_refl, OrderAccepted, order_accepted, urgent_accepted, new_is_not_cancelled, new_has_nothing_staged, new_has_nothing_shipped, plans, names_order}

abbrev pub placing : Bool → NewOrder → Command
placing true o = Urgent o
placing false o = Order o

-- Of the command alone

pub placing_plans : (u : Bool) (o : NewOrder) → plans (placing u o) ≡ true
placing_plans true o = refl
placing_plans false o = refl

pub placing_names : (u : Bool) (o : NewOrder) → names_order (placing u o) o.order ≡ true
placing_names true o = same_text_refl o.order
placing_names false o = same_text_refl o.order

pub placing_lines : (u : Bool) (o : NewOrder) → is_sound (placing u o) ≡ true → are_lines o.lines ≡ true
placing_lines true o e = (and_both (is_name o.order && is_title o.customer) (are_lines o.lines) e).1
placing_lines false o e = (and_both (is_name o.order && is_title o.customer) (are_lines o.lines) e).1

pub placing_judged : (first : ℤ) (acts : List Act) (u : Bool) (o : NewOrder) → judgement first acts (placing u o) ≡ ordering first acts o
placing_judged first acts true o = refl
placing_judged first acts false o = refl

pub placing_accepted : (first : ℤ) (acts : List Act) (u : Bool) (o : NewOrder) → verdict first acts (placing u o) ≡ None → OrderAccepted first acts o
placing_accepted first acts true o ok = urgent_accepted first acts o ok
placing_accepted first acts false o ok = order_accepted first acts o ok

-- a booking of an order that is new needs all that it asks for
pub new_needs : (first : ℤ) (acts : List Act) → IsHistory first acts → (b : Booking) → has_order acts b.order ≡ false → need acts (item_postings first acts b.item) b ≡ b.ordered
new_needs first acts history b new =
    (λ i. if new_is_not_cancelled first acts history b.order new i then 0 else b.ordered - new_has_nothing_staged first acts history b.order new b.item i - new_has_nothing_shipped first acts history b.order new b.item i)
    ∙ omega arith

-- Of the acts with it

abbrev pub placing_act : Key → NewOrder → Bool → Act
placing_act key o u = record { key = key; command = placing u o }

abbrev pub placed_by : List Act → NewOrder → Bool → Placed
placed_by acts o u = record { order = o.order; act = next_number acts; customer = o.customer; lines = o.lines; urgent = u }

-- what is found under a name after it
abbrev pub named_with : List Act → NewOrder → Bool → List ℕ → Option Placed
named_with acts o u q = if same_text q o.order then Some (placed_by acts o u) else order_named acts q

module _ (first : ℤ) (acts : List Act) (key : Key) (o : NewOrder) where
  pub touches_are : (u : Bool) (g : List ℕ) → is_touched first (placing_act key o u) acts g ≡ list_any (λ l. same_text g l.gtin) o.lines
  touches_are true g = refl
  touches_are false g = refl

  pub orders_are : (u : Bool) → orders (placing_act key o u ∷ acts) ≡ placed_by acts o u ∷ orders acts
  orders_are true = refl
  orders_are false = refl

  pub named_are : (u : Bool) (q : List ℕ) → order_named (placing_act key o u ∷ acts) q ≡ named_with acts o u q
  named_are true q = refl
  named_are false q = refl

  pub state_is : (u : Bool) (q : List ℕ) → order_state first (placing_act key o u ∷ acts) q
      ≡ (if is_cancelled acts q then Cancelled else (if list_all (λ l. shipped_of first acts q l.gtin == l.qty) (lines_placed (named_with acts o u q)) then Done else Open))
  state_is true q = refl
  state_is false q = refl

  pub line_row_is : (u : Bool) (q g : List ℕ) → line_row first (placing_act key o u ∷ acts) q g
      ≡ option_map (λ (l : OrderLine). record { order = q; gtin = g; ordered = l.qty; shipped = shipped_of first acts q g }) (find (λ l. same_text g l.gtin) (lines_placed (named_with acts o u q)))
  line_row_is true q g = refl
  line_row_is false q g = refl

  pub urgent_row_is : (u : Bool) (q : List ℕ) → urgent_row (placing_act key o u ∷ acts) q ≡ if_urgent (named_with acts o u q)
  urgent_row_is true q = refl
  urgent_row_is false q = refl

  pub need_same : (u : Bool) (b : Booking) (g : List ℕ) → need (placing_act key o u ∷ acts) (item_postings first (placing_act key o u ∷ acts) g) b ≡ need acts (item_postings first acts g) b
  need_same true b g = refl
  need_same false b g = refl
