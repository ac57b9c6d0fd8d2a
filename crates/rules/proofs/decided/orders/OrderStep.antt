-- The change of an order, urgent or not, takes the tables to those with the act, if its reserved rows do.
use Rattle.rules.proofs.Words.{◌≡◌, ℕ, ◌≤◌, Bool, true, false, ◌&&◌, List, [], ◌∷◌, refl, ap, sym, ◌∙◌, arith, ◌==◌, if◌then◌else◌, ℤ, Option, Some, None, find, map, option_map, list_all, eqb-true, same_text, LotId, Key, OrderLine, NewOrder, Open, Done, Cancelled, OrderRow, LineRow, UrgentRow, ReservedRow, Act, next_number, is_lot, Placed, orders, order_named, has_order, lines_placed, is_cancelled, shipped_of, order_state, IsHistory, tables_of, meta_row, if_urgent, order_row, urgent_row, line_row, reserved_row, applied, tables_but_repeats, changed, unless_put, none_put, none_dropped, new_line_rows, Change, same_text_is, found_order, not_some, new_is_not_cancelled, new_is_not_named, new_has_nothing_shipped}
use Rattle.rules.proofs.rows.AddedRows.{put_over_none}
use Rattle.rules.proofs.decided.orders.Placing.{placing_act, placed_by, named_with, named_are, state_is, line_row_is, urgent_row_is}

-- some line is of a unit at least
abbrev pub WantsUnits : List OrderLine → Type 0
WantsUnits [] = ⊥
WantsUnits (l ∷ ls) = 1 ≤ l.qty

-- the row of an order that is urgent, and none of another
abbrev pub urgents_of : Bool → UrgentRow → List UrgentRow
urgents_of true r = r ∷ []
urgents_of false r = []

module _ (first : ℤ) (acts : List Act) (key : Key) (o : NewOrder) (u : Bool) where
  abbrev pub act : Act
  act = placing_act key o u

  abbrev pub after : List Act
  after = act ∷ acts

  abbrev pub placed : Placed
  placed = placed_by acts o u

  abbrev pub new_row : OrderRow
  new_row = record { order = o.order; act = next_number acts; customer = o.customer; state = Open }

  abbrev pub new_urgent : UrgentRow
  new_urgent = record { order = o.order; act = next_number acts }

  abbrev pub order_change : List ℕ → List ReservedRow → List ReservedRow → Change
  order_change text put dropped = record {
    meta = meta_row first after;
    put = record none_put { orders = new_row ∷ []; lines = new_line_rows o; reserved = put; urgents = urgents_of u new_urgent };
    dropped = record none_dropped { reserved = dropped };
    text = text;
  }

  -- Other orders are as they were

  pub named_own : (q : List ℕ) → same_text q o.order ≡ true → order_named after q ≡ Some placed
  named_own q e = named_are first acts key o u q ∙ ap (λ b. if b then Some placed else order_named acts q) e

  pub named_same : (q : List ℕ) → same_text q o.order ≡ false → order_named after q ≡ order_named acts q
  named_same q e = named_are first acts key o u q ∙ ap (λ b. if b then Some placed else order_named acts q) e

  pub state_same : (q : List ℕ) → same_text q o.order ≡ false → order_state first after q ≡ order_state first acts q
  state_same q e =
      state_is first acts key o u q
      ∙ ap (λ b. if is_cancelled acts q then Cancelled else (if list_all (λ l. shipped_of first acts q l.gtin == l.qty) (lines_placed (if b then Some placed else order_named acts q)) then Done else Open)) e

  module _ (history : IsHistory first acts) (new : has_order acts o.order ≡ false) (some : WantsUnits o.lines) where
    not_in_full : (ls : List OrderLine) → WantsUnits ls → list_all (λ l. shipped_of first acts o.order l.gtin == l.qty) ls ≡ false
    not_in_full [] h = absurd h
    not_in_full (l ∷ ls) h =
        ap (λ n. (n == l.qty) && list_all (λ l. shipped_of first acts o.order l.gtin == l.qty) ls) (new_has_nothing_shipped first acts history o.order new l.gtin)
        ∙ ap (λ b. b && list_all (λ l. shipped_of first acts o.order l.gtin == l.qty) ls) (differ l.qty h)
      where
        differ : (q : ℕ) → 1 ≤ q → (0 == q) ≡ false
        differ q h = elim (0 == q) as (λ b. (0 == q) ≡ b → b ≡ false) [ true ↦ λ e. let z : 0 ≡ q = eqb-true 0 q e in absurd (omega arith) | false ↦ λ e. refl ] refl

    -- the order is open
    pub new_is_open : (q : List ℕ) → same_text q o.order ≡ true → order_state first after q ≡ Open
    new_is_open q e =
        let own : q ≡ o.order = same_text_is q o.order e in
        let lines : lines_placed (named_with acts o u q) ≡ o.lines = ap (λ b. lines_placed (if b then Some placed else order_named acts q)) e in
        state_is first acts key o u q
        ∙ (λ i. if is_cancelled acts (own i) then Cancelled else (if list_all (λ l. shipped_of first acts (own i) l.gtin == l.qty) (lines i) then Done else Open))
        ∙ (λ i. if new_is_not_cancelled first acts history o.order new i then Cancelled else (if not_in_full o.lines some i then Done else Open))

    abbrev row_of : Placed → OrderRow
    row_of p = record { order = p.order; act = p.act; customer = p.customer; state = order_state first acts p.order }

    abbrev row_after : Placed → OrderRow
    row_after p = record { order = p.order; act = p.act; customer = p.customer; state = order_state first after p.order }

    others_same : (q : List ℕ) → same_text q o.order ≡ false → (p : Option Placed) → order_named acts q ≡ p → option_map row_of p ≡ option_map row_after p
    others_same q e None f = refl
    others_same q e (Some p) f =
        let own : q ≡ p.order = found_order q (orders acts) p f in
        let other : same_text p.order o.order ≡ false = ap (λ (x : List ℕ). same_text x o.order) (sym own) ∙ e in
        (λ i. Some (record { order = p.order; act = p.act; customer = p.customer; state = sym (state_same p.order other) i }))

    -- the order's row
    pub order_at : (q : List ℕ) → changed (λ (r : OrderRow). same_text q r.order) (new_row ∷ []) [] (order_row first acts q) ≡ order_row first after q
    order_at q = elim (same_text q o.order) as (λ b. same_text q o.order ≡ b → unless_put (if b then Some new_row else None) false (order_row first acts q) ≡ order_row first after q) [
      | true ↦ λ e.
          (λ i. Some (record { order = o.order; act = next_number acts; customer = o.customer; state = sym (new_is_open o.order (ap (λ (x : List ℕ). same_text x o.order) (sym (same_text_is q o.order e)) ∙ e)) i }))
          ∙ ap (option_map row_after) (sym (named_own q e))
      | false ↦ λ e. others_same q e (order_named acts q) refl ∙ ap (option_map row_after) (sym (named_same q e))
    ] refl

    -- Lines

    abbrev line_after : List ℕ → List ℕ → OrderLine → LineRow
    line_after q g l = record { order = q; gtin = g; ordered = l.qty; shipped = shipped_of first acts q g }

    own_lines : (q g : List ℕ) → same_text q o.order ≡ true → (ls : List OrderLine)
        → find (λ (r : LineRow). same_text q r.order && same_text g r.gtin) (map (λ l. record { order = o.order; gtin = l.gtin; ordered = l.qty; shipped = 0 }) ls) ≡ option_map (line_after q g) (find (λ l. same_text g l.gtin) ls)
    own_lines q g e [] = refl
    own_lines q g e (l ∷ ls) =
        ap (λ b. if b && same_text g l.gtin then Some (record { order = o.order; gtin = l.gtin; ordered = l.qty; shipped = 0 }) else find (λ (r : LineRow). same_text q r.order && same_text g r.gtin) (map (λ l. record { order = o.order; gtin = l.gtin; ordered = l.qty; shipped = 0 }) ls)) e
        ∙ elim (same_text g l.gtin) as (λ b. same_text g l.gtin ≡ b → (if b then Some (record { order = o.order; gtin = l.gtin; ordered = l.qty; shipped = 0 }) else find (λ (r : LineRow). same_text q r.order && same_text g r.gtin) (map (λ l. record { order = o.order; gtin = l.gtin; ordered = l.qty; shipped = 0 }) ls))
        ≡ option_map (line_after q g) (if b then Some l else find (λ l. same_text g l.gtin) ls)) [
          | true ↦ λ f.
              let order : q ≡ o.order = same_text_is q o.order e in
              let item : g ≡ l.gtin = same_text_is g l.gtin f in
              let none : shipped_of first acts q g ≡ 0 = ap (λ (x : List ℕ). shipped_of first acts x g) order ∙ new_has_nothing_shipped first acts history o.order new g in
              (λ i. Some (record { order = sym order i; gtin = sym item i; ordered = l.qty; shipped = sym none i }))
          | false ↦ λ f. own_lines q g e ls
        ] refl

    other_lines : (q g : List ℕ) → same_text q o.order ≡ false → (ls : List OrderLine)
        → find (λ (r : LineRow). same_text q r.order && same_text g r.gtin) (map (λ l. record { order = o.order; gtin = l.gtin; ordered = l.qty; shipped = 0 }) ls) ≡ None
    other_lines q g e [] = refl
    other_lines q g e (l ∷ ls) =
        ap (λ b. if b && same_text g l.gtin then Some (record { order = o.order; gtin = l.gtin; ordered = l.qty; shipped = 0 }) else find (λ (r : LineRow). same_text q r.order && same_text g r.gtin) (map (λ l. record { order = o.order; gtin = l.gtin; ordered = l.qty; shipped = 0 }) ls)) e
        ∙ other_lines q g e ls

    pub no_line_before : (q g : List ℕ) → same_text q o.order ≡ true → line_row first acts q g ≡ None
    no_line_before q g e =
        ap (λ (x : Option Placed). option_map (line_after q g) (find (λ l. same_text g l.gtin) (lines_placed x)))
        (ap (order_named acts) (same_text_is q o.order e) ∙ new_is_not_named first acts history o.order new)

    pub line_at : (q g : List ℕ) → changed (λ (r : LineRow). same_text q r.order && same_text g r.gtin) (new_line_rows o) [] (line_row first acts q g) ≡ line_row first after q g
    line_at q g =
        elim (same_text q o.order) as (λ b. same_text q o.order ≡ b → unless_put (find (λ (r : LineRow). same_text q r.order && same_text g r.gtin) (new_line_rows o)) false (line_row first acts q g)
        ≡ option_map (line_after q g) (find (λ l. same_text g l.gtin) (lines_placed (if b then Some placed else order_named acts q)))) [
          | true ↦ λ e. (λ i. unless_put (own_lines q g e o.lines i) false (no_line_before q g e i)) ∙ put_over_none (option_map (line_after q g) (find (λ l. same_text g l.gtin) o.lines))
          | false ↦ λ e. (λ i. unless_put (other_lines q g e o.lines i) false (line_row first acts q g))
        ] refl
        ∙ sym (line_row_is first acts key o u q g)

-- The row of an urgent order

urgent_by : (acts : List Act) (o : NewOrder) → has_order acts o.order ≡ false → (u : Bool) (q : List ℕ)
    → changed (λ (r : UrgentRow). same_text q r.order) (urgents_of u (record { order = o.order; act = next_number acts })) [] (urgent_row acts q) ≡ if_urgent (named_with acts o u q)
urgent_by acts o new true q =
    elim (same_text q o.order) as (λ b. unless_put (if b then Some (record { order = o.order; act = next_number acts }) else None) false (urgent_row acts q) ≡ if_urgent (if b then Some (placed_by acts o true) else order_named acts q)) [ true ↦ refl | false ↦ refl ]
urgent_by acts o new false q = elim (same_text q o.order) as (λ b. same_text q o.order ≡ b → urgent_row acts q ≡ if_urgent (if b then Some (placed_by acts o false) else order_named acts q)) [
  | true ↦ λ e. ap if_urgent (ap (order_named acts) (same_text_is q o.order e) ∙ not_some (order_named acts o.order) new)
  | false ↦ λ e. refl
] refl

pub urgent_at : (first : ℤ) (acts : List Act) (key : Key) (o : NewOrder) (u : Bool) → has_order acts o.order ≡ false → (q : List ℕ)
    → changed (λ (r : UrgentRow). same_text q r.order) (urgents_of u (new_urgent first acts key o u)) [] (urgent_row acts q) ≡ urgent_row (after first acts key o u) q
urgent_at first acts key o u new q = urgent_by acts o new u q ∙ sym (urgent_row_is first acts key o u q)

pub order_step : (first : ℤ) (acts : List Act) (key : Key) (o : NewOrder) (u : Bool) → IsHistory first acts → has_order acts o.order ≡ false → WantsUnits o.lines → (text : List ℕ) (put dropped : List ReservedRow)
    → ((q : List ℕ) (l : LotId) → changed (λ (r : ReservedRow). same_text q r.order && is_lot l r.lot) put dropped (reserved_row first acts q l) ≡ reserved_row first (after first acts key o u) q l)
    → applied (order_change first acts key o u text put dropped) (tables_of first acts) ≡ tables_but_repeats first (act first acts key o u) acts
unfolding applied tables_of
order_step first acts key o true history new some text put dropped reserved_at =
    λ i. record (applied (order_change first acts key o true text put dropped) (tables_of first acts)) {
      order = λ q. order_at first acts key o true history new some q i;
      urgent = λ q. urgent_at first acts key o true new q i;
      line = λ q g. line_at first acts key o true history new some q g i;
      reserved = λ q l. reserved_at q l i;
    }
order_step first acts key o false history new some text put dropped reserved_at =
    λ i. record (applied (order_change first acts key o false text put dropped) (tables_of first acts)) {
      order = λ q. order_at first acts key o false history new some q i;
      urgent = λ q. urgent_at first acts key o false new q i;
      line = λ q g. line_at first acts key o false history new some q g i;
      reserved = λ q l. reserved_at q l i;
    }
