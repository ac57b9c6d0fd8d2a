-- The change of an order that is cancelled takes the tables to those with the act, if its reserved rows do.
use Rattle.rules.proofs.Words.{◌≡◌, ℕ, true, false, ◌&&◌, List, [], ◌∷◌, refl, ap, sym, ◌∙◌, ◌||◌, if◌then◌else◌, ℤ, Option, Some, None, option_map, same_text, LotId, Key, Cancel, Open, Done, Cancelled, OrderRow, ReservedRow, Act, is_lot, Placed, orders, order_named, is_cancelled, order_state, is_open, is_open_state, is_shipped_in_full, tables_of, meta_row, order_row, reserved_row, applied, tables_but_repeats, changed, unless_put, none_put, none_dropped, Change, same_text_is, same_text_refl, found_order}

module _ (first : ℤ) (acts : List Act) (key : Key) (o : List ℕ) where
  abbrev pub act : Act
  act = record { key = key; command = Cancel o }

  abbrev pub after : List Act
  after = act ∷ acts

  -- The order is cancelled, and the others are as they were

  pub now_cancelled : order_state first after o ≡ Cancelled
  now_cancelled = ap (λ b. if b || is_cancelled acts o then Cancelled else (if is_shipped_in_full first acts o then Done else Open)) (same_text_refl o)

  pub state_same : (q : List ℕ) → same_text q o ≡ false → order_state first after q ≡ order_state first acts q
  state_same q e = ap (λ b. if b || is_cancelled acts q then Cancelled else (if is_shipped_in_full first acts q then Done else Open)) e

  pub not_open : is_open first after o ≡ false
  not_open = ap is_open_state now_cancelled

  pub open_same : (q : List ℕ) → same_text q o ≡ false → is_open first after q ≡ is_open first acts q
  open_same q e = ap is_open_state (state_same q e)

  abbrev pub row_of : Placed → OrderRow
  row_of p = record { order = p.order; act = p.act; customer = p.customer; state = order_state first acts p.order }

  abbrev row_after : Placed → OrderRow
  row_after p = record { order = p.order; act = p.act; customer = p.customer; state = order_state first after p.order }

  others_same : (q : List ℕ) → same_text q o ≡ false → (p : Option Placed) → order_named acts q ≡ p → option_map row_of p ≡ option_map row_after p
  others_same q e None f = refl
  others_same q e (Some p) f =
      let other : same_text p.order o ≡ false = ap (λ (x : List ℕ). same_text x o) (sym (found_order q (orders acts) p f)) ∙ e in
      (λ i. Some (record { order = p.order; act = p.act; customer = p.customer; state = sym (state_same p.order other) i }))

  pub other_row : (q : List ℕ) → same_text q o ≡ false → order_row first acts q ≡ order_row first after q
  other_row q e = others_same q e (order_named acts q) refl

  module _ (p : Placed) (named : order_named acts o ≡ Some p) where
    -- the order's row
    abbrev pub new_row : OrderRow
    new_row = record { order = p.order; act = p.act; customer = p.customer; state = Cancelled }

    abbrev pub cancel_change : List ℕ → List ReservedRow → List ReservedRow → Change
    cancel_change text put dropped = record {
      meta = meta_row first after;
      put = record none_put { orders = new_row ∷ []; reserved = put };
      dropped = record none_dropped { reserved = dropped };
      text = text;
    }

    own : o ≡ p.order
    own = found_order o (orders acts) p named

    order_at : (q : List ℕ) → changed (λ (r : OrderRow). same_text q r.order) (new_row ∷ []) [] (order_row first acts q) ≡ order_row first after q
    order_at q = elim (same_text q o) as (λ b. same_text q o ≡ b → unless_put (if same_text q p.order then Some new_row else None) false (order_row first acts q) ≡ order_row first after q) [
      | true ↦ λ e.
          let same : q ≡ o = same_text_is q o e in
          ap (λ b. unless_put (if b then Some new_row else None) false (order_row first acts q)) (ap (same_text q) (sym own) ∙ e)
          ∙ (λ i. Some (record { order = p.order; act = p.act; customer = p.customer; state = (sym now_cancelled ∙ ap (order_state first after) own) i }))
          ∙ sym (ap (option_map row_after) (ap (order_named acts) same ∙ named))
      | false ↦ λ e. ap (λ b. unless_put (if b then Some new_row else None) false (order_row first acts q)) (ap (same_text q) (sym own) ∙ e) ∙ other_row q e
    ] refl

    pub cancel_step : (text : List ℕ) (put dropped : List ReservedRow)
        → ((q : List ℕ) (l : LotId) → changed (λ (r : ReservedRow). same_text q r.order && is_lot l r.lot) put dropped (reserved_row first acts q l) ≡ reserved_row first after q l)
        → applied (cancel_change text put dropped) (tables_of first acts) ≡ tables_but_repeats first act acts
    unfolding applied tables_of
    cancel_step text put dropped reserved_at =
        λ i. record (applied (cancel_change text put dropped) (tables_of first acts)) { order = λ q. order_at q i; reserved = λ q l. reserved_at q l i }
