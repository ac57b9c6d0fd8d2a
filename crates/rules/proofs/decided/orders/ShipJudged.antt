-- The shipping of an order judged by its slice is judged as by the acts.
use Rattle.rules.proofs.Words.{◌≡◌, not, List, [], ◌∷◌, refl, ℕ, ℤ, Key, Ship, UnknownOrder, OrderClosed, NothingStaged, Act, IsHistory, tables_of, IsSlice, first_refusal, judgement, ship_seen, Slice, same_text_refl}
use Rattle.rules.proofs.rows.OrderTold.{order_told, open_told, staged_for_order_told}

module _ (first : ℤ) (acts : List Act) (key : Key) (o : List ℕ) (s : Slice)
    (slice : IsSlice first (record { key = key; command = Ship o }) acts (tables_of first acts) s) (history : IsHistory first acts) where
  abbrev act : Act
  act = record { key = key; command = Ship o }

  pub ship_judged : first_refusal (ship_seen s o) ≡ first_refusal (judgement first acts (Ship o))
  ship_judged =
      λ i. first_refusal (
      (not (order_told first acts act s slice o (same_text_refl o) i), UnknownOrder)
      ∷ (not (open_told first acts act s slice o (same_text_refl o) i), OrderClosed)
      ∷ (staged_for_order_told first acts act s slice refl history o (λ g e. e) i, NothingStaged) ∷ [])
