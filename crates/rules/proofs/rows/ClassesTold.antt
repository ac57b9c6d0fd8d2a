-- The rows of urgent orders tell of which class an order is.
use Rattle.rules.proofs.Words.{◌≡◌, ℕ, true, false, List, [], ◌∷◌, refl, ap, sym, subst, ◌∙◌, if◌then◌else◌, Bool, Some, None, find, is_some, list_any, AllByRecursion, same_text, UrgentRow, Act, Placed, orders, order_named, is_urgent, if_urgent, urgent_row, some_one, any_found, orders_numbered, urgent_number, classes_told}

-- what all have, that which is found has
found_has : {X : Type 0} (P : X → Type 0) (test : X → Bool) (xs : List X) → AllByRecursion P xs → (x : X) → find test xs ≡ Some x → P x
found_has P test [] h x e = cc
found_has P test (y ∷ ys) h x e = elim (test y) as (λ b. (if b then Some y else find test ys) ≡ Some x → P x) [
  | true ↦ λ f. subst P (some_one y x f) h.0
  | false ↦ λ f. found_has P test ys h.1 x f
] e

-- acts that make no order leave the rows
pub same_urgents : (before later : List Act) → orders before ≡ orders later → (o : List ℕ) → urgent_row before o ≡ urgent_row later o
same_urgents before later same o = λ i. if_urgent (find (λ p. same_text o p.order) (same i))

module _ (acts : List Act) (o : List ℕ) (p : Placed) (named : order_named acts o ≡ Some p) where
  -- its number is that of an urgent order if it is one
  pub number_told : urgent_number acts p.act ≡ p.urgent
  number_told = found_has (λ (q : Placed). urgent_number acts q.act ≡ q.urgent) (λ (q : Placed). same_text o q.order) (orders acts) (classes_told is_urgent (orders acts) (orders_numbered acts).falling) p named

  row_there : is_some (urgent_row acts o) ≡ p.urgent
  row_there =
      let row : UrgentRow = record { order = p.order; act = p.act } in
      ap (λ q. is_some (if_urgent q)) named ∙ elim p.urgent as (λ b. is_some (if b then Some row else None) ≡ b) [ true ↦ refl | false ↦ refl ]

  -- and so it has a row among these, if the rows of its name are there
  pub class_told : (rows : List UrgentRow) → find (λ (r : UrgentRow). same_text o r.order) rows ≡ urgent_row acts o → list_any (λ (r : UrgentRow). same_text o r.order) rows ≡ p.urgent
  class_told rows found = sym (any_found (λ (r : UrgentRow). same_text o r.order) rows) ∙ ap is_some found ∙ row_there
