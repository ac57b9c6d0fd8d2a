-- What a writer that was lent holds once it is back. `same`: the reference that came back, if it is the one that was lent, leaves what it holds.
use Rattle.service.proofs.Words.{◌≡◌, ℕ, List, ◌++◌, Option, Some, None, sym, subst, Appends, AppendsBeginning, behind}

module _ (name other : ℕ) (back last : Option (List ℕ)) (same : name ≡ other → last ≡ back) where
  appended_to : (was back : Option (List ℕ)) (text : List ℕ) → (name ≡ other → last ≡ back) → Appends (behind name was) (behind other back) text → Appends was last text
  appended_to None back text same h = tt
  appended_to (Some xs) None text same h = absurd h
  appended_to (Some xs) (Some ys) text same h =
      let heads : name ≡ other = cc in
      let tails : ys ≡ xs ++ text = cc in
      subst (λ l. Appends (Some xs) l text) (sym (same heads)) tails

  pub appended : (was : Option (List ℕ)) (text : List ℕ) → Appends (behind name was) (behind other back) text → Appends was last text
  appended was text h = appended_to was back text same h

  pub begun : (was : Option (List ℕ)) (text : List ℕ) → AppendsBeginning (behind name was) (behind other back) text → AppendsBeginning was last text
  begun was text h = record { front = h.front; rest = h.rest; parts = h.parts; written = appended was h.front h.written }
