-- What is told of the elements of a list, one after another.
use Rattle.queries.proofs.Words.{◌≡◌, List, [], ◌∷◌, ◌++◌, append_assoc, append-nil, Global, Some, None, refl, ap, sym, ◌∙◌, Option, Vec, same_Some}
use Rattle.queries.specs.Telling.{EachTells, AreToldOf}

module _ {X Y : Type 0} (Tells : X → Y → Type 0) where
  -- these are told of the elements before those that are left
  abbrev pub AreToldYet : List X → List X → List Y → Type 0
  AreToldYet xs left told = (ys : List Y) → EachTells Tells xs ys → (rest : List Y) × (ys ≡ told ++ rest) × EachTells Tells left rest

  module _ (xs : List X) where
    pub none_yet : AreToldYet xs xs []
    none_yet ys all = (ys, refl, all)

    pub one_more : (x : X) (left : List X) (told : List Y) (y : Y) → AreToldYet xs (x ∷ left) told → ((z : Y) → Tells x z → Some y ≡ Some z) → AreToldYet xs left (told ++ y ∷ [])
    one_more x left told y so own ys all = next (so ys all).0 (so ys all).1 (so ys all).2
      where
        next : (rest : List Y) → ys ≡ told ++ rest → EachTells Tells (x ∷ left) rest → (others : List Y) × (ys ≡ (told ++ y ∷ []) ++ others) × EachTells Tells left others
        next [] is tell = absurd tell
        next (z ∷ others) is tell = (others, is ∙ ap (λ (w : Y). told ++ w ∷ others) (sym (same_Some y z (own z tell.0))) ∙ sym (append_assoc told (y ∷ []) others), tell.1)

    pub none_told : (x : X) (left : List X) (told : List Y) → AreToldYet xs (x ∷ left) told → ((z : Y) → Tells x z → None ≡ Some z) → AreToldOf Tells xs None
    none_told x left told so own ys all = next (so ys all).0 (so ys all).2
      where
        next : (rest : List Y) → EachTells Tells (x ∷ left) rest → ⊥
        next [] tell = tell
        next (z ∷ others) tell = let none : ◌≡◌ {A = Option Y} None (Some z) = own z tell.0 in cc

    pub all_told : (v : Vec Y Global) → AreToldYet xs [] v.items → AreToldOf Tells xs (Some v)
    all_told v so ys all = next (so ys all).0 (so ys all).1 (so ys all).2
      where
        next : (rest : List Y) → ys ≡ v.items ++ rest → EachTells Tells [] rest → v.items ≡ ys
        next [] is tell = sym (is ∙ append-nil v.items)
        next (z ∷ others) is tell = absurd tell
