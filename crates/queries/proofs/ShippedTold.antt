-- What is told of the lines of a card, one after another.
use Rattle.queries.proofs.Words.{◌≡◌, List, [], ◌∷◌, ◌++◌, append_assoc, append-nil, Global, Some, None, refl, ap, sym, ◌∙◌, Option, Vec, same_Some, Tables, CardRow, ShippedUnits, TellsOf, AllTell, AreTold}

-- these are told of the lines before those that are left
abbrev pub AreToldSoFar : Tables → List CardRow → List CardRow → List ShippedUnits → Type 0
AreToldSoFar t cards left told = (us : List ShippedUnits) → AllTell t cards us → (rest : List ShippedUnits) × (us ≡ told ++ rest) × AllTell t left rest

-- of one line this is told, if it is of a shipment
abbrev pub IsToldOf : Tables → CardRow → Option ShippedUnits → Type 0
IsToldOf t c told = (u : ShippedUnits) → TellsOf t c u → told ≡ Some u

module _ (t : Tables) (cards : List CardRow) where
  pub none_yet : AreToldSoFar t cards cards []
  none_yet us all = (us, refl, all)

  pub one_more : (c : CardRow) (left : List CardRow) (told : List ShippedUnits) (u : ShippedUnits) → AreToldSoFar t cards (c ∷ left) told → IsToldOf t c (Some u) → AreToldSoFar t cards left (told ++ u ∷ [])
  one_more c left told u so own us all = next (so us all).0 (so us all).1 (so us all).2
    where
      next : (rest : List ShippedUnits) → us ≡ told ++ rest → AllTell t (c ∷ left) rest → (others : List ShippedUnits) × (us ≡ (told ++ u ∷ []) ++ others) × AllTell t left others
      next [] is tell = absurd tell
      next (v ∷ others) is tell = (others, is ∙ ap (λ (x : ShippedUnits). told ++ x ∷ others) (sym (same_Some u v (own v tell.0))) ∙ sym (append_assoc told (u ∷ []) others), tell.1)

  pub none_told : (c : CardRow) (left : List CardRow) (told : List ShippedUnits) → AreToldSoFar t cards (c ∷ left) told → IsToldOf t c None → AreTold t cards None
  none_told c left told so own us all = next (so us all).0 (so us all).2
    where
      next : (rest : List ShippedUnits) → AllTell t (c ∷ left) rest → ⊥
      next [] tell = tell
      next (v ∷ others) tell = let none : ◌≡◌ {A = Option ShippedUnits} None (Some v) = own v tell.0 in cc

  pub all_told : (v : Vec ShippedUnits Global) → AreToldSoFar t cards [] v.items → AreTold t cards (Some v)
  all_told v so us all = next (so us all).0 (so us all).1 (so us all).2
    where
      next : (rest : List ShippedUnits) → us ≡ v.items ++ rest → AllTell t [] rest → v.items ≡ us
      next [] is tell = sym (is ∙ append-nil v.items)
      next (x ∷ others) is tell = absurd tell
