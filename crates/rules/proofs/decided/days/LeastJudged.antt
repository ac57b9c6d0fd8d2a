-- The days that an item asks for, judged by their slice, are judged as by the acts.
use Rattle.rules.proofs.Words.{◌≡◌, not, List, [], ◌∷◌, refl, ℤ, Key, NewLeast, Least, UnknownItem, Act, tables_of, first_refusal, judgement, IsSlice, least_judged, Slice, same_text_refl}
use Rattle.rules.proofs.rows.SliceTells.{item_told}

module _ (first : ℤ) (acts : List Act) (key : Key) (l : NewLeast) (s : Slice) (slice : IsSlice first (record { key = key; command = Least l }) acts (tables_of first acts) s) where
  abbrev act : Act
  act = record { key = key; command = Least l }

  pub least_is_judged : first_refusal (least_judged s l) ≡ first_refusal (judgement first acts (Least l))
  least_is_judged =
      λ i. first_refusal (
      (not (item_told first acts act s slice refl l.gtin (same_text_refl l.gtin) i), UnknownItem) ∷ [])
