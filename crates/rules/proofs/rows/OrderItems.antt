-- The items of the lines that a slice has of the order that the command names.
use Rattle.rules.proofs.Words.{◌≡◌, ℕ, true, false, ◌&&◌, not, List, [], ◌∷◌, refl, ap, sym, ◌∙◌, ◌||◌, if◌then◌else◌, filter, map, ℤ, list_any, same_text, LineRow, Act, has_line, tables_of, no_two, IsSlice, picks, names_order, items_seen, Slice, is_touched, and_both, not_true, or_first, same_text_is, any_found}
use Rattle.rules.proofs.rows.OrderTold.{line_told}

abbrev gtins : List LineRow → List (List ℕ)
gtins rows = map (λ l. l.gtin) rows

module _ (o : List ℕ) where
  abbrev own : List LineRow → List LineRow
  own rows = filter (λ l. same_text o l.order) rows

  any_own : (g : List ℕ) (rows : List LineRow) → list_any (same_text g) (gtins (own rows)) ≡ list_any (λ (l : LineRow). same_text o l.order && same_text g l.gtin) rows
  any_own g [] = refl
  any_own g (r ∷ rs) = elim (same_text o r.order) as (λ b. list_any (same_text g) (gtins (if b then r ∷ own rs else own rs)) ≡ (b && same_text g r.gtin) || list_any (λ (l : LineRow). same_text o l.order && same_text g l.gtin) rs) [
    | true ↦ ap (λ b. same_text g r.gtin || b) (any_own g rs)
    | false ↦ any_own g rs
  ]

  -- of two rows of one order the items differ
  same_items : (r : LineRow) → same_text o r.order ≡ true → (rows : List LineRow)
      → list_any (λ (l : LineRow). same_text o l.order && same_text r.gtin l.gtin) rows ≡ list_any (λ (l : LineRow). same_text r.order l.order && same_text r.gtin l.gtin) rows
  same_items r e [] = refl
  same_items r e (q ∷ qs) = λ i. (same_text (same_text_is o r.order e i) q.order && same_text r.gtin q.gtin) || same_items r e qs i

  own_apart : (rows : List LineRow) → no_two (λ (r t : LineRow). same_text r.order t.order && same_text r.gtin t.gtin) rows ≡ true → no_two same_text (gtins (own rows)) ≡ true
  own_apart [] e = refl
  own_apart (r ∷ rs) e =
      let two = and_both (not (list_any (λ (t : LineRow). same_text r.order t.order && same_text r.gtin t.gtin) rs)) (no_two (λ (r t : LineRow). same_text r.order t.order && same_text r.gtin t.gtin) rs) e in
      elim (same_text o r.order) as (λ b. same_text o r.order ≡ b → no_two same_text (gtins (if b then r ∷ own rs else own rs)) ≡ true) [
        | true ↦ λ t. (λ i. not ((any_own r.gtin rs ∙ same_items r t rs ∙ not_true _ two.0) i) && own_apart rs two.1 i)
        | false ↦ λ t. own_apart rs two.1
      ] refl

module _ (first : ℤ) (acts : List Act) (act : Act) (s : Slice) (slice : IsSlice first act acts (tables_of first acts) s) (whole : not (picks act.command) ≡ true) (o : List ℕ) (named : names_order act.command o ≡ true) where
  -- they are the items of which the order has lines
  pub items_told : (g : List ℕ) → list_any (same_text g) (items_seen s o) ≡ has_line acts o g
  items_told g = any_own o g s.rows.lines ∙ sym (any_found (λ (l : LineRow). same_text o l.order && same_text g l.gtin) s.rows.lines) ∙ line_told first acts act s slice o named g (or_first (not (picks act.command)) (is_touched first act acts g) whole)

  -- and none is there twice
  pub items_apart : no_two same_text (items_seen s o) ≡ true
  items_apart = own_apart o s.rows.lines slice.lines.once
