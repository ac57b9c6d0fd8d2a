-- The lines of a lot's card that were read, and sorted by act, are the card.
use Rattle.queries.proofs.Words.{◌≡◌, ◌<◌, ℕ, true, ◌&&◌, not, List, [], ◌∷◌, find, Some, Less, refl, ap, sym, ◌∙◌, IsPermutation, nat_eq, ◌||◌, if◌then◌else◌, AllByRecursion, list_any, list_all, IsSortedByKey, nat_cmp, nat_cmp_total, ranked, ascending_weaker, LotId, Tables, CardRow, and_both, same_lot_id, same_card, card_key, same_number, same_lots, itself_lot, AreCardLines, AreCardsOf, number_same, few_once, few_moved, rises, found_sorted}
use Rattle.table_words.specs.Found.{no_two}

less : (a b : ℕ) → nat_cmp a b ≡ Less → a < b
less a b e = ranked a b Less (sym e)

module _ (l : LotId) (t : Tables) (rows : List CardRow) (are : AreCardsOf l t rows) where
  abbrev AreOwn : List CardRow → Type 0
  AreOwn = AllByRecursion (λ (c : CardRow). l ≡ c.lot)

  own : (xs : List CardRow) → list_all (λ (c : CardRow). same_lot_id l c.lot) xs ≡ true → AreOwn xs
  own [] e = tt
  own (x ∷ xs) e = let two = and_both (same_lot_id l x.lot) (list_all (λ (c : CardRow). same_lot_id l c.lot) xs) e in (same_lots l x.lot two.0, own xs two.1)

  -- in the lot a line is known by its act
  any_alike : (x : CardRow) → l ≡ x.lot → (ys : List CardRow) → AreOwn ys → list_any (λ (y : CardRow). same_card (card_key x) (card_key y)) ys ≡ list_any (λ (y : CardRow). nat_eq x.act y.act) ys
  any_alike x e [] lots = refl
  any_alike x e (y ∷ ys) lots =
      let one : same_lot_id x.lot y.lot ≡ true = ap (λ m. same_lot_id m y.lot) (sym e ∙ lots.0) ∙ itself_lot y.lot in
      λ i. (one i && nat_eq x.act y.act) || any_alike x e ys lots.1 i

  once : (xs : List CardRow) → AreOwn xs → no_two (λ (x y : CardRow). same_card (card_key x) (card_key y)) xs ≡ true → no_two (λ (x y : CardRow). nat_eq x.act y.act) xs ≡ true
  once [] lots e = refl
  once (x ∷ xs) lots e =
      let two = and_both (not (list_any (λ (y : CardRow). same_card (card_key x) (card_key y)) xs)) (no_two (λ (x y : CardRow). same_card (card_key x) (card_key y)) xs) e in
      λ i. (ap not (sym (any_alike x lots.0 xs lots.1)) ∙ two.0) i && once xs lots.1 two.1 i

  at_act : (n : ℕ) (xs : List CardRow) → AreOwn xs → find (λ (c : CardRow). nat_eq n c.act) xs ≡ find (λ (c : CardRow). same_card (l, n) (card_key c)) xs
  at_act n [] lots = refl
  at_act n (x ∷ xs) lots =
      let one : same_lot_id l x.lot ≡ true = ap (same_lot_id l) (sym lots.0) ∙ itself_lot l in
      λ i. if sym one i && nat_eq n x.act then Some x else at_act n xs lots.1 i

  pub in_act_order : (cards : List CardRow) → IsPermutation rows cards → IsSortedByKey (λ (c : CardRow). c.act) nat_cmp cards → AreCardLines t l cards
  in_act_order cards moved up =
      let lots = own rows are.only in
      let one_each = once rows lots are.once in
      record {
        found = λ n. found_sorted nat_cmp nat_cmp_total nat_eq number_same same_number (λ (c : CardRow). c.act) rows cards one_each moved up n ∙ at_act n rows lots ∙ are.found (l, n) (itself_lot l);
        rises = ascending_weaker (λ (x y : CardRow). nat_cmp x.act y.act ≡ Less) (λ (x y : CardRow). x.act < y.act) (λ x y. less x.act y.act) cards
            (rises nat_cmp nat_cmp_total nat_eq number_same same_number (λ (c : CardRow). c.act) cards up
            (few_moved nat_cmp nat_cmp_total nat_eq number_same same_number (λ (c : CardRow). c.act) rows cards moved (few_once nat_cmp nat_cmp_total nat_eq number_same same_number (λ (c : CardRow). c.act) rows one_each)));
      }
