-- The day that the acts began on, as it is read.
use Rattle.audits.proofs.Words.{◌≡◌, ℕ, List, Option, Some, None, find, true, refl, sym, ap, ◌∙◌, ℤ, option_map, none-some, State, LotId, MetaRow, CardRow, tables_in, same_card, card_key, meta, cards, AreAll, RowKey, Meta, Card, Start, Received, first_day, IsUntold, day_or_missing, IsBegun}

none_mapped : {X Y : Type 0} (f : X → Y) (x : Option X) → option_map f x ≡ None → x ≡ None
none_mapped f None e = refl
none_mapped f (Some x) e = absurd (none-some (f x) (sym e))

module _ (o m : State) (same : m.now ≡ o.now) where
  begun_by : (start : Option Start) (row : RowKey) (day : Option ℤ) → first_day (tables_in o.now.trees) start ≡ day → (day ≡ None → IsUntold (tables_in o.now.trees) start row) → IsBegun start o m (day_or_missing day row)
  begun_by start row (Some day) told untold = (told, same)
  begun_by start row None told untold = untold refl

  pub by_meta : (rows : List MetaRow) → AreAll meta (tables_in o.now.trees) rows → IsBegun None o m (day_or_missing (option_map (λ (r : MetaRow). r.day) (find (λ _. true) rows)) Meta)
  by_meta rows all =
      let found : find (λ _. true) rows ≡ (tables_in o.now.trees).meta = all.found tt refl in
      begun_by None Meta _ (ap (λ x. option_map (λ (r : MetaRow). r.day) x) (sym found)) (λ none. (refl, sym found ∙ none_mapped (λ (r : MetaRow). r.day) (find (λ _. true) rows) none))

  pub by_card : (rows : List CardRow) (lot : LotId) (act : ℕ) → AreAll cards (tables_in o.now.trees) rows
      → IsBegun (Some (Received lot act)) o m (day_or_missing (option_map (λ (c : CardRow). c.day) (find (λ (c : CardRow). same_card (lot, act) (card_key c)) rows)) (Card lot act))
  by_card rows lot act all =
      let found : find (λ (c : CardRow). same_card (lot, act) (card_key c)) rows ≡ (tables_in o.now.trees).card lot act = all.found (lot, act) refl in
      begun_by (Some (Received lot act)) (Card lot act) _ (ap (λ x. option_map (λ (c : CardRow). c.day) x) (sym found))
      (λ none. (refl, sym found ∙ none_mapped (λ (c : CardRow). c.day) (find (λ (c : CardRow). same_card (lot, act) (card_key c)) rows) none))
