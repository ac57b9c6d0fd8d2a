-- The rows of a lot's card as they are read one at a time, by act.
use Rattle.tables.proofs.Words.{◌≡◌, ◌<◌, ℕ, true, false, ◌&&◌, List, [], ◌∷◌, codes, map, Result, refl, sym, ap, ap₂, ◌∙◌, subst, arith, Equal, nat_eq, AllByRecursion, and_parts, Schema, Null, Text, Row, column, Term, Select, Database, reads_listing, State, Shown, IsPlain, command_of, reads_as, rowid, Has, all_has, value_cmp, map-map, all_map, is_gtin, is_lot_text, LotId, ACTS_MAX, CardRow, CARDS_BY_ACT, schema_with, cards_table, same_lot_id, tables_in, AreTyped, is_number, IsReady, same, scan, alone, passes, show, and_true, same_word, counted, same_lots, itself_lot, same_number, itself_number, itself_both, EachFault, Hands, HandsOver, number_rises, number_ties, by_column, stored, are_shown, stored_good, in_key_order, one_order, rest_shown, over, AreCardLines, apart, rows_of, typed_rows, cards, cards_laws}
use Rattle.sqlite_tied.specs.Compute.{everything}
use Rattle.sqlite.specs.Listing.{understood}

abbrev pub cards_by_act_text : List ℕ
cards_by_act_text = CARDS_BY_ACT.now

abbrev tests : List Term
tests = same 1 0 ∷ same 2 1 ∷ []

abbrev shown : List Term
shown = cards.shown

cards_by_act_is : (rest : Schema) → (command_of (understood (schema_with rest) cards_by_act_text) ≡ Select (alone (scan cards_table.tree tests shown (by_column 3))) (codes "gtin" ∷ codes "lot" ∷ codes "act" ∷ codes "day" ∷ codes "kind" ∷ codes "note" ∷ codes "qty" ∷ codes "rest" ∷ [])) × (reads_listing (schema_with rest) cards_by_act_text ≡ false)
unfolding understood everything
cards_by_act_is rest = (refl, refl)

pub cards_by_act_plain : (rest : Schema) → IsPlain (understood (schema_with rest) cards_by_act_text)
unfolding understood everything
cards_by_act_plain rest = (refl, refl)

-- the number of the act is in range
act_number : (r : Row) → cards.is r ≡ true → is_number ACTS_MAX (column r 3) ≡ true
act_number r h = counted ACTS_MAX (column r 3) (and_parts _ _ (and_parts _ _ (and_parts _ _ h).1).1).0

module _ (lot : LotId) where
  abbrev params : Row
  params = Text lot.gtin ∷ Text lot.lot ∷ []

  at_lot : (r : Row) → cards.is r ≡ true → passes params tests r ≡ same_lot_id lot (cards.reads r).lot
  at_lot r h =
      let p0 = and_parts _ _ h in
      ap₂ ◌&&◌ (same_word is_gtin (column r 1) (Text lot.gtin) lot.gtin p0.0 refl) (and_true _ ∙ same_word is_lot_text (column r 2) (Text lot.lot) lot.lot (and_parts _ _ p0.1).0 refl)

  -- two rows of the lot with one act are one
  distinct : (db : Database) (ready : IsReady db) → AreTyped db.trees → (x y : Row) → Has (db.trees cards_table.tree) x → Has (db.trees cards_table.tree) y → passes params tests x ≡ true → passes params tests y ≡ true
      → value_cmp (column x 3) (column y 3) ≡ Equal → value_cmp (rowid x) (rowid y) ≡ Equal
  distinct db ready are x y hx hy px py tie =
      let tx = all_has (λ r. cards.is r ≡ true) (db.trees cards_table.tree) x (typed_rows cards cards_laws db.trees are) hx in
      let ty = all_has (λ r. cards.is r ≡ true) (db.trees cards_table.tree) y (typed_rows cards cards_laws db.trees are) hy in
      let lots : (cards.reads x).lot ≡ (cards.reads y).lot =
      sym (same_lots lot (cards.reads x).lot (sym (at_lot x tx) ∙ px)) ∙ same_lots lot (cards.reads y).lot (sym (at_lot y ty) ∙ py) in
      let acts = number_ties ACTS_MAX (column x 3) (column y 3) (act_number x tx) (act_number y ty) tie in
      apart cards cards_laws db ready x y hx hy tx ty
      (itself_both _ _ (ap (same_lot_id (cards.reads x).lot) (sym lots) ∙ itself_lot (cards.reads x).lot) (ap (nat_eq (cards.reads x).act) (sym acts) ∙ itself_number (cards.reads x).act))

  -- the rows that the query shows are the lines of the card
  listed : (old : State) → IsReady old.now → AreTyped old.now.trees → (new : State) (rows : List Row) → Shown cards_by_act_text params old new rows
      → AreCardLines (tables_in old.now.trees) lot (map cards.seen rows) × AllByRecursion (λ v. cards.has v ≡ true) rows
  listed old ready are new rows h =
      let read = reads_as cards_by_act_text params old new (schema_with ready.has.rest) ready.has.is _ (cards_by_act_is ready.has.rest).0 (cards_by_act_plain ready.has.rest) (cards_by_act_is ready.has.rest).1 rows h in
      let a = read.answer Null in
      let up = (rows_of cards cards_laws old.now ready).0 in
      let apart_rows = distinct old.now ready are in
      let all = stored old.now.trees params cards_table.tree 3 tests shown rows a up apart_rows in
      let is = are_shown old.now.trees params cards_table.tree 3 tests shown rows a up apart_rows in
      let good = stored_good old.now.trees params cards_table.tree 3 tests shown rows a up apart_rows cards.is cards.reads nat_eq same_number itself_number (λ n m. n < m) (λ k low. omega arith) (λ i j k p q. omega arith)
      (λ (c : CardRow). c.act) (λ c. same_lot_id lot c.lot) (at_lot) (λ x y tx ty low. number_rises ACTS_MAX (column x 3) (column y 3) (act_number x tx) (act_number y ty) low) (typed_rows cards cards_laws old.now.trees are) in
      let ordered = in_key_order old.now.trees params cards_table.tree 3 tests shown rows a up apart_rows cards.is cards.reads nat_eq same_number itself_number (λ n m. n < m) (λ k low. omega arith) (λ i j k p q. omega arith)
      (λ (c : CardRow). c.act) (λ c. same_lot_id lot c.lot) (at_lot) (λ x y tx ty low. number_rises ACTS_MAX (column x 3) (column y 3) (act_number x tx) (act_number y ty) low) (typed_rows cards cards_laws old.now.trees are) in (
        subst (AreCardLines (tables_in old.now.trees) lot) (sym (ap (map cards.seen) is ∙ map-map cards.seen (show params shown) all)) ordered,
        subst (AllByRecursion (λ v. cards.has v ≡ true)) (sym is) (all_map (λ v. cards.has v ≡ true) (show params shown) all good),
      )

  -- what the sink took
  pub cards_over : {K : Type 0} (takes stops : K → CardRow → K → Type 0) (old new : State) (before after : K) (result : Result (Unit {0}) EachFault) → IsReady old.now → AreTyped old.now.trees
      → Hands cards.has cards.seen takes stops cards_by_act_text params old new before after result
      → (rows : List CardRow) → AreCardLines (tables_in old.now.trees) lot rows → HandsOver takes stops before rows after result
  cards_over takes stops old new before after result ready are h rows lines =
      over cards.has cards.seen takes stops cards_by_act_text params old (AreCardLines (tables_in old.now.trees) lot)
      (one_order nat_eq same_number itself_number (λ n m. n < m) (λ k low. omega arith) (λ i j k p q. omega arith) (λ (c : CardRow). c.act) ((tables_in old.now.trees).card lot))
      (listed old ready are) (rest_shown cards_by_act_text params old (schema_with ready.has.rest) _ ready.has.is (cards_by_act_is ready.has.rest).0 (λ db given. tt)) new before after result h rows lines
