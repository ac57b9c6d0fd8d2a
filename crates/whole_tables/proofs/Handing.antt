-- What a sink takes of a table that is handed over whole.
use Rattle.whole_tables.proofs.Words.{◌≡◌, true, ℕ, List, [], ◌∙◌, map, refl, sym, ap, Result, AllByRecursion, Null, Row, State, Shown, reads_as, schema_with, IsReady, tables_in, AreTyped, both_typed, shown_typed, show, in_order, Described, IsLawful, kept_rows, typed_rows, found_by_key, EachFault, Hands, HandsOver, rest_shown, over, AreAll, WholeIs, rows_of, typed_rows_of}
use Rattle.whole_tables.proofs.Wholes.{all_kept}

module _ {X K : Type 0} (d : Described X K) (laws : IsLawful d) (text : List ℕ) (is : WholeIs d text) (old : State) (ready : IsReady old.now) where
  abbrev rows_shown : List Row
  rows_shown = map (show [] d.shown) (rows_of d old.now.trees)

  turn : (new : State) (rows : List Row) → Shown text [] old new rows → rows ≡ rows_shown
  turn new rows h =
      let rest = ready.has.rest in
      let read = reads_as text [] old new (schema_with rest) ready.has.is _ (is rest).0 (is rest).2 (is rest).1 rows h in
      in_order old.now.trees [] d.layout.tree [] d.shown rows (kept_rows d laws old.now ready).0 (read.answer Null) ∙ ap (map (show [] d.shown)) (all_kept (rows_of d old.now.trees))

  listed : AreTyped old.now.trees → (new : State) (rows : List Row) → Shown text [] old new rows → (map d.seen rows ≡ typed_rows_of d old.now.trees) × AllByRecursion (λ v. d.has v ≡ true) rows
  listed are new rows h =
      let is_shown = turn new rows h in
      let has = (both_typed d.has d.is (show [] d.shown) (laws.has_shown []) (rows_of d old.now.trees) rows is_shown).0 (typed_rows d laws old.now.trees are) in
      (shown_typed d.is d.reads d.has d.seen (show [] d.shown) (laws.has_shown []) (laws.seen_shown []) (rows_of d old.now.trees) rows (map d.seen rows) is_shown has refl, has)

  pub all_over : AreTyped old.now.trees → {S : Type 0} (takes stops : S → X → S → Type 0) (new : State) (before after : S) (result : Result (Unit {0}) EachFault)
      → Hands d.has d.seen takes stops text [] old new before after result → HandsOver takes stops before (typed_rows_of d old.now.trees) after result
  all_over are takes stops new before after result h =
      over d.has d.seen takes stops text [] old (λ xs. xs ≡ typed_rows_of d old.now.trees) (λ xs ys p q. p ∙ sym q) (listed are)
      (rest_shown text [] old (schema_with ready.has.rest) _ ready.has.is (is ready.has.rest).0 (λ db given. tt)) new before after result h (typed_rows_of d old.now.trees) refl

-- they are all rows of the table
pub typed_are_all : {X K : Type 0} (d : Described X K) (laws : IsLawful d) (old : State) → IsReady old.now → AreAll d (tables_in old.now.trees) (typed_rows_of d old.now.trees)
typed_are_all d laws old ready = found_by_key d laws (λ k. true) old.now ready (typed_rows_of d old.now.trees) (sym (all_kept (typed_rows_of d old.now.trees)))
