-- What a statement makes of the books that changes the rows whose keys pass a test, of any table that keeps the laws.
use Rattle.tables.proofs.Words.{◌≡◌, ℕ, Bool, true, false, List, [], ◌∷◌, map, inl, inr, refl, sym, ap, ap₂, ◌∙◌, if◌then◌else◌, find, option_map, Some, cases_Bool, AllByRecursion, Row, Term, State, Trees, Has, rowid, runs_as, schema_with, typed, tables_in, IsReady, Goes, Counts, IsRows-rewritten, rewritten, cast_all, passes, show, updates, sets_off_nothing, goes, typed_put, Described, IsLawful, found, rule_of, rows_of, typed_rows, filled_rows, FillsBy}

module _ {X K : Type 0} (d : Described X K) (laws : IsLawful d) (among : K → Bool) (fill : X → X) (same_key : (x : X) → d.key (fill x) ≡ d.key x) where
  abbrev filled : X → X
  filled x = if among (d.key x) then fill x else x

  filled_key : (x : X) → d.key (filled x) ≡ d.key x
  filled_key x = elim (cases_Bool (among (d.key x))) [ inl e ↦ rw e (same_key x) | inr e ↦ rw e refl ]

  abbrev at : K → X → Bool
  at k x = d.same k (d.key x)

  found_filled : (k : K) (xs : List X) → find (at k) (map filled xs) ≡ (if among k then option_map fill (find (at k) xs) else find (at k) xs)
  found_filled k [] = elim (cases_Bool (among k)) [ inl e ↦ rw e refl | inr e ↦ rw e refl ]
  found_filled k (x ∷ xs) =
      let more = found_filled k xs in
      let same : at k (filled x) ≡ at k x = ap (d.same k) (filled_key x) in
      elim (cases_Bool (at k x)) [
        | inl e ↦
            let alike : among (d.key x) ≡ among k = ap among (sym (laws.one_key k (d.key x) e)) in
            elim (cases_Bool (among k)) [
              | inl h ↦ here (alike ∙ h) h e same
              | inr h ↦ rw (e, h) (here_still (alike ∙ h) e)
            ]
        | inr e ↦ elim (cases_Bool (among k)) [
          | inl h ↦ rw (same ∙ e, e, h) (rw h at more)
          | inr h ↦ rw (same ∙ e, e, h) (rw h at more)
        ]
      ]
    where
      here : among (d.key x) ≡ true → among k ≡ true → at k x ≡ true → at k (filled x) ≡ at k x → find (at k) (filled x ∷ map filled xs) ≡ (if among k then option_map fill (find (at k) (x ∷ xs)) else find (at k) (x ∷ xs))
      here own h e same = rw (same ∙ e, own, h, e) refl

      here_still : among (d.key x) ≡ false → at k x ≡ true → find (at k) (filled x ∷ map filled xs) ≡ Some x
      here_still other e = rw (other, e) refl

  module _ (tests columns : List Term) (params : Row) (passing : (r : Row) → d.is r ≡ true → passes params tests r ≡ among (d.key (d.reads r))) where
    abbrev again : Row → Row
    again r = rowid r ∷ show params columns r

    -- a row that passes is typed after it exactly if it was before, and reads as the changed one
    abbrev pub Becomes : Row → Type 0
    Becomes r = passes params tests r ≡ true → (d.is (again r) ≡ d.is r) × (d.is r ≡ true → d.reads (again r) ≡ fill (d.reads r))

    typed_filled : (rows : List Row) → ((r : Row) → Has rows r → Becomes r) → typed d.is d.reads (rewritten (passes params tests) (show params columns) rows) ≡ map filled (typed d.is d.reads rows)
    typed_filled [] become = refl
    typed_filled (r ∷ rows) become =
        let more = typed_filled rows (λ s h. become s (inr h)) in
        elim (cases_Bool (passes params tests r)) [
          | inl e ↦
              let it = become r (inl refl) e in
              elim (cases_Bool (d.is r)) [
                | inl f ↦ rw (e, it.0 ∙ f, f, sym (passing r f) ∙ e) (ap₂ ◌∷◌ (it.1 f) more)
                | inr f ↦ rw (e, it.0 ∙ f, f) more
              ]
          | inr e ↦ elim (cases_Bool (d.is r)) [
            | inl f ↦ rw (e, f, sym (passing r f) ∙ e) (ap (λ l. d.reads r ∷ l) more)
            | inr f ↦ rw (e, f) more
          ]
        ]

    all_typed : (rows : List Row) → ((r : Row) → Has rows r → Becomes r) → AllByRecursion (λ r. d.is r ≡ true) rows → AllByRecursion (λ r. d.is r ≡ true) (rewritten (passes params tests) (show params columns) rows)
    all_typed [] become all = tt
    all_typed (r ∷ rows) become all =
        let more = all_typed rows (λ s h. become s (inr h)) all.1 in
        elim (cases_Bool (passes params tests r)) [
          | inl e ↦ rw e ((become r (inl refl) e).0 ∙ all.0, more)
          | inr e ↦ rw e (all.0, more)
        ]

    pub fills_rows : (text : List ℕ) → FillsBy d tests columns text → (old new : State) (count : ℕ) → IsReady old.now
        → ((r : Row) → Has (old.now.trees d.layout.tree) r → passes params tests r ≡ true → cast_all d.layout.columns (show params columns r) ≡ show params columns r)
        → ((r : Row) → Has (old.now.trees d.layout.tree) r → Becomes r)
        → Counts count text params old new → Goes (filled_rows d among fill) old new
    fills_rows text it old new count ready fit become h =
        let tree = d.layout.tree in
        let p = passes params tests in
        let rows = old.now.trees tree in
        let after = rewritten p (show params columns) rows in
        let rest = ready.has.rest in
        let kept = rows_of d laws old.now ready in
        let w = runs_as text params old new (schema_with rest) ready.has.is _ (it rest).0 (it rest).1 count h.executes.0 in
        let u = updates (schema_with rest) d.place tree _ _ _ _ _ _ (laws.placed rest) (λ olds news. sets_off_nothing rest tree olds news ready.has.apart) old new tests columns _ params (show params columns) count ready.has.is kept (λ r. refl) fit w in
        goes old new tree after _ ready (IsRows-rewritten p (show params columns) rows kept) u.0 (h.executes.1.mode ∙ sym h.inside)
        (laws.sets old.now.trees after ∙ (λ i. d.set (λ k. look_filled old.now.trees become k i) (tables_in old.now.trees)))
        (λ are. typed_put old.now.trees (rule_of d) after (all_typed rows become (typed_rows d laws old.now.trees are)) d.place laws.ruled are)
      where
        look_filled : (trees : Trees) → ((r : Row) → Has (trees d.layout.tree) r → Becomes r) → (k : K)
            → found d (rewritten (passes params tests) (show params columns) (trees d.layout.tree)) k ≡ (if among k then option_map fill (d.look (tables_in trees) k) else d.look (tables_in trees) k)
        look_filled trees become k =
            ap (find (at k)) (typed_filled (trees d.layout.tree) become) ∙ found_filled k (typed d.is d.reads (trees d.layout.tree))
            ∙ ap (λ f. if among k then option_map fill (f k) else f k) (sym (laws.looks trees))
