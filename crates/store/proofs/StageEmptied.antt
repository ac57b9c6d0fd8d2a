-- What is staged once the stage of an order was emptied: the rows of the order are gone, and no others.
use Rattle.store.proofs.Words.{ℕ, ◌≡◌, Bool, true, false, inl, inr, List, [], ◌∷◌, find, Option, None, refl, sym, ap, subst, ◌∙◌, ◌||◌, if◌then◌else◌, bytes_eq, list_any, list_all, cases_Bool, same_text, Tables, StagedRow, AreRows, StagedKey, same_staged, staged_key, without_staged, each_written, names_exact, AreStagedOfOrder, staged_laws, or_false, false_from, clash}
use Rattle.slices.proofs.RowsChanged.{and_both, or_none}

abbrev pub staged_at : Tables → StagedKey → Option StagedRow
staged_at t k = t.staged k.0 k.1

-- the same without an order
abbrev pub without_order : List ℕ → Tables → StagedKey → Option StagedRow
without_order order t k = if bytes_eq order k.0 then None else staged_at t k

none_found : {R : Type 0} (p : R → Bool) (rows : List R) → list_any p rows ≡ false → find p rows ≡ None
none_found p [] h = refl
none_found p (r ∷ rs) h = let two = or_none (p r) (list_any p rs) h in rw two.0 (none_found p rs two.1)

-- where all are otherwise
none_of_all : {R : Type 0} (p q : R → Bool) → ((r : R) → p r ≡ true → q r ≡ false) → (rows : List R) → list_all q rows ≡ true → list_any p rows ≡ false
none_of_all p q apart [] h = refl
none_of_all p q apart (r ∷ rs) h =
    let two = and_both (q r) (list_all q rs) h in
    or_false (p r) (list_any p rs) (false_from (p r) (λ e. clash (q r) two.0 (apart r e))) (none_of_all p q apart rs two.1)

either : {X : Type 0} (x : Option X) (a b : Bool) → (if b then None else (if a then None else x)) ≡ (if a || b then None else x)
either x true true = refl
either x true false = refl
either x false b = refl

abbrev own : StagedKey → StagedRow → Bool
own k r = same_staged k (staged_key r)

-- rows that are dropped one after another
each_dropped : (k : StagedKey) (rows : List StagedRow) (t : Tables) → staged_at (each_written (λ r. without_staged r.order r.lot) rows t) k ≡ (if list_any (own k) rows then None else staged_at t k)
each_dropped k [] t = refl
each_dropped k (r ∷ rs) t = each_dropped k rs (without_staged r.order r.lot t) ∙ either (staged_at t k) (own k r) (list_any (own k) rs)

module _ (order : List ℕ) (t : Tables) where
  -- all that was staged for the order is dropped row by row
  module _ (gone : List StagedRow) (are : AreStagedOfOrder order t gone) where
    its_own : (k : StagedKey) → bytes_eq order k.0 ≡ true → (b : Bool) → list_any (own k) gone ≡ b → (if b then None else staged_at t k) ≡ None
    its_own k of_order true e = refl
    its_own k of_order false e = sym (are.found k of_order) ∙ none_found (own k) gone e

    none_of_others : (k : StagedKey) → bytes_eq order k.0 ≡ false → list_any (own k) gone ≡ false
    none_of_others k other = none_of_all (own k) (λ r. bytes_eq order (staged_key r).0) (λ r e. subst (λ (c : StagedKey). bytes_eq order c.0 ≡ false) (staged_laws.one_key k (staged_key r) e) other) gone are.only

    pub rows_gone : staged_at (each_written (λ r. without_staged r.order r.lot) gone t) ≡ without_order order t
    rows_gone = λ i k. at k i
      where
        at : (k : StagedKey) → staged_at (each_written (λ r. without_staged r.order r.lot) gone t) k ≡ without_order order t k
        at k = each_dropped k gone t ∙ elim (cases_Bool (bytes_eq order k.0)) [
          | inl of_order ↦ its_own k of_order (list_any (own k) gone) refl ∙ sym (ap (λ b. if b then None else staged_at t k) of_order)
          | inr other ↦ ap (λ b. if b then None else staged_at t k) (none_of_others k other) ∙ sym (ap (λ b. if b then None else staged_at t k) other)
        ]

  -- what is staged for another order stays
  others_stay : (u : Tables) → staged_at u ≡ without_order order t → (by : List ℕ) → same_text by order ≡ false → (rows : List StagedRow) → AreStagedOfOrder by t rows → AreStagedOfOrder by u rows
  others_stay u is by apart rows are =
      let stays = λ (k : StagedKey) (w : bytes_eq by k.0 ≡ true). false_from (bytes_eq order k.0) (λ e. clash (same_text by order) (subst (λ (x : List ℕ). same_text by x ≡ true) (sym (names_exact order k.0 e)) w) apart) in
      subst (λ (f : StagedKey → Option StagedRow). AreRows {K = StagedKey} same_staged staged_key (λ k. bytes_eq by k.0) f rows) (sym is) (record {
        found = λ k w. are.found k w ∙ sym (ap (λ b. if b then None else staged_at t k) (stays k w));
        only = are.only;
        once = are.once;
      })

  -- and for the order nothing is left
  none_stays : (u : Tables) → staged_at u ≡ without_order order t → (by : List ℕ) → same_text by order ≡ true → AreStagedOfOrder by u []
  none_stays u is by own =
      subst (λ (f : StagedKey → Option StagedRow). AreRows {K = StagedKey} same_staged staged_key (λ k. bytes_eq by k.0) f []) (sym is) (record {
        found = λ k w. sym (ap (λ b. if b then None else staged_at t k) (subst (λ (x : List ℕ). bytes_eq x k.0 ≡ true) (names_exact by order own) w));
        only = refl;
        once = refl;
      })

  -- what is left of the rows of an order
  pub rows_left : (u : Tables) → staged_at u ≡ without_order order t → (by : List ℕ) (rows : List StagedRow) → AreStagedOfOrder by t rows → AreStagedOfOrder by u (if same_text by order then [] else rows)
  rows_left u is by rows are = elim (same_text by order) as (λ b. same_text by order ≡ b → AreStagedOfOrder by u (if b then [] else rows)) [ true ↦ λ own. none_stays u is by own | false ↦ λ apart. others_stay u is by apart rows are ] refl
