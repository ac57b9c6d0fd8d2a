-- No two rows of a table have one key, and what a look-up by key finds after a write.
use Rattle.table_words.proofs.Words.{◌≡◌, ◌≤◌, ℕ, ◌+◌, inl, inr, Bool, true, false, not, ◌&&◌, cond, List, [], ◌∷◌, filter, find, length, slice_get, Option, Some, None, refl, sym, ap, ap₂, ◌∙◌, subst, arith, IsTrue, Ordering, Less, Equal, Greater, is_eq, bytes_eq, true≢false, cases_Bool, and_parts, and_from, not-true, false_from_ne_true, AllByRecursion, list_any, list_all, is_ne, match_ordering, ordering_reverse, bytes_eq-Decides, Value, Null, Int, Real, Text, Blob, Row, column, value_cmp, plain, Binary, value_cmp_total, is_true, is_null, from_truth, rowid, put_row, IsTable, is_int, Unique, Index, agree, differ, equal, clashes, guards, passes_rule, Has, is_taken, all_has, all_from, test_has, some_from, has_filtered, has_put, ascending-filter, IsRows, typed, AreRows, no_two, only_if}
use Rattle.sqlite_value.specs.Keys.{first_key}
use Rattle.sqlite_sql.specs.Ops.{binary}
use Rattle.sqlite_trees.specs.Tree.{Trees}
use Rattle.sqlite_schema.specs.declared.schema.Schema.{Schema}
use Rattle.sqlite_schema.specs.declared.schema.Table.{Table}
use Rattle.table_words.proofs.Plans.{same, tests_from}
use Rattle.table_words.proofs.ScanLemmas.{passes}
use Rattle.table_words.proofs.ListLemmas.{over}

-- ---- equal keys

truth_is : (b : Bool) → is_true (from_truth (Some b)) ≡ b
truth_is true = refl
truth_is false = refl

equal_ties : (o : Ordering) → is_eq o ≡ true → o ≡ Equal
equal_ties Less h = absurd cc
equal_ties Equal h = refl
equal_ties Greater h = absurd cc

-- what SQL's = finds equal has one place in the order
pub ties : (v w : Value) → equal Binary v w ≡ true → (value_cmp v w ≡ Equal) × (is_null v ≡ false)
unfolding binary
ties Null w h = absurd cc
ties (Int n) Null h = absurd cc
ties (Int n) (Int m) h = (equal_ties _ (sym (truth_is _) ∙ h), refl)
ties (Int n) (Real y) h = (equal_ties _ (sym (truth_is _) ∙ h), refl)
ties (Int n) (Text y) h = (equal_ties _ (sym (truth_is _) ∙ h), refl)
ties (Int n) (Blob y) h = (equal_ties _ (sym (truth_is _) ∙ h), refl)
ties (Real x) Null h = absurd cc
ties (Real x) (Int m) h = (equal_ties _ (sym (truth_is _) ∙ h), refl)
ties (Real x) (Real y) h = (equal_ties _ (sym (truth_is _) ∙ h), refl)
ties (Real x) (Text y) h = (equal_ties _ (sym (truth_is _) ∙ h), refl)
ties (Real x) (Blob y) h = (equal_ties _ (sym (truth_is _) ∙ h), refl)
ties (Text x) Null h = absurd cc
ties (Text x) (Int m) h = (equal_ties _ (sym (truth_is _) ∙ h), refl)
ties (Text x) (Real y) h = (equal_ties _ (sym (truth_is _) ∙ h), refl)
ties (Text x) (Text y) h = (equal_ties _ (sym (truth_is _) ∙ h), refl)
ties (Text x) (Blob y) h = (equal_ties _ (sym (truth_is _) ∙ h), refl)
ties (Blob x) Null h = absurd cc
ties (Blob x) (Int m) h = (equal_ties _ (sym (truth_is _) ∙ h), refl)
ties (Blob x) (Real y) h = (equal_ties _ (sym (truth_is _) ∙ h), refl)
ties (Blob x) (Text y) h = (equal_ties _ (sym (truth_is _) ∙ h), refl)
ties (Blob x) (Blob y) h = (equal_ties _ (sym (truth_is _) ∙ h), refl)

equal_from : (v w : Value) → is_null v ≡ false → is_null w ≡ false → value_cmp v w ≡ Equal → equal Binary v w ≡ true
unfolding binary
equal_from v w p q h = rw (p, q, h) refl

-- two values that equal a third
pub equal_both : (u v w : Value) → equal Binary u w ≡ true → equal Binary v w ≡ true → equal Binary v u ≡ true
equal_both u v w p q =
    let a = ties u w p in let b = ties v w q in
    equal_from v u b.1 a.1 (value_cmp_total.congr v w u b.0 ∙ value_cmp_total.antisymm w u ∙ ap ordering_reverse a.0)

agree_from : (places : List ℕ) (n : ℕ) (params a b : Row) → passes params (tests_from places n) a ≡ true → passes params (tests_from places n) b ≡ true → agree plain places b places a ≡ true
unfolding first_key
agree_from [] n params a b p q = refl
agree_from (at ∷ places) n params a b p q =
    let x = and_parts _ _ p in let y = and_parts _ _ q in
    ap₂ ◌&&◌ (equal_both (column a at) (column b at) (column params n) x.0 y.0) (agree_from places (n + 1) params a b x.1 y.1)

not_differ : (v w : Value) → is_int v ≡ true → is_int w ≡ true → differ v w ≡ false → value_cmp v w ≡ Equal
unfolding binary
not_differ (Int m) (Int n) p q h = tied (value_cmp (Int m) (Int n)) (sym (truth_is _) ∙ h)
  where
    tied : (o : Ordering) → is_ne o ≡ false → o ≡ Equal
    tied Less h = absurd cc
    tied Equal h = refl
    tied Greater h = absurd cc
not_differ v w p q h = absurd cc

-- at most one row passes
abbrev pub AtMostOne : (Row → Bool) → List Row → Type 0
AtMostOne p rows = (a b : Row) → Has rows a → Has rows b → p a ≡ true → p b ≡ true → value_cmp (rowid b) (rowid a) ≡ Equal

-- by the UNIQUE index of a PRIMARY KEY
pub one_by_key : (schema : Schema) (db : Trees) (table : Table) (places : List ℕ) (i : Index) → Has schema.indexes i → guards i table ≡ true → i.order ≡ plain → i.columns ≡ places
    → AllByRecursion (λ row. passes_rule Unique schema db table row ≡ true) (db table.tree) → IsRows (db table.tree) → (params : Row) → AtMostOne (passes params (tests_from places 0)) (db table.tree)
one_by_key schema db table places i there guarded ordered placed keeps kept params a b ha hb pa pb =
    let rows = db table.tree in
    let each = test_has (λ i. not (guards i table && clashes i.order i.columns rows a)) schema.indexes i (all_has (λ row. passes_rule Unique schema db table row ≡ true) rows a keeps ha) there in
    let alone : clashes plain places rows a ≡ false = rw (guarded, ordered, placed) at (not-true _ each) in
    let agreed = agree_from places 0 params a b pa pb in
    not_differ (rowid b) (rowid a) (all_has (λ r. IsTrue (is_int (rowid r))) rows b kept.1 hb) (all_has (λ r. IsTrue (is_int (rowid r))) rows a kept.1 ha)
    (false_from_ne_true _ (λ apart. true≢false (sym (some_from (λ other. agree plain places other places a && differ (rowid other) (rowid a)) rows b hb (rw (agreed, apart) refl)) ∙ alone)))

-- by the rowid
pub one_by_rowid : (rows : List Row) (params : Row) → AtMostOne (passes params (same 0 0 ∷ [])) rows
one_by_rowid rows params a b ha hb pa pb = (ties (rowid b) (rowid a) (equal_both (rowid a) (rowid b) (column params 0) (and_parts _ _ pa).0 (and_parts _ _ pb).0)).0

pub few : (p : Row → Bool) (rows : List Row) → IsTable rows → AtMostOne p rows → length (filter p rows) ≤ 1
few p rows up one = go (filter p rows) (λ x h. has_filtered p rows x h) (ascending-filter _ p rows up)
  where
    go : (found : List Row) → ((x : Row) → Has found x → Has rows x × (p x ≡ true)) → IsTable found → length found ≤ 1
    go [] in_rows rise = omega arith
    go (x ∷ []) in_rows rise = omega arith
    go (x ∷ y ∷ found) in_rows rise =
        let a = in_rows x (inl refl) in let b = in_rows y (inr (inl refl)) in
        absurd (let tie = one y x b.0 a.0 b.1 a.1 in let less = rise.0.0 in cc)

-- where a row that passes just went in, no other passes
pub none_had : (p : Row → Bool) (new : Row) (rows : List Row) → is_taken rows new ≡ false → p new ≡ true → AtMostOne p (put_row new rows) → ((r : Row) → Has rows r → Has (put_row new rows) r) → AllByRecursion (λ r. p r ≡ false) rows
none_had p new rows free passes one stays = all_from (λ r. p r ≡ false) rows (λ r h. false_from_ne_true (p r) (λ e.
    true≢false (sym (some_from (λ x. is_eq (value_cmp (rowid x) (rowid new))) rows r h (ap is_eq (one new r (has_put new rows) (stays r h) passes e))) ∙ free)))

-- ---- look-ups

-- what the look-up's test says of the rows with the key of a write: `hit` is whether it is that key
pub record Meets {X : Type 0} (own test : X → Bool) (hit : Bool) : Type 0 where
  pub same : (x : X) → own x ≡ true → test x ≡ hit
  pub apart : hit ≡ true → (x : X) → test x ≡ own x

-- the test finds equal only what is the same
abbrev pub IsSame : {K : Type 0} → (K → K → Bool) → Type 0
IsSame {K} eq = (a b : K) → eq a b ≡ true → a ≡ b

pub meets : {K X : Type 0} (eq : K → K → Bool) (key : X → K) → IsSame eq → (k wanted : K) → Meets (λ x. eq k (key x)) (λ x. eq wanted (key x)) (eq wanted k)
meets eq key decides k wanted = record {
  same = λ x h. ap (eq wanted) (sym (decides k (key x) h));
  apart = λ h x. ap (λ c. eq c (key x)) (decides wanted k h);
}

pub same_bytes : IsSame bytes_eq
same_bytes a b = (bytes_eq-Decides a b).0

pub same_both : {K L : Type 0} (eq : K → K → Bool) (eql : L → L → Bool) → IsSame eq → IsSame eql → IsSame {K = K × L} (λ a b. eq a.0 b.0 && eql a.1 b.1)
same_both eq eql p q a b h = let both = and_parts _ _ h in ap₂ (λ x y. let z : _ × _ = (x, y) in z) (p a.0 b.0 both.0) (q a.1 b.1 both.1)

pub itself_bytes : (a : List ℕ) → bytes_eq a a ≡ true
itself_bytes a = (bytes_eq-Decides a a).1 refl

pub itself_both : (x y : Bool) → x ≡ true → y ≡ true → (x && y) ≡ true
itself_both = and_from

module _ {X : Type 0} (is : Row → Bool) (read : Row → X) (p : Row → Bool) (own test : X → Bool) (hit : Bool) (m : Meets own test hit) (at_own : (r : Row) → is r ≡ true → p r ≡ own (read r)) where
  miss : (x : X) → hit ≡ false → own x ≡ true → test x ≡ false
  miss x h e = m.same x e ∙ h

  -- the rows that pass went out
  pub found_without : (rows : List Row) → find test (typed is read (filter (λ r. not (p r)) rows)) ≡ cond hit None (find test (typed is read rows))
  found_without [] = elim (cases_Bool hit) [ inl e ↦ rw e refl | inr e ↦ rw e refl ]
  found_without (r ∷ rows) = let more = found_without rows in elim (cases_Bool (is r)) [
    | inr f ↦ elim (cases_Bool (p r)) [ inl e ↦ rw (e, f) more | inr e ↦ rw (e, f) more ]
    | inl f ↦ elim (cases_Bool (p r)) [
      | inl e ↦ elim (cases_Bool hit) [
        | inl h ↦ rw (e, f, h) (rw h at more)
        | inr h ↦ rw (e, f, h, miss (read r) h (sym (at_own r f) ∙ e)) (rw h at more)
      ]
      | inr e ↦ elim (cases_Bool hit) [
        | inl h ↦ rw (e, f, h, m.apart h (read r) ∙ sym (at_own r f) ∙ e) (rw h at more)
        | inr h ↦ rw (e, f, h) (ap (λ o. cond (test (read r)) (Some (read r)) o) (rw h at more))
      ]
    ]
  ]

  module _ (s : X) (is_hit : test s ≡ hit) where
    -- a row that passes went in, where none passed
    pub found_put : (new : Row) (rows : List Row) → is new ≡ true → read new ≡ s → is_taken rows new ≡ false → AllByRecursion (λ r. p r ≡ false) rows
        → find test (typed is read (put_row new rows)) ≡ cond hit (Some s) (find test (typed is read rows))
    found_put new [] typed_new reads free none = rw (typed_new, reads, is_hit) refl
    found_put new (r ∷ rows) typed_new reads free none = go (value_cmp (rowid r) (rowid new)) refl (λ free_later. found_put new rows typed_new reads free_later none.1)
      where
        go : (o : Ordering) → value_cmp (rowid r) (rowid new) ≡ o
            → (is_taken rows new ≡ false → find test (typed is read (put_row new rows)) ≡ cond hit (Some s) (find test (typed is read rows)))
            → find test (typed is read (match_ordering o (r ∷ put_row new rows) (new ∷ rows) (new ∷ r ∷ rows))) ≡ cond hit (Some s) (find test (typed is read (r ∷ rows)))
        go Equal e later = absurd (true≢false (sym (rw e refl) ∙ free))
        go Greater e later = rw (typed_new, reads, is_hit) refl
        go Less e later =
            let more = later (rw e at free) in
            elim (cases_Bool (is r)) [
              | inr f ↦ rw f more
              | inl f ↦ elim (cases_Bool hit) [
                | inl h ↦ rw (f, h, m.apart h (read r) ∙ sym (at_own r f) ∙ none.0) (rw h at more)
                | inr h ↦ rw (f, h) (ap (λ o. cond (test (read r)) (Some (read r)) o) (rw h at more))
              ]
            ]

    -- the rows that pass became this one
    pub found_over : (values : Row) (rows : List Row) → AllByRecursion (λ r. IsTrue (is_int (rowid r))) rows → ((r : Row) → is_int (rowid r) ≡ true → p r ≡ true → (is (rowid r ∷ values) ≡ true) × (read (rowid r ∷ values) ≡ s)) → list_any p rows ≡ true
        → find test (typed is read (over p values rows)) ≡ cond hit (Some s) (find test (typed is read rows))
    found_over values rows keyed becomes some = elim (cases_Bool hit) [ inl h ↦ rw h (there rows keyed some h) | inr h ↦ rw h (elsewhere rows keyed h) ]
      where
        elsewhere : (rows : List Row) → AllByRecursion (λ r. IsTrue (is_int (rowid r))) rows → hit ≡ false → find test (typed is read (over p values rows)) ≡ find test (typed is read rows)
        elsewhere [] k h = refl
        elsewhere (r ∷ rows) k h = let more = elsewhere rows k.1 h in elim (cases_Bool (p r)) [
          | inl e ↦
              let it = becomes r k.0 e in
              elim (cases_Bool (is r)) [
                | inl f ↦ rw (e, it.0, it.1, is_hit ∙ h, f, miss (read r) h (sym (at_own r f) ∙ e)) more
                | inr f ↦ rw (e, it.0, it.1, is_hit ∙ h, f) more
              ]
          | inr e ↦ elim (cases_Bool (is r)) [
            | inl f ↦ rw (e, f) (ap (λ o. cond (test (read r)) (Some (read r)) o) more)
            | inr f ↦ rw (e, f) more
          ]
        ]

        there : (rows : List Row) → AllByRecursion (λ r. IsTrue (is_int (rowid r))) rows → list_any p rows ≡ true → hit ≡ true → find test (typed is read (over p values rows)) ≡ Some s
        there [] k some h = absurd (true≢false (sym some))
        there (r ∷ rows) k some h = elim (cases_Bool (p r)) [
          | inl e ↦ let it = becomes r k.0 e in rw (e, it.0, it.1, is_hit ∙ h) refl
          | inr e ↦ let more = there rows k.1 (rw e at some) h in elim (cases_Bool (is r)) [
            | inl f ↦ rw (e, f, m.apart h (read r) ∙ sym (at_own r f) ∙ e) more
            | inr f ↦ rw (e, f) more
          ]
        ]

-- ---- rows that were read

module _ {K X : Type 0} (eq : K → K → Bool) (key : X → K) (is_same : IsSame eq) (wanted : K → Bool) where
  found_wanted : (k : K) → wanted k ≡ true → (xs : List X) → find (λ x. eq k (key x)) (filter (λ x. wanted (key x)) xs) ≡ find (λ x. eq k (key x)) xs
  found_wanted k w [] = refl
  found_wanted k w (x ∷ xs) = let more = found_wanted k w xs in elim (cases_Bool (wanted (key x))) [
    | inl e ↦ rw e (ap (λ o. cond (eq k (key x)) (Some x) o) more)
    | inr e ↦
        let other : eq k (key x) ≡ false = false_from_ne_true _ (λ h. true≢false (sym w ∙ ap wanted (is_same k (key x) h) ∙ e)) in
        rw (e, other) more
  ]

  only_wanted : (xs : List X) → list_all (λ x. wanted (key x)) (filter (λ x. wanted (key x)) xs) ≡ true
  only_wanted [] = refl
  only_wanted (x ∷ xs) = let more = only_wanted xs in elim (cases_Bool (wanted (key x))) [ inl e ↦ rw (e, e) more | inr e ↦ rw e more ]

  module _ (is : Row → Bool) (read : Row → X) where
    -- typed rows with one key are one row
    abbrev pub AreApart : List Row → Type 0
    AreApart rows = (a b : Row) → Has rows a → Has rows b → is a ≡ true → is b ≡ true → eq (key (read a)) (key (read b)) ≡ true → value_cmp (rowid a) (rowid b) ≡ Equal

    pub once : (rows : List Row) → IsTable rows → AreApart rows → no_two (λ x y. eq (key x) (key y)) (filter (λ x. wanted (key x)) (typed is read rows)) ≡ true
    once [] up apart = refl
    once (r ∷ rows) up apart =
        let more = once rows up.1 (λ a b p q. apart a b (inr p) (inr q)) in
        elim (cases_Bool (is r)) [
          | inr f ↦ rw f more
          | inl f ↦ elim (cases_Bool (wanted (key (read r)))) [
            | inr e ↦ rw (f, e) more
            | inl e ↦ rw (f, e, none rows (λ b there. all_has (λ b. value_cmp (rowid r) (rowid b) ≡ Less) rows b up.0 there) (λ b there typed_b. apart r b (inl refl) (inr there) f typed_b), more) refl
          ]
        ]
      where
        none : (rest : List Row) → ((b : Row) → Has rest b → value_cmp (rowid r) (rowid b) ≡ Less)
            → ((b : Row) → Has rest b → is b ≡ true → eq (key (read r)) (key (read b)) ≡ true → value_cmp (rowid r) (rowid b) ≡ Equal)
            → list_any (λ y. eq (key (read r)) (key y)) (filter (λ x. wanted (key x)) (typed is read rest)) ≡ false
        none [] below tie = refl
        none (b ∷ rest) below tie =
            let later = none rest (λ c h. below c (inr h)) (λ c h. tie c (inr h)) in
            elim (cases_Bool (is b)) [
              | inr f ↦ rw f later
              | inl f ↦ elim (cases_Bool (wanted (key (read b)))) [
                | inr e ↦ rw (f, e) later
                | inl e ↦
                    let other : eq (key (read r)) (key (read b)) ≡ false =
                    false_from_ne_true _ (λ h. let less = below b (inl refl) in let equal = tie b (inl refl) f h in absurd cc) in
                    rw (f, e, other) later
              ]
            ]

    -- what a scan of the wanted rows gives
    pub are_rows : (rows : List Row) (xs : List X) → IsTable rows → AreApart rows → xs ≡ filter (λ x. wanted (key x)) (typed is read rows)
        → AreRows eq key wanted (λ k. find (λ x. eq k (key x)) (typed is read rows)) xs
    are_rows rows xs up apart is_filter = subst (AreRows eq key wanted (λ k. find (λ x. eq k (key x)) (typed is read rows))) (sym is_filter) (record {
      found = λ k w. found_wanted k w (typed is read rows);
      only = only_wanted (typed is read rows);
      once = once rows up apart;
    })

-- ---- rows that were read by a test of the row itself

module _ {K X : Type 0} (eq : K → K → Bool) (key : X → K) (is_same : IsSame eq) (test : X → Bool) where
  none_left : (p : X → Bool) (xs : List X) → list_any p xs ≡ false → list_any p (filter test xs) ≡ false
  none_left p [] none = refl
  none_left p (x ∷ xs) none = elim (cases_Bool (p x)) [
    | inl e ↦ absurd (true≢false (rw e at none))
    | inr e ↦
        let later = none_left p xs (rw e at none) in
        elim (cases_Bool (test x)) [ inl f ↦ rw (f, e) later | inr f ↦ rw f later ]
  ]

  none_found : (p : X → Bool) (xs : List X) → list_any p xs ≡ false → find p xs ≡ None
  none_found p [] none = refl
  none_found p (x ∷ xs) none = elim (cases_Bool (p x)) [
    | inl e ↦ absurd (true≢false (rw e at none))
    | inr e ↦ rw e (none_found p xs (rw e at none))
  ]

  once_left : (same : X → X → Bool) (xs : List X) → no_two same xs ≡ true → no_two same (filter test xs) ≡ true
  once_left same [] once_all = refl
  once_left same (x ∷ xs) once_all =
      let both = and_parts _ _ once_all in
      let later = once_left same xs both.1 in
      elim (cases_Bool (test x)) [
        | inl f ↦ rw f (and_from _ _ (ap not (none_left (same x) xs (not-true _ both.0))) later)
        | inr f ↦ rw f later
      ]

  -- where no key comes twice, the row with a key is found among those that pass if it passes
  found_left : (k : K) (xs : List X) → no_two (λ x y. eq (key x) (key y)) xs ≡ true → find (λ x. eq k (key x)) (filter test xs) ≡ only_if test (find (λ x. eq k (key x)) xs)
  found_left k [] once_all = refl
  found_left k (x ∷ xs) once_all =
      let both = and_parts _ _ once_all in
      let more = found_left k xs both.1 in
      elim (cases_Bool (eq k (key x))) [
        | inl e ↦
            let alone : list_any (λ y. eq k (key y)) xs ≡ false =
            subst (λ c. list_any (λ y. eq c (key y)) xs ≡ false) (sym (is_same k (key x) e)) (not-true _ both.0) in
            elim (cases_Bool (test x)) [
              | inl f ↦ rw (f, e, f) refl
              | inr f ↦ rw (f, e, f) (none_found (λ y. eq k (key y)) (filter test xs) (none_left (λ y. eq k (key y)) xs alone))
            ]
        | inr e ↦ elim (cases_Bool (test x)) [ inl f ↦ rw (f, e) more | inr f ↦ rw (f, e) more ]
      ]

  any_key : (xs : List X) → list_all (λ x. true) xs ≡ true
  any_key [] = refl
  any_key (x ∷ xs) = any_key xs

  all_stay : (xs : List X) → filter (λ x. true) xs ≡ xs
  all_stay [] = refl
  all_stay (x ∷ xs) = ap (λ l. x ∷ l) (all_stay xs)

  -- what a scan of the rows that pass gives
  pub are_rows_if : (is : Row → Bool) (read : Row → X) (rows : List Row) (xs : List X) → IsTable rows → AreApart eq key is_same (λ k. true) is read rows → xs ≡ filter test (typed is read rows)
      → AreRows eq key (λ k. true) (λ k. only_if test (find (λ x. eq k (key x)) (typed is read rows))) xs
  are_rows_if is read rows xs up apart is_filter =
      let once_all : no_two (λ x y. eq (key x) (key y)) (typed is read rows) ≡ true =
      subst (λ l. no_two (λ x y. eq (key x) (key y)) l ≡ true) (all_stay (typed is read rows)) (once eq key is_same (λ k. true) is read rows up apart) in
      subst (AreRows eq key (λ k. true) (λ k. only_if test (find (λ x. eq k (key x)) (typed is read rows)))) (sym is_filter) (record {
        found = λ k w. found_left k (typed is read rows) once_all;
        only = any_key (filter test (typed is read rows));
        once = once_left (λ x y. eq (key x) (key y)) (typed is read rows) once_all;
      })

-- of the rows with one key the first is the row there
pub first_row : {K X : Type 0} (eq : K → K → Bool) (key : X → K) (k : K) (row : K → Option X) (xs : List X) → eq k k ≡ true → AreRows eq key (λ c. eq k c) row xs → slice_get xs 0 ≡ row k
first_row eq key k row [] itself are = are.found k itself
first_row eq key k row (x ∷ xs) itself are =
    let own : eq k (key x) ≡ true = (and_parts _ _ are.only).0 in
    rw own at (are.found k itself)
