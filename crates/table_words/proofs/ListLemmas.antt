-- What takes rows out of a table and puts one in, as functions of lists.
use Rattle.table_words.proofs.Words.{◌≡◌, ◌≤◌, ◌<◌, length, get_or, inl, inr, ℤ, pos, ◌+ℤ◌, ◌<ℤ◌, Bool, true, false, not, cond, ◌||◌, List, [], ◌∷◌, ◌++◌, map, filter, fold, refl, sym, ap, subst, ◌∙◌, arith, Ordering, Less, Equal, Greater, is_eq, int_cmp, IsTrue, IsPermutation, cases_Bool, false_from_ne_true, nat_tests, ints, tied_itself, list_any-IsPermutation, AllByRecursion, list_any, Int, Row, value_cmp, value_cmp_total, value_cmp-Int, rowid, IsTable, has_rowid, put_row, without_rowid, is_int, Has, id_in, next_rowid, without_all, is_taken, ids_of, all_has, all_from, some_has, some_from, has_filtered, has_kept, int_is, put_has, put_all_keeps, IsTable-put_row, tied_same, ascending-filter, all-filter, ascending-map, ascending_weaker, all_map, all_weaker, IsRows, ap₂, IsPermutation-sym, Contains-permutation, has_contained, contains_had, put_all, put_all_has, put_all_adds, are_fresh, not-true}

pub filter_same_on : {X : Type 0} (p q : X → Bool) (xs : List X) → ((x : X) → Has xs x → p x ≡ q x) → filter p xs ≡ filter q xs
filter_same_on p q [] same = refl
filter_same_on p q (x ∷ xs) same = let more = filter_same_on p q xs (λ y h. same y (inr h)) in elim (cases_Bool (p x)) [
  | inl e ↦ rw (e, sym (same x (inl refl)) ∙ e) (ap (λ l. x ∷ l) more)
  | inr e ↦ rw (e, sym (same x (inl refl)) ∙ e) more
]

-- ---- rows go out

abbrev is_among : List ℤ → Row → Bool
is_among ids r = list_any (λ id. has_rowid id r) ids

all_stay : (rows : List Row) → rows ≡ filter (λ r. true) rows
all_stay [] = refl
all_stay (r ∷ rows) = ap (λ l. r ∷ l) (all_stay rows)

one_more : (id : ℤ) (ids : List ℤ) (rows : List Row) → filter (λ r. not (is_among ids r)) (without_rowid id rows) ≡ filter (λ r. not (is_among (id ∷ ids) r)) rows
one_more id ids [] = refl
one_more id ids (r ∷ rows) = let more = one_more id ids rows in elim (cases_Bool (has_rowid id r)) [
  | inl e ↦ rw e more
  | inr e ↦ elim (cases_Bool (is_among ids r)) [ inl f ↦ rw (e, f) more | inr f ↦ rw (e, f) (ap (λ l. r ∷ l) more) ]
]

without_is : (ids : List ℤ) (rows : List Row) → without_all rows ids ≡ filter (λ r. not (is_among ids r)) rows
without_is [] rows = all_stay rows
without_is (id ∷ ids) rows = without_is ids (without_rowid id rows) ∙ one_more id ids rows

is_mapped : {X Y : Type 0} (p : Y → Bool) (f : X → Y) (xs : List X) → list_any p (map f xs) ≡ list_any (λ x. p (f x)) xs
is_mapped p f [] = refl
is_mapped p f (x ∷ xs) = ap (λ b. p (f x) || b) (is_mapped p f xs)

equal_is : (o : Ordering) → is_eq o ≡ true → o ≡ Equal
equal_is Less h = absurd (cc)
equal_is Equal h = refl
equal_is Greater h = absurd (cc)

own_rowid : (r : Row) → IsTrue (is_int (rowid r)) → has_rowid (id_in (rowid r)) r ≡ true
own_rowid r keyed = ap (λ v. is_eq (value_cmp (rowid r) v)) (sym (int_is (rowid r) keyed)) ∙ ap is_eq (tied_itself value_cmp_total (rowid r))

-- the rowids of the rows that pass are those of no other row
taken_if : (p : Row → Bool) (rows : List Row) → IsRows rows → (r : Row) → Has rows r → list_any (λ x. has_rowid (id_in (rowid x)) r) (filter p rows) ≡ p r
taken_if p rows kept r h = elim (cases_Bool (p r)) [
  | inl passes ↦ some_from (λ y. has_rowid (id_in (rowid y)) r) (filter p rows) r (has_kept p rows r h passes) (own_rowid r (all_has _ rows r kept.1 h)) ∙ sym passes
  | inr fails ↦ false_from_ne_true _ (λ among.
      let x = some_has (λ y. has_rowid (id_in (rowid y)) r) (filter p rows) among in
      let there = has_filtered p rows x.0 x.1 in
      let tie : value_cmp (rowid r) (rowid x.0) ≡ Equal = subst (λ v. value_cmp (rowid r) v ≡ Equal) (sym (int_is (rowid x.0) (all_has _ rows x.0 kept.1 there.0))) (equal_is _ x.2) in
      let same : r ≡ x.0 = tied_same rows r x.0 kept.0 h there.0 tie in
      let e : p r ≡ true = ap p same ∙ there.1 in cc) ∙ sym fails
]

-- the rows that pass go out, and no other
pub gone_is : (p : Row → Bool) (more : Row → Row) (rows found : List Row) → IsRows rows → IsPermutation (map (λ r. rowid r ∷ more r) (filter p rows)) found → without_all rows (ids_of found) ≡ filter (λ r. not (p r)) rows
gone_is p more rows found kept same = without_is (ids_of found) rows ∙ filter_same_on _ _ rows (λ r h. ap not
    (is_mapped (λ id. has_rowid id r) (λ x. id_in (rowid x)) found
    ∙ (sym (list_any-IsPermutation (λ x. has_rowid (id_in (rowid x)) r) _ found same)
    ∙ (is_mapped (λ x. has_rowid (id_in (rowid x)) r) (λ r. rowid r ∷ more r) (filter p rows)
    ∙ taken_if p rows kept r h))))

pub IsRows-filter : (p : Row → Bool) (rows : List Row) → IsRows rows → IsRows (filter p rows)
IsRows-filter p rows kept = (ascending-filter _ p rows kept.0, all-filter _ p rows kept.1)

-- ---- a row goes in

abbrev step_rowid : ℤ → Row → ℤ
step_rowid n r = id_in (rowid r) +ℤ pos 1

lower_than : (a b c : ℤ) → int_cmp a b ≡ Less → b <ℤ c → a <ℤ c
lower_than a b c p q = grind (arith, ints, nat_tests)

below_next : (x : Row) (rows : List Row) → IsTable (x ∷ rows) → AllByRecursion (λ r. IsTrue (is_int (rowid r))) (x ∷ rows)
    → AllByRecursion (λ r. id_in (rowid r) <ℤ fold step_rowid (step_rowid (pos 1) x) rows) (x ∷ rows)
below_next x [] up keyed = (omega (arith, ints), tt)
below_next x (y ∷ rows) up keyed =
    let later = below_next y rows up.1 keyed.1 in
    let lower = rw (int_is (rowid x) keyed.0, int_is (rowid y) keyed.1.0, value_cmp-Int (id_in (rowid x)) (id_in (rowid y))) at up.0.0 in
    (lower_than (id_in (rowid x)) (id_in (rowid y)) _ lower later.0, later)

less_is : (a b : ℤ) → a <ℤ b → int_cmp a b ≡ Less
less_is a b h = grind (arith, ints, nat_tests)

all_below : (rows : List Row) → IsRows rows → AllByRecursion (λ r. value_cmp (rowid r) (Int (next_rowid rows)) ≡ Less) rows
all_below [] kept = tt
all_below (x ∷ rows) kept = all_from _ (x ∷ rows) (λ r h.
    let lower = all_has _ (x ∷ rows) r (below_next x rows kept.0 kept.1) h in
    rw (int_is (rowid r) (all_has _ (x ∷ rows) r kept.1 h), value_cmp-Int (id_in (rowid r)) (next_rowid (x ∷ rows))) (less_is _ _ lower))

put_last : (new : Row) (rows : List Row) → AllByRecursion (λ r. value_cmp (rowid r) (rowid new) ≡ Less) rows → put_row new rows ≡ rows ++ new ∷ []
put_last new [] below = refl
put_last new (r ∷ rows) below = rw below.0 (ap (λ l. r ∷ l) (put_last new rows below.1))

-- a row with the next rowid goes to the end
pub put_is : (rows : List Row) (values : Row) → IsRows rows → put_row (Int (next_rowid rows) ∷ values) rows ≡ rows ++ (Int (next_rowid rows) ∷ values) ∷ []
put_is rows values kept = put_last (Int (next_rowid rows) ∷ values) rows (all_below rows kept)

pub only_is : {X : Type 0} (xs : List X) (x : X) → 1 ≤ length xs → length xs < 2 → x ≡ get_or xs 0 x → xs ≡ x ∷ []
only_is [] x low high is = absurd (omega arith)
only_is (y ∷ []) x low high is = ap (λ z. z ∷ []) (sym is)
only_is (y ∷ z ∷ xs) x low high is = absurd (omega arith)

-- ---- a row is written again

pub none_pass : {X : Type 0} (p : X → Bool) (xs : List X) → filter p xs ≡ [] → AllByRecursion (λ x. p x ≡ false) xs
none_pass p [] e = tt
none_pass p (x ∷ xs) e = elim (cases_Bool (p x)) [
  | inl h ↦ absurd (let k = rw h at e in cc)
  | inr h ↦ (h, none_pass p xs (rw h at e))
]

-- each row that passes has columns of its own from now on
abbrev pub rewritten : (Row → Bool) → (Row → Row) → List Row → List Row
rewritten p columns = map (λ r. cond (p r) (rowid r ∷ columns r) r)

-- or the same ones
abbrev pub over : (Row → Bool) → Row → List Row → List Row
over p values = rewritten p (λ r. values)

pub none_over : (p : Row → Bool) (values : Row) (rows : List Row) → AllByRecursion (λ r. p r ≡ false) rows → over p values rows ≡ rows
none_over p values [] h = refl
none_over p values (r ∷ rows) h = rw h.0 (ap (λ l. r ∷ l) (none_over p values rows h.1))

has_mapped : {X Y : Type 0} (f : X → Y) (xs : List X) (y : Y) → Has (map f xs) y → (x : X) × Has xs x × (y ≡ f x)
has_mapped f [] y h = absurd h
has_mapped f (x ∷ xs) y (inl e) = (x, inl refl, e)
has_mapped f (x ∷ xs) y (inr h) = let r = has_mapped f xs y h in (r.0, inr r.1, r.2)

mapped_has : {X Y : Type 0} (f : X → Y) (xs : List X) (x : X) → Has xs x → Has (map f xs) (f x)
mapped_has f [] x h = absurd h
mapped_has f (y ∷ xs) x (inl e) = inl (ap f e)
mapped_has f (y ∷ xs) x (inr h) = inr (mapped_has f xs x h)

pub map_same_on : {X Y : Type 0} (f g : X → Y) (xs : List X) → ((x : X) → Has xs x → f x ≡ g x) → map f xs ≡ map g xs
map_same_on f g [] same = refl
map_same_on f g (x ∷ xs) same = ap₂ ◌∷◌ (same x (inl refl)) (map_same_on f g xs (λ y h. same y (inr h)))

-- two tables with the same rows are one
same_rows : (xs ys : List Row) → IsTable xs → IsTable ys → ((r : Row) → Has xs r → Has ys r) → ((r : Row) → Has ys r → Has xs r) → xs ≡ ys
same_rows [] [] up up_too to from = refl
same_rows [] (y ∷ ys) up up_too to from = absurd (from y (inl refl))
same_rows (x ∷ xs) [] up up_too to from = absurd (to x (inl refl))
same_rows (x ∷ xs) (y ∷ ys) up up_too to from =
    let same : x ≡ y = one (to x (inl refl)) (from y (inl refl)) in
    ap₂ ◌∷◌ same (same_rows xs ys up.1 up_too.1 (λ r h. later x xs y ys up.0 same r h (to r (inr h))) (λ r h. later y ys x xs up_too.0 (sym same) r h (from r (inr h))))
  where
    one : Has (y ∷ ys) x → Has (x ∷ xs) y → x ≡ y
    one (inl same) other = same
    one (inr there) (inl same) = sym same
    one (inr there) (inr here) =
        let low = all_has (λ z. value_cmp (rowid x) (rowid z) ≡ Less) xs y up.0 here in
        let high = all_has (λ z. value_cmp (rowid y) (rowid z) ≡ Less) ys x up_too.0 there in
        absurd (let turned = rw low at (value_cmp_total.antisymm (rowid y) (rowid x)) in cc)

    later : (a : Row) (more : List Row) (b : Row) (others : List Row) → AllByRecursion (λ z. value_cmp (rowid a) (rowid z) ≡ Less) more → a ≡ b → (r : Row) → Has more r → Has (b ∷ others) r → Has others r
    later a more b others low same r h (inl e) = absurd (
        let less = all_has (λ z. value_cmp (rowid a) (rowid z) ≡ Less) more r low h in
        let tie = tied_itself value_cmp_total (rowid a) in
        let less_itself : value_cmp (rowid a) (rowid a) ≡ Less = subst (λ z. value_cmp (rowid a) (rowid z) ≡ Less) (e ∙ sym same) less in cc)
    later a more b others low same r h (inr there) = there

has_shuffled : {X : Type 0} (xs ys : List X) (x : X) → IsPermutation xs ys → Has xs x → Has ys x
has_shuffled xs ys x same h = has_contained ys x (Contains-permutation xs ys x same (contains_had xs x h))

rowid_kept : (p : Row → Bool) (columns : Row → Row) (r : Row) → rowid (cond (p r) (rowid r ∷ columns r) r) ≡ rowid r
rowid_kept p columns r = elim (cases_Bool (p r)) [ inl e ↦ rw e refl | inr e ↦ rw e refl ]

pub IsRows-rewritten : (p : Row → Bool) (columns : Row → Row) (rows : List Row) → IsRows rows → IsRows (rewritten p columns rows)
IsRows-rewritten p columns rows kept =
    let f = λ (r : Row). cond (p r) (rowid r ∷ columns r) r in (
      ascending-map (λ a b. value_cmp (rowid a) (rowid b) ≡ Less) f rows (ascending_weaker _ (λ a b. value_cmp (rowid (f a)) (rowid (f b)) ≡ Less) (λ a b h. rw (rowid_kept p columns a, rowid_kept p columns b) h) rows kept.0),
      all_map (λ r. IsTrue (is_int (rowid r))) f rows (all_weaker _ (λ r. IsTrue (is_int (rowid (f r)))) (λ r h. rw (rowid_kept p columns r) h) rows kept.1),
    )

put_all_table : (news rows : List Row) → IsTable rows → IsTable (put_all rows news)
put_all_table [] rows up = up
put_all_table (n ∷ news) rows up = put_all_table news (put_row n rows) (IsTable-put_row n rows up)

-- rows go back to their places, in whatever order
pub put_back : (p : Row → Bool) (columns : Row → Row) (rows news : List Row) → IsRows rows → IsPermutation (map (λ r. rowid r ∷ columns r) (filter p rows)) news → are_fresh (filter (λ r. not (p r)) rows) news ≡ true
    → put_all (filter (λ r. not (p r)) rows) news ≡ rewritten p columns rows
put_back p columns rows news kept same fresh = same_rows (put_all left news) (rewritten p columns rows) (put_all_table news left (ascending-filter _ (λ r. not (p r)) rows kept.0)) (IsRows-rewritten p columns rows kept).0 to from
  where
    left : List Row
    left = filter (λ r. not (p r)) rows

    again : Row → Row
    again r = rowid r ∷ columns r

    to : (r : Row) → Has (put_all left news) r → Has (rewritten p columns rows) r
    to r h = elim (put_all_has news left r h) [
      | inl new ↦
          let old = has_mapped again (filter p rows) r (has_shuffled news _ r (IsPermutation-sym _ news same) new) in
          let there = has_filtered p rows old.0 old.1 in
          subst (Has (rewritten p columns rows)) (rw there.1 (sym old.2)) (mapped_has (λ r. cond (p r) (again r) r) rows old.0 there.0)
      | inr stays ↦
          let there = has_filtered (λ r. not (p r)) rows r stays in
          subst (Has (rewritten p columns rows)) (rw (not-true (p r) there.1) refl) (mapped_has (λ r. cond (p r) (again r) r) rows r there.0)
    ]

    from : (r : Row) → Has (rewritten p columns rows) r → Has (put_all left news) r
    from r h =
        let old = has_mapped (λ r. cond (p r) (again r) r) rows r h in
        elim (cases_Bool (p old.0)) [
          | inl e ↦
              let is : r ≡ again old.0 = rw e at old.2 in
              subst (Has (put_all left news)) (sym is) (put_all_adds news left (again old.0) fresh (has_shuffled _ news (again old.0) same (mapped_has again (filter p rows) old.0 (has_kept p rows old.0 old.1 e))))
          | inr e ↦
              let is : r ≡ old.0 = rw e at old.2 in
              subst (Has (put_all left news)) (sym is) (put_all_keeps news left old.0 fresh (has_kept (λ r. not (p r)) rows old.0 old.1 (ap not e)))
        ]

pub IsRows-put_row : (new : Row) (rows : List Row) → IsTrue (is_int (rowid new)) → IsRows rows → IsRows (put_row new rows)
IsRows-put_row new rows keyed kept = (
  IsTable-put_row new rows kept.0,
  all_from (λ r. IsTrue (is_int (rowid r))) (put_row new rows) (λ r h. elim (put_has new rows r h) [
    | inl e ↦ subst (λ x. IsTrue (is_int (rowid x))) (sym e) keyed
    | inr there ↦ all_has (λ r. IsTrue (is_int (rowid r))) rows r kept.1 there
  ]),
)

pub all_put_row : (P : Row → Type 0) (new : Row) (rows : List Row) → P new → AllByRecursion P rows → AllByRecursion P (put_row new rows)
all_put_row P new rows h all = all_from P (put_row new rows) (λ r there. elim (put_has new rows r there) [ inl e ↦ subst P (sym e) h | inr old ↦ all_has P rows r all old ])

pub any_counted : (p : Row → Bool) (rows : List Row) → (length (filter p rows) ≡ 0 → ⊥) → list_any p rows ≡ true
any_counted p [] h = absurd (h refl)
any_counted p (r ∷ rows) h = elim (cases_Bool (p r)) [ inl e ↦ rw e refl | inr e ↦ rw e (any_counted p rows (rw e at h)) ]

none_in : {X : Type 0} (xs : List X) → length xs ≡ 0 → xs ≡ []
none_in [] e = refl
none_in (x ∷ xs) e = absurd (omega arith)

pub none_counted_pass : (p : Row → Bool) (rows : List Row) → length (filter p rows) ≡ 0 → AllByRecursion (λ r. p r ≡ false) rows
none_counted_pass p rows e = none_pass p rows (none_in (filter p rows) e)

pub stays_put : (new : Row) (rows : List Row) → is_taken rows new ≡ false → (r : Row) → Has rows r → Has (put_row new rows) r
stays_put new rows free r h = put_all_keeps (new ∷ []) rows r (rw free refl) h
