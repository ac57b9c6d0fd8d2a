-- The rows of the order named, and of the open orders that have a line of an item, are those of a slice.
use Rattle.slices.proofs.Words.{◌≡◌, ℕ, Bool, true, false, ◌&&◌, not, List, [], ◌∷◌, ◌++◌, refl, ap, sym, subst, ◌∙◌, ◌||◌, if◌then◌else◌, find, Option, Some, None, is_some, list_any, same_text, Tables, OrderRow, LineRow, Entries, orders_at, are_apart, apart_kept, OrderKey, same_order, order_key, LineKey, same_line, line_key, AreRows, AreOwn, no_two, and_both, and_false, same_text_is, same_text_refl, is_among, with_names, listed, other_names, has_line_in, is_open_in, Covers, AreLinesOfItem, AreLinesOfItems, AreOrders, AreKnownOrders, Each}
use Rattle.table_words.specs.Found as read
use Rattle.slices.proofs.KeysTold.{same_line_is, same_line_refl}
use Rattle.slices.proofs.RowsTold.{and_true, or_true, rows_read, rows_joined, rows_as, any_read, one_read}
use Rattle.slices.proofs.SeekSteps.{each_read}
use Rattle.slices.proofs.SliceTold.{sought, among_names, once_names}

pub any_more : {X : Type 0} (p q : X → Bool) (xs : List X) → ((x : X) → p x ≡ true → q x ≡ true) → list_any p xs ≡ true → list_any q xs ≡ true
any_more p q [] more e = e
any_more p q (x ∷ xs) more e =
    elim (p x) as (λ b. p x ≡ b → b || list_any p xs ≡ true → q x || list_any q xs ≡ true) [
      | true ↦ λ f _. ap (λ b. b || list_any q xs) (more x f)
      | false ↦ λ f rest. ap (λ b. q x || b) (any_more p q xs more rest) ∙ or_true (q x)
    ] refl e

-- one of those that pass, with its place among the texts
pub some_passes : (p : List ℕ → Bool) (xs : List (List ℕ)) (P : Type 0) → ((x : List ℕ) → is_among xs x ≡ true → p x ≡ true → P) → list_any p xs ≡ true → P
some_passes p [] P f e = absurd (let none : false ≡ true = e in cc)
some_passes p (x ∷ xs) P f e =
    elim (p x) as (λ b. p x ≡ b → b || list_any p xs ≡ true → P) [
      | true ↦ λ t _. f x (ap (λ b. b || is_among xs x) (same_text_refl x)) t
      | false ↦ λ _ rest. some_passes p xs P (λ y there. f y (ap (λ b. same_text y x || b) there ∙ or_true (same_text y x))) rest
    ] refl e

-- a key of which the table has no row is not found among rows of the table
pub not_found : {K R : Type 0} (same : K → K → Bool) (key : R → K) → ((k m : K) → same k m ≡ true → k ≡ m) → (allowed : K → Bool) (row : K → Option R) (rows : List R) → AreOwn key allowed row rows → (k : K) → row k ≡ None → find (λ r. same k (key r)) rows ≡ None
not_found same key is allowed row [] h k e = refl
not_found {R = R} same key is allowed row (r ∷ rows) h k e =
    elim (same k (key r)) as (λ b. same k (key r) ≡ b → (if b then Some r else find (λ s. same k (key s)) rows) ≡ None) [
      | true ↦ λ f. absurd (let there : ◌≡◌ {A = Option R} (Some r) None = sym h.1 ∙ ap row (sym (is k (key r) f)) ∙ e in cc)
      | false ↦ λ f. not_found same key is allowed row rows h.2 k e
    ] refl

-- the names that are not named

pub among_others : (named names : List (List ℕ)) (o : List ℕ) → is_among (other_names named names) o ≡ is_among names o && not (is_among named o)
among_others named [] o = refl
among_others named (n ∷ names) o =
    elim (same_text o n) as (λ b. same_text o n ≡ b → is_among (other_names named (n ∷ names)) o ≡ (b || is_among names o) && not (is_among named o)) [
      | true ↦ λ e. here (is_among named n) refl e (among_others named names o)
      | false ↦ λ e. there (is_among named n) e (among_others named names o)
    ] refl
  where
    here : (b : Bool) → is_among named n ≡ b → same_text o n ≡ true → is_among (other_names named names) o ≡ is_among names o && not (is_among named o)
        → is_among (if not b then n ∷ other_names named names else other_names named names) o ≡ not (is_among named o)
    here true f e rest =
        let known : is_among named o ≡ true = ap (is_among named) (same_text_is o n e) ∙ f in
        rest ∙ ap (λ b. is_among names o && not b) known ∙ and_false (is_among names o) ∙ sym (ap not known)
    here false f e rest = ap (λ b. b || is_among (other_names named names) o) e ∙ sym (ap not (ap (is_among named) (same_text_is o n e) ∙ f))

    there : (b : Bool) → same_text o n ≡ false → is_among (other_names named names) o ≡ is_among names o && not (is_among named o)
        → is_among (if not b then n ∷ other_names named names else other_names named names) o ≡ is_among names o && not (is_among named o)
    there true e rest = rest
    there false e rest = ap (λ b. b || is_among (other_names named names) o) e ∙ rest

apart_once : (names : List (List ℕ)) → are_apart names ≡ no_two same_text names
apart_once [] = refl
apart_once (n ∷ names) = ap (λ b. not (is_among names n) && b) (apart_once names)

-- whether the order has a line of one of the items
abbrev pub has_line_of : List (List ℕ) → Tables → List ℕ → Bool
has_line_of gtins t o = list_any (λ g. is_some (t.line o g)) gtins

module _ (known : Entries) (named gtins : List (List ℕ)) (t : Tables) (covers : Covers known t) (keyed : (o g : List ℕ) (r : LineRow) → t.line o g ≡ Some r → same_line (o, g) (line_key r) ≡ true) (named_once : no_two same_text named ≡ true) (gtins_once : no_two same_text gtins ≡ true) where
  -- the orders whose line of an item is read
  abbrev orders_sought : List ℕ → List (List ℕ)
  orders_sought g = other_names named (orders_at known g)

  module _ (lines : List LineRow) (orders : List OrderRow) (lines_read : AreLinesOfItems known named gtins t lines) (orders_read : AreOrders (with_names (λ (r : LineRow). r.order) lines []) t orders) where
    abbrev wants_line : LineKey → Bool
    wants_line k = is_among (orders_sought k.1) k.0 && is_among gtins k.1

    lines_for : (g : List ℕ) (found : List LineRow) → AreLinesOfItem known named t g found → read.AreRows {K = LineKey} same_line line_key (λ k. same_text g k.1 && is_among (orders_sought g) k.0) (λ k. t.line k.0 k.1) found
    lines_for g found are =
        each_read {K = LineKey} same_line line_key same_line_is same_line_refl (λ k. same_text g k.1) (λ k. k.0) (λ k. t.line k.0 k.1) (orders_sought g) found
        (sym (apart_once (orders_sought g)) ∙ apart_kept (λ o. not (is_among named o)) (orders_at known g) are.once)
        (mapped (orders_sought g) found are.lines)
      where
        swapped : (a b : Bool) → a && b ≡ b && a
        swapped true true = refl
        swapped true false = refl
        swapped false true = refl
        swapped false false = refl

        mapped : (os : List (List ℕ)) (rows : List LineRow) → Each (λ o part. part ≡ listed (t.line o g)) os rows → Each (λ o part. read.AreRows {K = LineKey} same_line line_key (λ k. same_text g k.1 && same_text o k.0) (λ k. t.line k.0 k.1) part) os rows
        mapped [] rows e = e
        mapped (o ∷ os) rows (xs, ys, p, more, e) = (
          xs,
          ys,
          subst (λ (w : LineKey → Bool). read.AreRows {K = LineKey} same_line line_key w (λ k. t.line k.0 k.1) xs) (λ i k. swapped (same_text o k.0) (same_text g k.1) i)
              (subst (λ (l : List LineRow). read.AreRows {K = LineKey} same_line line_key (λ k. same_text o k.0 && same_text g k.1) (λ k. t.line k.0 k.1) l) (sym p) (one_read {K = LineKey} same_line line_key same_line_is same_line_refl (λ k. t.line k.0 k.1) (o, g) (t.line o g) refl (λ r h. keyed o g r h))),
          mapped os ys more,
          e,
        )

    lines_rows : AreRows {K = LineKey} same_line line_key wants_line wants_line (λ k. t.line k.0 k.1) lines
    lines_rows =
        rows_read {K = LineKey} same_line line_key same_line_is same_line_refl wants_line (λ k. t.line k.0 k.1) lines
        (each_read {K = LineKey} same_line line_key same_line_is same_line_refl (λ k. is_among (orders_sought k.1) k.0) (λ k. k.1) (λ k. t.line k.0 k.1) gtins lines gtins_once
        (mapped gtins lines lines_read))
      where
        of_item : (g : List ℕ) (k : LineKey) (b : Bool) → same_text g k.1 ≡ b → b && is_among (orders_sought g) k.0 ≡ is_among (orders_sought k.1) k.0 && b
        of_item g k true e = ap (λ (x : List ℕ). is_among (orders_sought x) k.0) (same_text_is g k.1 e) ∙ every (is_among (orders_sought k.1) k.0)
          where
            every : (a : Bool) → a ≡ a && true
            every true = refl
            every false = refl
        of_item g k false e = sym (and_false (is_among (orders_sought k.1) k.0))

        mapped : (gs : List (List ℕ)) (rows : List LineRow) → Each (λ g part. AreLinesOfItem known named t g part) gs rows → Each (λ g part. read.AreRows {K = LineKey} same_line line_key (λ k. is_among (orders_sought k.1) k.0 && same_text g k.1) (λ k. t.line k.0 k.1) part) gs rows
        mapped [] rows e = e
        mapped (g ∷ gs) rows (xs, ys, p, more, e) =
            (xs, ys, subst (λ (w : LineKey → Bool). read.AreRows {K = LineKey} same_line line_key w (λ k. t.line k.0 k.1) xs) (λ i k. of_item g k (same_text g k.1) refl i) (lines_for g xs p), mapped gs ys more, e)

    -- a line of an order that is open and not named is read
    wanted : (o g : List ℕ) → is_open_in t o ≡ true → is_among named o ≡ false → is_among gtins g ≡ true → is_some (t.line o g) ≡ true → wants_line (o, g) ≡ true
    wanted o g up other there is =
        and_true _ _ (among_others named (orders_at known g) o ∙ and_true _ _ (covers o g up is) (ap not other)) there

    not_named : (o g : List ℕ) → wants_line (o, g) ≡ true → is_among named o ≡ false
    not_named o g e = unless (is_among named o) (and_both (is_among (orders_at known g) o) (not (is_among named o)) (sym (among_others named (orders_at known g) o) ∙ (and_both (is_among (orders_sought g) o) (is_among gtins g) e).0)).1
      where
        unless : (b : Bool) → not b ≡ true → b ≡ false
        unless true f = let none : false ≡ true = f in cc
        unless false f = refl

    abbrev needs_line : LineKey → Bool
    needs_line k = (is_open_in t k.0 && not (is_among named k.0)) && is_among gtins k.1

    pub rest_lines : AreRows {K = LineKey} same_line line_key needs_line wants_line (λ k. t.line k.0 k.1) lines
    rest_lines = record { found = λ k e. by_row k e (t.line k.0 k.1) refl; own = lines_rows.own; once = lines_rows.once }
      where
        unless : (b : Bool) → not b ≡ true → b ≡ false
        unless true f = let none : false ≡ true = f in cc
        unless false f = refl

        by_row : (k : LineKey) → needs_line k ≡ true → (x : Option LineRow) → t.line k.0 k.1 ≡ x → find (λ r. same_line k (line_key r)) lines ≡ t.line k.0 k.1
        by_row k e None is = not_found {K = LineKey} same_line line_key same_line_is wants_line (λ m. t.line m.0 m.1) lines lines_rows.own k is ∙ sym is
        by_row k e (Some r) is =
            let two = and_both (is_open_in t k.0 && not (is_among named k.0)) (is_among gtins k.1) e in
            let first = and_both (is_open_in t k.0) (not (is_among named k.0)) two.0 in
            lines_rows.found k (wanted k.0 k.1 first.0 (unless (is_among named k.0) first.1) two.1 (ap is_some is))

    -- an order is read if it is open, is not named and has a line of an item, and only if it has one and is not named
    line_kept : (o : List ℕ) → is_open_in t o ≡ true → is_among named o ≡ false → has_line_of gtins t o ≡ true → has_line_in lines o ≡ true
    line_kept o up other f =
        some_passes (λ g. is_some (t.line o g)) gtins (has_line_in lines o ≡ true) (λ g there is.
        any_more (λ r. same_line (o, g) (line_key r)) (λ r. same_text o r.order) lines (λ r both. (and_both (same_text o r.order) (same_text g r.gtin) both).0)
        (any_read {K = LineKey} same_line line_key same_line_is same_line_refl wants_line wants_line (λ k. t.line k.0 k.1) lines lines_rows (o, g) (wanted o g up other there is) ∙ is)) f

    kept_line : (o : List ℕ) → has_line_in lines o ≡ true → (is_among named o ≡ false) × (has_line_of gtins t o ≡ true)
    kept_line o e = go lines lines_rows.own e
      where
        go : (rows : List LineRow) → AreOwn {K = LineKey} line_key wants_line (λ k. t.line k.0 k.1) rows → has_line_in rows o ≡ true → (is_among named o ≡ false) × (has_line_of gtins t o ≡ true)
        go [] h f = absurd (let none : false ≡ true = f in cc)
        go (r ∷ rows) h f =
            elim (same_text o r.order) as (λ b. same_text o r.order ≡ b → b || has_line_in rows o ≡ true → (is_among named o ≡ false) × (has_line_of gtins t o ≡ true)) [
              | true ↦ λ same _.
                  let is : o ≡ r.order = same_text_is o r.order same in (
                    ap (is_among named) is ∙ not_named r.order r.gtin h.0,
                    any_more (same_text r.gtin) (λ g. is_some (t.line o g)) gtins
                        (λ g g_is. subst (λ (x : List ℕ). is_some (t.line o x) ≡ true) (same_text_is r.gtin g g_is) (subst (λ (x : List ℕ). is_some (t.line x r.gtin) ≡ true) (sym is) (ap is_some h.1)))
                        (and_both (is_among (orders_sought r.gtin) r.order) (is_among gtins r.gtin) h.0).1,
                  )
              | false ↦ λ _ more. go rows h.2 more
            ] refl f

    pub rest_orders : AreRows {K = OrderKey} same_order order_key (has_line_in lines) (has_line_in lines) t.order orders
    rest_orders =
        sought {K = OrderKey} same_order order_key same_text_is same_text_refl (λ o. o) t.order (with_names (λ (r : LineRow). r.order) lines []) (has_line_in lines) orders (once_names (λ (r : LineRow). r.order) lines [] refl)
        (λ o. among_names (λ (r : LineRow). r.order) lines [] o) orders_read

  -- together with the order named
  module _ (order_rows : List OrderRow) (line_rows : List LineRow) (are : AreKnownOrders known named gtins t order_rows line_rows) where
    abbrev has_kept : List ℕ → Bool
    has_kept = has_line_in are.rest_lines

    kept : (o : List ℕ) → has_kept o ≡ true → (is_among named o ≡ false) × (has_line_of gtins t o ≡ true)
    kept = kept_line are.rest_lines are.rest are.is_rest.lines are.is_rest.orders

    own_orders : AreOrders named t are.own → AreRows {K = OrderKey} same_order order_key (is_among named) (is_among named) t.order are.own
    own_orders own = sought {K = OrderKey} same_order order_key same_text_is same_text_refl (λ o. o) t.order named (is_among named) are.own named_once (λ x. refl) own

    own_lines_rows : AreRows {K = LineKey} same_line line_key (λ k. is_among named k.0) (λ k. is_among named k.0) (λ k. t.line k.0 k.1) are.own_lines
    own_lines_rows = sought {K = LineKey} same_line line_key same_line_is same_line_refl (λ k. k.0) (λ k. t.line k.0 k.1) named (is_among named) are.own_lines named_once (λ x. refl) are.is_own.lines

    none_both : (n x : Bool) → (x ≡ true → n ≡ false) → n ≡ true → x ≡ false
    none_both n true f e = absurd (let none : true ≡ false = sym e ∙ f refl in cc)
    none_both n false f e = refl

    pub orders_told : AreOrders named t are.own → AreRows {K = OrderKey} same_order order_key (λ o. is_among named o || (is_open_in t o && has_line_of gtins t o)) (λ o. is_among named o || has_line_of gtins t o) t.order order_rows
    orders_told own =
        subst (λ (l : List OrderRow). AreRows {K = OrderKey} same_order order_key (λ o. is_among named o || (is_open_in t o && has_line_of gtins t o)) (λ o. is_among named o || has_line_of gtins t o) t.order l) (sym are.orders)
        (rows_as {K = OrderKey} same_order order_key same_text_is same_text_refl (λ o. is_among named o || has_kept o) (λ o. is_among named o || has_kept o)
        (λ o. is_among named o || (is_open_in t o && has_line_of gtins t o)) (λ o. is_among named o || has_line_of gtins t o) t.order (are.own ++ are.rest)
        (λ o e. needs o (is_among named o) (is_open_in t o) (has_line_of gtins t o) refl refl refl e)
        (λ o e. may (is_among named o) (has_kept o) (has_line_of gtins t o) (λ there. (kept o there).1) e)
        (rows_joined {K = OrderKey} same_order order_key same_text_is same_text_refl (is_among named) (is_among named) has_kept has_kept t.order are.own are.rest
        (λ o e. none_both (is_among named o) (has_kept o) (λ there. (kept o there).0) e) (λ o e. (kept o e).0) (λ o e. none_both (is_among named o) (has_kept o) (λ there. (kept o there).0) e)
        (own_orders own) (rest_orders are.rest_lines are.rest are.is_rest.lines are.is_rest.orders)))
      where
        needs : (o : List ℕ) (n p h : Bool) → is_among named o ≡ n → is_open_in t o ≡ p → has_line_of gtins t o ≡ h → n || (p && h) ≡ true → n || has_kept o ≡ true
        needs o true p h a b c e = refl
        needs o false true true a b c e = line_kept are.rest_lines are.rest are.is_rest.lines are.is_rest.orders o b a c
        needs o false true false a b c e = absurd (let none : false ≡ true = e in cc)
        needs o false false h a b c e = absurd (let none : false ≡ true = e in cc)

        may : (n x h : Bool) → (x ≡ true → h ≡ true) → n || x ≡ true → n || h ≡ true
        may true x h f e = refl
        may false x h f e = f e

    abbrev is_line_wanted : LineKey → Bool
    is_line_wanted = wants_line are.rest_lines are.rest are.is_rest.lines are.is_rest.orders

    abbrev is_line_needed : LineKey → Bool
    is_line_needed = needs_line are.rest_lines are.rest are.is_rest.lines are.is_rest.orders

    other : (k : LineKey) → is_line_wanted k ≡ true → is_among named k.0 ≡ false
    other k e = not_named are.rest_lines are.rest are.is_rest.lines are.is_rest.orders k.0 k.1 e

    pub lines_told : AreRows {K = LineKey} same_line line_key (λ k. is_among named k.0 || (is_open_in t k.0 && is_among gtins k.1)) (λ k. is_among named k.0 || is_among gtins k.1) (λ k. t.line k.0 k.1) line_rows
    lines_told =
        subst (λ (l : List LineRow). AreRows {K = LineKey} same_line line_key (λ k. is_among named k.0 || (is_open_in t k.0 && is_among gtins k.1)) (λ k. is_among named k.0 || is_among gtins k.1) (λ k. t.line k.0 k.1) l) (sym are.lines)
        (rows_as {K = LineKey} same_line line_key same_line_is same_line_refl (λ k. is_among named k.0 || is_line_needed k) (λ k. is_among named k.0 || is_line_wanted k)
        (λ k. is_among named k.0 || (is_open_in t k.0 && is_among gtins k.1)) (λ k. is_among named k.0 || is_among gtins k.1) (λ k. t.line k.0 k.1) (are.own_lines ++ are.rest_lines)
        (λ k e. needs (is_among named k.0) (is_open_in t k.0) (is_among gtins k.1) e)
        (λ k e. may (is_among named k.0) (is_among (other_names named (orders_at known k.1)) k.0) (is_among gtins k.1) e)
        (rows_joined {K = LineKey} same_line line_key same_line_is same_line_refl (λ k. is_among named k.0) (λ k. is_among named k.0) is_line_needed is_line_wanted (λ k. t.line k.0 k.1) are.own_lines are.rest_lines
        (λ k e. none_both (is_among named k.0) (is_line_wanted k) (other k) e) (λ k e. free (is_among named k.0) (is_open_in t k.0) (is_among gtins k.1) e) (λ k e. none_both (is_among named k.0) (is_line_wanted k) (other k) e)
        own_lines_rows (rest_lines are.rest_lines are.rest are.is_rest.lines are.is_rest.orders)))
      where
        needs : (n p g : Bool) → n || (p && g) ≡ true → n || ((p && not n) && g) ≡ true
        needs true p g e = refl
        needs false true g e = e
        needs false false g e = absurd (let none : false ≡ true = e in cc)

        may : (n s g : Bool) → n || (s && g) ≡ true → n || g ≡ true
        may true s g e = refl
        may false true g e = e
        may false false g e = absurd (let none : false ≡ true = e in cc)

        free : (n p g : Bool) → (p && not n) && g ≡ true → n ≡ false
        free true true g e = absurd (let none : false ≡ true = e in cc)
        free true false g e = absurd (let none : false ≡ true = e in cc)
        free false p g e = refl
