-- What the rows of one table make of its look-up, written one after another.
use Rattle.changes.proofs.Words.{◌≡◌, ℕ, Bool, true, false, List, [], ◌∷◌, refl, sym, ap, subst, ◌∙◌, ◌||◌, not, if◌then◌else◌, Option, Some, None, find, list_any, Tables, no_two, unless_put, unless_emptied, changed, and_both, or_none, not_true, each_written, with_row, without_row, Change, TableName, Staged, family, Key, described, look, over, puts, drops, stage_emptied, emptied, rows_written, table_written}
use Rattle.whole_tables.specs.Family.{Row}

-- ---- one key

module _ {R : Type 0} (test : R → Bool) where
  -- what is found after rows are put, and after rows are dropped
  abbrev pub all_put : List R → Option R → Option R
  all_put [] old = old
  all_put (r ∷ rs) old = all_put rs (if test r then Some r else old)

  abbrev pub all_dropped : List R → Option R → Option R
  all_dropped [] old = old
  all_dropped (r ∷ rs) old = all_dropped rs (if test r then None else old)

  none_put : (rows : List R) (old : Option R) → list_any test rows ≡ false → all_put rows old ≡ old
  none_put [] old e = refl
  none_put (r ∷ rs) old e =
      let two = or_none (test r) (list_any test rs) e in
      ap (λ b. all_put rs (if b then Some r else old)) two.0 ∙ none_put rs old two.1

  dropped_none : (rows : List R) → all_dropped rows None ≡ None
  dropped_none [] = refl
  dropped_none (r ∷ rs) = elim (test r) as (λ b. all_dropped rs (if b then None else None) ≡ None) [ true ↦ dropped_none rs | false ↦ dropped_none rs ]

  all_dropped_is : (rows : List R) (old : Option R) → all_dropped rows old ≡ (if list_any test rows then None else old)
  all_dropped_is [] old = refl
  all_dropped_is (r ∷ rs) old = elim (test r) as (λ b. all_dropped rs (if b then None else old) ≡ (if b || list_any test rs then None else old)) [
    | true ↦ dropped_none rs
    | false ↦ all_dropped_is rs old
  ]

  put_on : (x : Option R) (gone : Bool) (old : Option R) → unless_put x false (if gone then None else old) ≡ unless_put x gone old
  put_on None gone old = refl
  put_on (Some r) gone old = refl

  module _ (same : R → R → Bool) (meets : (r s : R) → test r ≡ true → test s ≡ true → same r s ≡ true) where
    none_like : (r : R) (rs : List R) → test r ≡ true → list_any (same r) rs ≡ false → list_any test rs ≡ false
    none_like r [] e h = refl
    none_like r (s ∷ rs) e h =
        let two = or_none (same r s) (list_any (same r) rs) h in
        elim (test s) as (λ b. test s ≡ b → b || list_any test rs ≡ false) [
          | true ↦ λ at. let both = meets r s e at in let no = two.0 in cc
          | false ↦ λ at. none_like r rs e two.1
        ] refl

    all_put_is : (rows : List R) (old : Option R) → no_two same rows ≡ true → all_put rows old ≡ unless_put (find test rows) false old
    all_put_is [] old once = refl
    all_put_is (r ∷ rs) old once =
        let two = and_both (not (list_any (same r) rs)) (no_two same rs) once in
        elim (test r) as (λ b. test r ≡ b → all_put rs (if b then Some r else old) ≡ unless_put (if b then Some r else find test rs) false old) [
          | true ↦ λ e. none_put rs (Some r) (none_like r rs e (not_true _ two.0))
          | false ↦ λ e. all_put_is rs old two.1
        ] refl

    -- dropping first and then putting makes the change
    pub all_changed : (puts drops : List R) (old : Option R) → no_two same puts ≡ true → all_put puts (all_dropped drops old) ≡ changed test puts drops old
    all_changed puts drops old once =
        all_put_is puts (all_dropped drops old) once
        ∙ ap (λ x. unless_put (find test puts) false x) (all_dropped_is drops old)
        ∙ put_on (find test puts) (list_any test drops) old

-- ---- one table

-- whether this is the row under the key
abbrev pub is_at : (n : TableName) → Key n → Row n → Bool
is_at n k r = (described n).same k ((described n).key r)

abbrev pub are_same : (n : TableName) → Row n → Row n → Bool
are_same n r s = is_at n ((described n).key r) s

pub are_met : (n : TableName) (k : Key n) (r s : Row n) → is_at n k r ≡ true → is_at n k s ≡ true → are_same n r s ≡ true
are_met n k r s p q = subst (λ (x : Key n). is_at n x s ≡ true) ((family n).laws.one_key k ((described n).key r) p) q

puts_are : (n : TableName) (rows : List (Row n)) (t : Tables) → each_written (with_row (described n)) rows t ≡ over n (λ k. all_put (is_at n k) rows (look n t k)) t
puts_are n [] t = sym ((family n).laws.same_set t)
puts_are n (r ∷ rs) t =
    let f : Key n → Option (Row n) = λ k. if is_at n k r then Some r else look n t k in
    puts_are n rs (over n f t)
    ∙ ap (λ g. over n (λ k. all_put (is_at n k) rs (g k)) (over n f t)) ((family n).there f t)
    ∙ (family n).last (λ k. all_put (is_at n k) rs (f k)) f t

drops_are : (n : TableName) (rows : List (Row n)) (t : Tables) → each_written (λ r. without_row (described n) ((described n).key r)) rows t ≡ over n (λ k. all_dropped (is_at n k) rows (look n t k)) t
drops_are n [] t = sym ((family n).laws.same_set t)
drops_are n (r ∷ rs) t =
    let f : Key n → Option (Row n) = λ k. if is_at n k r then None else look n t k in
    drops_are n rs (over n f t)
    ∙ ap (λ g. over n (λ k. all_dropped (is_at n k) rs (g k)) (over n f t)) ((family n).there f t)
    ∙ (family n).last (λ k. all_dropped (is_at n k) rs (f k)) f t

-- what is there before rows are listed
abbrev pub left : Change → (n : TableName) → (Key n → Option (Row n)) → Key n → Option (Row n)
left c Staged f k = unless_emptied c.dropped.stage k.0 (f k)
left c n f k = f k

stage_is : (stage : Option (List ℕ)) (t : Tables) → stage_emptied stage t ≡ record t { staged = λ o l. unless_emptied stage o (t.staged o l) }
stage_is None t = refl
stage_is (Some order) t = refl

emptied_is : (c : Change) (n : TableName) (t : Tables) → emptied c n t ≡ over n (left c n (look n t)) t
emptied_is c Staged t = stage_is c.dropped.stage t
emptied_is c n t = sym ((family n).laws.same_set t)

-- the look-up after a change
abbrev pub written : Change → (n : TableName) → (Key n → Option (Row n)) → Key n → Option (Row n)
written c n f k = all_put (is_at n k) (puts c n) (all_dropped (is_at n k) (drops c n) (left c n f k))

pub table_is : (c : Change) (n : TableName) (t : Tables) → table_written c n t ≡ over n (written c n (look n t)) t
table_is c n t =
    let f : Key n → Option (Row n) = left c n (look n t) in
    let g : Key n → Option (Row n) = λ k. all_dropped (is_at n k) (drops c n) (f k) in
    let one : Tables = over n f t in
    let two : Tables = over n g one in
    ap (λ u. rows_written (with_row (described n)) (λ r. without_row (described n) ((described n).key r)) (puts c n) (drops c n) u) (emptied_is c n t)
    ∙ ap (each_written (with_row (described n)) (puts c n)) (drops_are n (drops c n) one ∙ ap (λ h. over n (λ k. all_dropped (is_at n k) (drops c n) (h k)) one) ((family n).there f t))
    ∙ puts_are n (puts c n) two
    ∙ ap (λ h. over n (λ k. all_put (is_at n k) (puts c n) (h k)) two) ((family n).there g one)
    ∙ (family n).last (written c n (look n t)) g one
    ∙ (family n).last (written c n (look n t)) f t
