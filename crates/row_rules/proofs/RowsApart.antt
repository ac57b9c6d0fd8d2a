-- Rows of a plan that another plan does not have.
use Rattle.row_rules.proofs.Words.{◌≡◌, ℕ, ◌+◌, ◌<◌, Bool, true, false, ◌&&◌, not, cond, List, [], ◌∷◌, ◌++◌, length, get_or, take, drop, refl, ap, sym, ◌∙◌, append_assoc, ◌==◌, ◌||◌, if◌then◌else◌, list_any, Ordering, Less, Equal, Greater, nat_cmp, ordering_then, is_eq, unsigned_tied, is_at, BTreeSet, contains, take_more, take-append-drop, list_any-append, filter-append, drop_from, Row, equal_turned, RowKey, row_key, row_cmp, HasRows, same_row, rows_apart}
use Rattle.row_rules.proofs.Walking.{append_none, drop_end}

-- A list in parts

any_behind : {X : Type 0} (test : X → Bool) (xs : List X) (i : ℕ) → list_any test (drop i xs) ≡ true → list_any test xs ≡ true
any_behind test xs i e =
    ap (list_any test) (sym (take-append-drop i xs)) ∙ list_any-append test (take i xs) (drop i xs) ∙ ap (λ b. list_any test (take i xs) || b) e ∙ always (list_any test (take i xs))
  where
    always : (b : Bool) → b || true ≡ true
    always true = refl
    always false = refl

-- what passes in a part of a list passes in the list
pub any_within : {X : Type 0} (test : X → Bool) (xs : List X) (i n : ℕ) → list_any test (take n (drop i xs)) ≡ true → list_any test xs ≡ true
any_within test xs i n e =
    any_behind test xs i (ap (list_any test) (sym (take-append-drop n (drop i xs))) ∙ list_any-append test (take n (drop i xs)) (drop n (drop i xs)) ∙ ap (λ b. b || list_any test (drop n (drop i xs))) e)

-- Those left of rows, with the rest, are apart as all are

pub record IsLeft (others rows : List Row) (i : ℕ) (out : List Row) : Type 0 where
  pub so_far : rows_apart others out ++ rows_apart others (drop i rows) ≡ rows_apart others rows

pub left_none : (others rows out : List Row) → out ≡ [] → IsLeft others rows 0 out
left_none others rows out e = record { so_far = ap (λ ys. rows_apart others ys ++ rows_apart others rows) e }

pub left_more : (others rows : List Row) (i : ℕ) (out : List Row) (none : Row) (new : List Row) (met : Bool) → i < length rows → IsLeft others rows i out → (met ≡ true → list_any (same_row (get_or rows i none)) others ≡ true)
    → new ≡ out ++ (if not met then get_or rows i none ∷ [] else []) → IsLeft others rows (i + 1) new
left_more others rows i out none new met h s there e = record {
  so_far =
      ap (λ ys. rows_apart others ys ++ rows_apart others (drop (i + 1) rows)) e
      ∙ elim met as (λ b. met ≡ b → rows_apart others (out ++ (if not b then get_or rows i none ∷ [] else [])) ++ rows_apart others (drop (i + 1) rows) ≡ rows_apart others out ++ rows_apart others (get_or rows i none ∷ drop (i + 1) rows)) [
        | true ↦ λ m. ap (λ ys. rows_apart others ys ++ rows_apart others (drop (i + 1) rows)) (append_none out) ∙ sym (ap (λ b. rows_apart others out ++ (if not b then get_or rows i none ∷ rows_apart others (drop (i + 1) rows) else rows_apart others (drop (i + 1) rows))) (there m))
        | false ↦ λ m.
            ap (λ ys. ys ++ rows_apart others (drop (i + 1) rows)) (filter-append (λ r. not (list_any (same_row r) others)) out (get_or rows i none ∷ [])) ∙ append_assoc (rows_apart others out) (rows_apart others (get_or rows i none ∷ [])) (rows_apart others (drop (i + 1) rows))
            ∙ ap (λ ys. rows_apart others out ++ ys) (sym (filter-append (λ r. not (list_any (same_row r) others)) (get_or rows i none ∷ []) (drop (i + 1) rows)))
      ] refl
      ∙ sym (ap (λ ys. rows_apart others out ++ rows_apart others ys) (drop_from rows i none h)) ∙ s.so_far;
}

pub left_all : (others rows : List Row) (i : ℕ) (out : List Row) → i ≡ length rows → IsLeft others rows i out → rows_apart others out ≡ rows_apart others rows
left_all others rows i out e s = sym (append_none (rows_apart others out)) ∙ sym (ap (λ ys. rows_apart others out ++ rows_apart others ys) (drop_end rows i e)) ∙ s.so_far

-- Rows as keys of a set

both_equal : (a b : Ordering) → is_eq (ordering_then a b) ≡ is_eq a && is_eq b
both_equal Less b = refl
both_equal Equal b = refl
both_equal Greater b = refl

one_number : (a b : ℕ) → is_eq (nat_cmp a b) ≡ (b == a)
one_number a b = unsigned_tied a b ∙ equal_turned a b

pub row_tied : (x r : Row) → is_at (row_cmp (row_key x)) (row_key r) ≡ same_row r x
row_tied x r =
    both_equal (ordering_then (nat_cmp x.booking r.booking) (nat_cmp x.lot r.lot)) (nat_cmp x.qty r.qty)
    ∙ (λ i. both_equal (nat_cmp x.booking r.booking) (nat_cmp x.lot r.lot) i && one_number x.qty r.qty i)
    ∙ (λ i. one_number x.booking r.booking i && one_number x.lot r.lot i && (r.qty == x.qty))

-- one row more
pub row_added : (x : Row) (old new : BTreeSet RowKey) → ((q : RowKey) → contains row_cmp new q ≡ cond (is_at (row_cmp (row_key x)) q) true (contains row_cmp old q))
    → (r : Row) → contains row_cmp new (row_key r) ≡ contains row_cmp old (row_key r) || same_row r x
row_added x old new updates r =
    updates (row_key r) ∙ ap (λ b. cond b true (contains row_cmp old (row_key r))) (row_tied x r) ∙ either (same_row r x) (contains row_cmp old (row_key r))
  where
    either : (a b : Bool) → cond a true b ≡ b || a
    either true true = refl
    either true false = refl
    either false true = refl
    either false false = refl

pub set_more : (rows : List Row) (i : ℕ) (none : Row) (old new : BTreeSet RowKey) → i < length rows → HasRows old (take i rows)
    → ((r : Row) → contains row_cmp new (row_key r) ≡ contains row_cmp old (row_key r) || same_row r (get_or rows i none)) → HasRows new (take (i + 1) rows)
set_more rows i none old new h has more r =
    more r ∙ ap (λ b. b || same_row r (get_or rows i none)) (has r) ∙ ap (λ b. list_any (same_row r) (take i rows) || b) (alone (same_row r (get_or rows i none)))
    ∙ sym (list_any-append (same_row r) (take i rows) (get_or rows i none ∷ [])) ∙ ap (list_any (same_row r)) (sym (take_more rows i none h))
  where
    alone : (b : Bool) → b ≡ b || false
    alone true = refl
    alone false = refl
