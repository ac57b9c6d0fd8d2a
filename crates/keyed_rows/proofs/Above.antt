-- Queries for the rows in which a column is above a number.
use Rattle.keyed_rows.proofs.Words.{◌≡◌, ℕ, Bool, true, false, Some, pos, refl, ap, ◌∙◌, arith, int_cmp, is_gt, nat_lt, nat_tests, ints, Value, Int, Binary, Term, col, op2, Compare, Gt, is_true, from_truth, value_cmp, value_cmp-Int, is_number, number_in}
use Rattle.sqlite_sql.specs.Ops.{binary}

-- the column at this place is above the parameter at that one
abbrev pub above : ℕ → ℕ → Term
above place parameter = op2 (Compare Gt Binary) (col 1 place) (col 0 parameter)

truth_back : (b : Bool) → is_true (from_truth (Some b)) ≡ b
truth_back true = refl
truth_back false = refl

greater : (m n : ℕ) → is_gt (int_cmp (pos m) (pos n)) ≡ nat_lt n m
greater m n = grind (arith, ints, nat_tests)

above_int : (m n : ℕ) → is_true (binary (Compare Gt Binary) (Int (pos m)) (Int (pos n))) ≡ nat_lt n m
unfolding binary
above_int m n = truth_back (is_gt (value_cmp (Int (pos m)) (Int (pos n)))) ∙ ap is_gt (value_cmp-Int (pos m) (pos n)) ∙ greater m n

pub above_count : (limit : ℕ) (v : Value) (n : ℕ) → is_number limit v ≡ true → is_true (binary (Compare Gt Binary) v (Int (pos n))) ≡ nat_lt n (number_in v)
above_count limit (Int (pos m)) n h = above_int m n
above_count limit v n h = absurd cc
