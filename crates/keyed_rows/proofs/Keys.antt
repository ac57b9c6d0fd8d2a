-- The order of columns, and that of the numbers and texts in them.
use Rattle.keyed_rows.proofs.Words.{◌≡◌, ◌<◌, ℕ, pos, true, sym, ◌∙◌, arith, int_cmp, Less, Equal, ints, value_cmp, value_cmp-Int, is_number, number_in}
use Rattle.sqlite_value.specs.declared.value.Value.{Value}
use Rattle.sqlite_value.specs.declared.value.Value.TheVariants.{Int}

low : (m n : ℕ) → int_cmp (pos m) (pos n) ≡ Less → m < n
low m n e = grind (arith, ints)

tie : (m n : ℕ) → int_cmp (pos m) (pos n) ≡ Equal → m ≡ n
tie m n e = grind (arith, ints)

pub number_rises : (limit : ℕ) (v w : Value) → is_number limit v ≡ true → is_number limit w ≡ true → value_cmp v w ≡ Less → number_in v < number_in w
number_rises limit (Int (pos m)) (Int (pos n)) h k e = low m n (sym (value_cmp-Int (pos m) (pos n)) ∙ e)
number_rises limit v w h k e = absurd cc

pub number_ties : (limit : ℕ) (v w : Value) → is_number limit v ≡ true → is_number limit w ≡ true → value_cmp v w ≡ Equal → number_in v ≡ number_in w
number_ties limit (Int (pos m)) (Int (pos n)) h k e = tie m n (sym (value_cmp-Int (pos m) (pos n)) ∙ e)
number_ties limit v w h k e = absurd cc
