-- How long the columns of a key are.
use Rattle.line_work.proofs.Words.{◌≡◌, ◌≤◌, ℕ, List, length, true, Bool, arith, ◌&&◌, list_all, nat_tests, is_between, is_name, is_name_char, is_lot_text, is_set_82}

short : (n : ℕ) (b : Bool) → is_between 1 20 n && b ≡ true → n ≤ 20
short n b e = grind (arith, nat_tests)

pub name_length : (s : List ℕ) → is_name s ≡ true → length s ≤ 20
name_length s e = short (length s) (list_all is_name_char s) e

pub lot_length : (s : List ℕ) → is_lot_text s ≡ true → length s ≤ 20
lot_length s e = short (length s) (list_all is_set_82 s) e
