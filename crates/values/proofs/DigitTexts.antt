-- Texts of digits.
use Rattle.std.proofs.Common.{◌≡◌, ℕ, ◌&&◌, List, refl}
use Rattle.std.specs.List.{list_all}
use Rattle.std.specs.Char.{is_ascii_digit}
use Rattle.std.specs.Str.{all_ascii_digits}
use Rattle.std.proofs.lemmas.List.Recursion.{same_from_clauses}

pub all_ascii_digits-list_all : (s : List ℕ) → list_all is_ascii_digit s ≡ all_ascii_digits s
all_ascii_digits-list_all s = same_from_clauses (list_all is_ascii_digit) all_ascii_digits (λ c b. is_ascii_digit c && b) refl (λ _ _. refl) (λ _ _. refl) s
