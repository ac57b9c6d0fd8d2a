-- A joined text, cut where it was joined.
use Rattle.texts.proofs.Words.{◌≡◌, ℕ, true, List, [], ◌∷◌, ◌++◌, refl, ap, ◌∙◌, arith, ◌==◌, slice_split, onto_first, join_with_byte, nat_tests, slice_split-cons_yes, slice_split-cons_no, Lacks, PartsLack}

is_itself : (c : ℕ) → (c == c) ≡ true
is_itself c = grind (arith, nat_tests)

cut_one : (c : ℕ) (x : List ℕ) → Lacks c x → slice_split (λ b. b == c) x ≡ x ∷ []
cut_one c [] l = refl
cut_one c (a ∷ x) l = slice_split-cons_no (λ b. b == c) a x l.0 ∙ ap (onto_first a) (cut_one c x l.1)

cut_more : (c : ℕ) (x r : List ℕ) → Lacks c x → slice_split (λ b. b == c) (x ++ c ∷ r) ≡ x ∷ slice_split (λ b. b == c) r
cut_more c [] r l = slice_split-cons_yes (λ b. b == c) c r (is_itself c)
cut_more c (a ∷ x) r l = slice_split-cons_no (λ b. b == c) a (x ++ c ∷ r) l.0 ∙ ap (onto_first a) (cut_more c x r l.1)

-- parts that do not hold the byte by which they are joined
pub cut_again : (c : ℕ) (xs : List (List ℕ)) → PartsLack c xs → slice_split (λ b. b == c) (join_with_byte c xs) ≡ xs
cut_again c [] l = absurd l
cut_again c (x ∷ []) l = cut_one c x l.0
cut_again c (x ∷ y ∷ ys) l = cut_more c x (join_with_byte c (y ∷ ys)) l.0 ∙ ap (λ z. x ∷ z) (cut_again c (y ∷ ys) l.1)
