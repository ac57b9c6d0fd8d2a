-- Texts, and texts turned round.
use Rattle.std.proofs.Common.{◌≡◌, ℕ, Bool, true, false, List, refl, ap, sym, subst, ◌∙◌}
use Rattle.std.specs.Prelude.{reverse}
use Rattle.std.specs.Cmp.Lexicographic.{bytes_decides, same_text as equal_texts}
use Rattle.std.proofs.lemmas.List.{reverse-reverse}
use Rattle.values.specs.Values.{same_text}

same_tests : (a b : Bool) → (a ≡ true → b ≡ true) → (b ≡ true → a ≡ true) → a ≡ b
same_tests true b f g = sym (f refl)
same_tests false true f g = g refl
same_tests false false f g = refl

same_text_refl : (s : List ℕ) → same_text s s ≡ true
same_text_refl s = (bytes_decides s s).1 refl

pub same_text_is : (s t : List ℕ) → same_text s t ≡ true → s ≡ t
same_text_is s t e = equal_texts s t (sym e)

same_text_sym : (s t : List ℕ) → same_text s t ≡ true → same_text t s ≡ true
same_text_sym s t e = subst (λ (x : List ℕ). same_text x s ≡ true) (same_text_is s t e) (same_text_refl s)

pub same_text_turned : (s t : List ℕ) → same_text s t ≡ same_text t s
same_text_turned s t = same_tests (same_text s t) (same_text t s) (same_text_sym s t) (same_text_sym t s)

-- two texts are one exactly if they are when both are turned round
pub turned_same : (a b : List ℕ) → same_text (reverse a) (reverse b) ≡ same_text a b
turned_same a b =
    same_tests (same_text (reverse a) (reverse b)) (same_text a b) (λ e. same (sym (reverse-reverse a) ∙ ap reverse (same_text_is (reverse a) (reverse b) e) ∙ reverse-reverse b))
    (λ e. turned (same_text_is a b e))
  where
    same : a ≡ b → same_text a b ≡ true
    same h = subst (λ (x : List ℕ). same_text a x ≡ true) h (same_text_refl a)

    turned : a ≡ b → same_text (reverse a) (reverse b) ≡ true
    turned h = subst (λ (x : List ℕ). same_text (reverse a) (reverse x) ≡ true) h (same_text_refl (reverse a))

-- the text of a key, and the key of a text
pub turned_across : (a k : List ℕ) → same_text a (reverse k) ≡ same_text (reverse a) k
turned_across a k = sym (turned_same a (reverse k)) ∙ ap (same_text (reverse a)) (reverse-reverse k)
