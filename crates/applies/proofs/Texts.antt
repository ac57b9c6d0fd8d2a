-- Texts of acts one behind another, and what a reader has left of a text.
use Rattle.applies.proofs.Words.{◌≡◌, ◌≢◌, ℕ, List, [], ◌∷◌, ◌++◌, append_assoc, append-nil, length, length-append, Option, Some, None, refl, sym, ap, ◌∙◌, arith, ℤ, OnSome, Consumes, IsAtEnd, All-head, All-tail, Act, act_line, newer_text, IsPart, OfText}

-- the lines of the newer acts come behind those that are known
pub newer_joined : (begun : ℤ) (newer known older : List Act) → newer_text begun (newer ++ known) older ≡ newer_text begun known older ++ newer_text begun newer (known ++ older)
newer_joined begun [] known older = sym (append-nil (newer_text begun known older))
newer_joined begun (act ∷ newer) known older =
    ap (λ t. t ++ act_line begun act ((newer ++ known) ++ older)) (newer_joined begun newer known older)
    ∙ append_assoc (newer_text begun known older) (newer_text begun newer (known ++ older)) (act_line begun act ((newer ++ known) ++ older))
    ∙ ap (λ l. newer_text begun known older ++ (newer_text begun newer (known ++ older) ++ act_line begun act l)) (append_assoc newer known older)

-- in a list one act stands before the same older ones
pub one_place : (l m : List Act) (a b : Act) (o : List Act) → l ++ a ∷ o ≡ m ++ b ∷ o → a ≡ b
one_place [] [] a b o e = cc
one_place [] (x ∷ m) a b o e = let n = ap length e in let k = length-append m (b ∷ o) in absurd (omega (arith, n, k))
one_place (x ∷ l) [] a b o e = let n = ap length e in let k = length-append l (a ∷ o) in absurd (omega (arith, n, k))
one_place (x ∷ l) (y ∷ m) a b o e = let rest : l ++ a ∷ o ≡ m ++ b ∷ o = cc in one_place l m a b o rest

-- bytes without a line feed are no line
pub no_line : (xs : List ℕ) → IsPart (xs ++ 10 ∷ []) → ⊥
no_line [] p = All-head (λ b. b ≢ 10) 10 [] p refl
no_line (x ∷ xs) p = no_line xs (All-tail (λ b. b ≢ 10) x (xs ++ 10 ∷ []) p)

-- what is so of what was read, whatever is left, is so of all
pub told_on : (a b : Option (List ℕ)) (bytes : List ℕ) (P : List ℕ → Type 0) → Consumes a b bytes → ((rest : List ℕ) → P (bytes ++ rest)) → OfText a P
told_on None b bytes P h f = (bytes ++ [], tt, f [])
told_on (Some xs) None bytes P h f = absurd h
told_on (Some xs) (Some ys) bytes P h f = (bytes ++ ys, h, f ys)

pub told_at_end : (a b : Option (List ℕ)) (bytes : List ℕ) (P : List ℕ → Type 0) → Consumes a b bytes → OnSome a (IsAtEnd b) → P bytes → OfText a P
told_at_end None b bytes P h e p = (bytes, tt, p)
told_at_end (Some xs) None bytes P h e p = absurd h
told_at_end (Some xs) (Some ys) bytes P h e p = (bytes, h ∙ ap (λ t. bytes ++ t) e ∙ append-nil bytes, p)

pub told_any : (a : Option (List ℕ)) (P : List ℕ → Type 0) → ((text : List ℕ) → P text) → OfText a P
told_any None P f = ([], tt, f [])
told_any (Some text) P f = (text, refl, f text)

-- and what is so of what is left, of all
pub told_from : (a b : Option (List ℕ)) (bytes : List ℕ) (P Q : List ℕ → Type 0) → Consumes a b bytes → OfText b P → ((text : List ℕ) → P text → Q (bytes ++ text)) → OfText a Q
told_from None b bytes P Q h t f = (bytes ++ t.0, tt, f t.0 t.2)
told_from (Some xs) None bytes P Q h t f = absurd h
told_from (Some xs) (Some ys) bytes P Q h t f = (bytes ++ t.0, h ∙ ap (λ r. bytes ++ r) t.1, f t.0 t.2)

pub told_weaker : (a : Option (List ℕ)) (P Q : List ℕ → Type 0) → OfText a P → ((text : List ℕ) → P text → Q text) → OfText a Q
told_weaker a P Q t f = (t.0, t.1, f t.0 t.2)
