-- A text has one reading.
use Rattle.requests.proofs.Words.{◌≡◌, ◌∙◌, ap, sym, inl, inr, ℕ, List, [], take, drop, Option, Some, None, MatchOption, request_unique, HEAD_MAX, head_end, fields_of, body_length, headless, after_head, IsCutReading, IsReading, Read}

one_cut : (head rest : List ℕ) (a b : Read) → IsCutReading head rest a → IsCutReading head rest b → a ≡ b
one_cut head rest a b (inl x) (inl y) =
    let same = request_unique head x.0 y.0 [] [] x.1.0 y.1.0 in
    x.2 ∙ ap (λ h. after_head h.method h.target (body_length (fields_of h)) rest) same.0 ∙ sym y.2
one_cut head rest a b (inl x) (inr y) = absurd (y.0 x.0 x.1)
one_cut head rest a b (inr x) (inl y) = absurd (x.0 y.0 y.1)
one_cut head rest a b (inr x) (inr y) = x.1 ∙ sym y.1

one_by : (text : List ℕ) (o : Option ℕ) (a b : Read)
    → MatchOption o (a ≡ headless text) (λ n. IsCutReading (take n text) (drop n text) a)
    → MatchOption o (b ≡ headless text) (λ n. IsCutReading (take n text) (drop n text) b) → a ≡ b
one_by text None a b x y = x ∙ sym y
one_by text (Some n) a b x y = one_cut (take n text) (drop n text) a b x y

-- a text has one reading
pub one_reading : (text : List ℕ) (a b : Read) → IsReading text a → IsReading text b → a ≡ b
one_reading text a b x y = one_by text (head_end (take HEAD_MAX text)) a b x y
