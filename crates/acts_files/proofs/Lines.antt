-- Whole lines, and what stands behind them.
use Rattle.acts_files.proofs.Words.{◌≡◌, ◌≢◌, ◌⊎◌, ℕ, ◌+◌, ◌-◌, ◌<◌, ◌≤◌, List, [], ◌∷◌, ◌++◌, length, length-append, length-drop, drop, get_or, inl, inr, sym, ap, ◌∙◌, arith, All, get_or-append_seam, cases_lt, All-get_or, get_or-drop, front_reads, AreLines, HasNoLine}

-- whole lines without a byte 0 do not go on where no line feed stands before the first byte 0
pub lines_below : (c lines rest : List ℕ) (at : ℕ) → AreLines lines → c ≡ lines ++ rest → at ≤ length c → HasNoLine (drop at c) → length lines ≤ at
lines_below c lines rest at are is low none = elim (cases_lt at (length lines)) [ inl far ↦ absurd (last far are.whole) | inr near ↦ near ]
  where
    last : at < length lines → (lines ≡ []) ⊎ ((body : List ℕ) × (lines ≡ body ++ 10 ∷ [])) → ⊥
    last far (inl empty) = let none_at_all : length lines ≡ 0 = ap length empty in omega (arith, far, none_at_all)
    last far (inr ends) =
        let body = ends.0 in
        let long : length lines ≡ length body + 1 = ap length ends.1 ∙ length-append body (10 ∷ []) in
        let whole : length c ≡ length lines + length rest = ap length is ∙ length-append lines rest in
        let j = length body - at in
        let place : at + j ≡ length body = omega (arith, far, long) in
        let short = length-drop at c in
        let feed : get_or (drop at c) j 0 ≡ 10 =
        get_or-drop at c j 0 ∙ ap (λ k. get_or c k 0) place ∙ front_reads 0 c lines rest is (length body) (omega (arith, long)) ∙ ap (λ l. get_or l (length body) 0) ends.1 ∙ get_or-append_seam body 10 [] 0 in
        let zero = none j (omega (arith, short, whole, long, place, far)) feed in
        let under : at + zero.0 < length lines = omega (arith, zero.1, place, long) in
        are.bytes (at + zero.0) under (sym (front_reads 0 c lines rest is (at + zero.0) under) ∙ sym (get_or-drop at c zero.0 0) ∙ zero.2)

-- bytes without a line feed have no line
pub part_lineless : (rest : List ℕ) → All (λ b. b ≢ 10) rest → HasNoLine rest
part_lineless rest part j low feed = absurd (All-get_or (λ b. b ≢ 10) rest j 0 low part feed)
