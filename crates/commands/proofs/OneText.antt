-- Two sound keys with one text are one key.
use Rattle.commands.proofs.Below.{◌≡◌, ℕ, ◌<◌, ◌^◌, true, List, [], ◌∷◌, ◌++◌, refl, ap, ◌∙◌, arith, append_assoc, IsTrue, decimal, decimal_injective, nat_tests, is_name, is_line_no, key_text, is_sound_key, Key, Plain, Line}
use Rattle.commands.proofs.Joining.{first_part, and_both}
use Rattle.commands.proofs.Printing.{name_lacks}

-- a line's number fits 64 bits
pub small_line : (n : ℕ) → is_line_no n ≡ true → n < 2 ^ 64
small_line n e = grind (arith, nat_tests)

-- the text of a line's key after its first two bytes
line_rest : (d : List ℕ) (n : ℕ) → key_text (Line d n) ≡ 68 ∷ 47 ∷ (d ++ 47 ∷ decimal n)
line_rest d n = ap (λ s. 68 ∷ 47 ∷ s) (append_assoc d (47 ∷ []) (decimal n))

lines_same : (d e : List ℕ) (m n : ℕ) → IsTrue (is_sound_key (Line d m)) → IsTrue (is_sound_key (Line e n)) → key_text (Line d m) ≡ key_text (Line e n) → Line d m ≡ Line e n
lines_same d e m n sound_d sound_e same =
    let x = and_both (is_name d) (is_line_no m) sound_d in
    let y = and_both (is_name e) (is_line_no n) sound_e in
    let l = line_rest d m in
    let r = line_rest e n in
    let rest : d ++ 47 ∷ decimal m ≡ e ++ 47 ∷ decimal n = cc in
    let p = first_part 47 d e (decimal m) (decimal n) (name_lacks 47 d refl x.0) (name_lacks 47 e refl y.0) rest in
    let q = decimal_injective m n (small_line m x.1) (small_line n y.1) p.1 in
    ap (λ t. Line t m) p.0 ∙ ap (λ k. Line e k) q

pub one_text : (a b : Key) → IsTrue (is_sound_key a) → IsTrue (is_sound_key b) → key_text a ≡ key_text b → a ≡ b
one_text (Plain x) (Plain y) sound_a sound_b same = let e : x ≡ y = cc in ap Plain e
one_text (Plain x) (Line y n) sound_a sound_b same = let e : ◌≡◌ {A = List ℕ} (75 ∷ 47 ∷ x) (68 ∷ 47 ∷ (y ++ 47 ∷ decimal n)) = same ∙ line_rest y n in absurd (apart _ _ e)
  where
    apart : (s t : List ℕ) → ◌≡◌ {A = List ℕ} (75 ∷ s) (68 ∷ t) → ⊥
    apart s t e = let h : ◌≡◌ {A = ℕ} 75 68 = cc in omega arith
one_text (Line x m) (Plain y) sound_a sound_b same = let e : ◌≡◌ {A = List ℕ} (68 ∷ 47 ∷ (x ++ 47 ∷ decimal m)) (75 ∷ 47 ∷ y) = cc (same, line_rest x m) in absurd (apart _ _ e)
  where
    apart : (s t : List ℕ) → ◌≡◌ {A = List ℕ} (68 ∷ s) (75 ∷ t) → ⊥
    apart s t e = let h : ◌≡◌ {A = ℕ} 68 75 = cc in omega arith
one_text (Line x m) (Line y n) sound_a sound_b same = lines_same x y m n sound_a sound_b same
