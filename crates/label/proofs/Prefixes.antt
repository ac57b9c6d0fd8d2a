-- The prefix of a label.
use Rattle.label.proofs.Words.{◌≡◌, ℕ, zero, suc, ◌<◌, Bool, true, false, List, [], ◌∷◌, ◌++◌, take, Option, Some, None, refl, sym, subst, arith, ⊎_elim, if◌then◌else◌, ℤ, Contains, slice_index_or, or_cases, false≢true, not-false, take-append-drop, bytes_eq-Decides, same_text, first_is, prefixes, is_listed, rest_fault, has_bad_prefix, without_prefix, label_fault, LabelFault}

-- what is left of a text with a prefix
pub past_prefix : (prefix body : List ℕ) → first_is 93 body ≡ false → (k : ℕ) → k < 4 → slice_index_or prefixes k prefix ≡ prefix
    → (has_bad_prefix (prefix ++ body) ≡ false) × (without_prefix (prefix ++ body) ≡ body)
past_prefix prefix body h zero lt is = subst (λ t. (has_bad_prefix (t ++ body) ≡ false) × (without_prefix (t ++ body) ≡ body)) is (rw h refl, rw h refl)
past_prefix prefix body h (suc zero) lt is = subst (λ t. (has_bad_prefix (t ++ body) ≡ false) × (without_prefix (t ++ body) ≡ body)) is (refl, refl)
past_prefix prefix body h (suc (suc zero)) lt is = subst (λ t. (has_bad_prefix (t ++ body) ≡ false) × (without_prefix (t ++ body) ≡ body)) is (refl, refl)
past_prefix prefix body h (suc (suc (suc zero))) lt is = subst (λ t. (has_bad_prefix (t ++ body) ≡ false) × (without_prefix (t ++ body) ≡ body)) is (refl, refl)
past_prefix prefix body h (suc (suc (suc (suc k)))) lt is = absurd (omega arith)

listed : (texts : List (List ℕ)) (s : List ℕ) → is_listed texts s ≡ true → Contains texts s
listed [] s h = absurd (false≢true h)
listed (t ∷ ts) s h = ⊎_elim
    (λ here. (0, omega arith, sym ((bytes_eq-Decides s t).0 here)))
    (λ there. let x = listed ts s there in (suc x.0, omega arith, x.2))
    (or_cases (same_text s t) (is_listed ts s) h)

-- a text with no bad prefix is a prefix and what is left of it
pub prefix_of : (s : List ℕ) → has_bad_prefix s ≡ false → (prefix : List ℕ) × Contains prefixes prefix × (s ≡ prefix ++ without_prefix s)
prefix_of s h = by (first_is 93 s) refl
  where
    by : (b : Bool) → first_is 93 s ≡ b → (prefix : List ℕ) × Contains prefixes prefix × (s ≡ prefix ++ without_prefix s)
    by true e =
        let known : is_listed prefixes (take 3 s) ≡ true = not-false _ (rw e at h) in
        (take 3 s, listed prefixes (take 3 s) known, rw e (sym (take-append-drop 3 s)))
    by false e = ([], (0, omega arith, refl), rw e refl)

pub label_fault-good_prefix : (today : ℤ) (s : List ℕ) → has_bad_prefix s ≡ false → label_fault today s ≡ rest_fault today [] (without_prefix s)
label_fault-good_prefix today s h = rw h refl

pub good_prefix : (b : Bool) (f : LabelFault) (o : Option LabelFault) → (if b then Some f else o) ≡ None → (b ≡ false) × (o ≡ None)
good_prefix b f o h = grind arith
