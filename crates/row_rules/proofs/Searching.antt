-- A search along a list.
use Rattle.row_rules.proofs.Words.{◌≡◌, ℕ, ◌+◌, ◌<◌, Bool, true, false, List, length, get_or, take, drop, refl, ap, sym, ◌∙◌, ◌||◌, find, Some, if◌then◌else◌, list_any, take-append-drop, list_any-append, drop_from}

-- what the search finds is found from i on
pub record IsSearched {X : Type 0} (test : X → Bool) (xs : List X) (i : ℕ) : Type 0 where
  pub rest : find test (drop i xs) ≡ find test xs

step : {X : Type 0} (test : X → Bool) (xs : List X) (i : ℕ) (none : X) → i < length xs → IsSearched test xs i
    → (if test (get_or xs i none) then Some (get_or xs i none) else find test (drop (i + 1) xs)) ≡ find test xs
step test xs i none h s = sym (ap (find test) (drop_from xs i none h)) ∙ s.rest

-- what any passes from i on
pub record IsTested {X : Type 0} (test : X → Bool) (xs : List X) (i : ℕ) : Type 0 where
  pub rest : list_any test (drop i xs) ≡ list_any test xs

parts : {X : Type 0} (test : X → Bool) (xs : List X) (i : ℕ) → list_any test (take i xs) || list_any test (drop i xs) ≡ list_any test xs
parts test xs i = sym (list_any-append test (take i xs) (drop i xs)) ∙ ap (list_any test) (take-append-drop i xs)

pub any_behind : {X : Type 0} (test : X → Bool) (xs : List X) (i : ℕ) → list_any test (drop i xs) ≡ true → true ≡ list_any test xs
any_behind test xs i e = sym (ap (λ b. list_any test (take i xs) || b) e ∙ always (list_any test (take i xs))) ∙ parts test xs i
  where
    always : (b : Bool) → b || true ≡ true
    always true = refl
    always false = refl

pub any_before : {X : Type 0} (test : X → Bool) (xs : List X) (i : ℕ) → list_any test (drop i xs) ≡ false → list_any test (take i xs) ≡ list_any test xs
any_before test xs i e = sym (either (list_any test (take i xs))) ∙ ap (λ b. list_any test (take i xs) || b) (sym e) ∙ parts test xs i
  where
    either : (b : Bool) → b || false ≡ b
    either true = refl
    either false = refl
