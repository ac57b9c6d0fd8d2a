-- Names with one more and without one.
use Rattle.rows_in_memory.proofs.Words.{◌≡◌, ℕ, Bool, true, false, not, ◌&&◌, List, [], ◌∷◌, ◌++◌, filter, refl, ap, sym, subst, ◌∙◌, ◌||◌, if◌then◌else◌, list_any, Result, Ok, Err, OnOk, OnErr, same_text, orders_at, holds, are_apart, with_order, without_order, ChangesAt, IsSame, Gains, Loses, same_text_is, same_text_turned}
use Rattle.rows_in_memory.specs.OpenLines.{is_among}
use Rattle.rows_in_memory.proofs.Truths.{and_both, and_true, or_none, or_false, and_false, not_true}

-- One more

among_more : (names : List (List ℕ)) (x y : List ℕ) → is_among (names ++ x ∷ []) y ≡ is_among names y || same_text y x
among_more [] x y = or_false (same_text y x)
among_more (n ∷ names) x y = elim (same_text y n) as (λ b. b || is_among (names ++ x ∷ []) y ≡ (b || is_among names y) || same_text y x) [ true ↦ refl | false ↦ among_more names x y ]

among_with : (x : List ℕ) (names : List (List ℕ)) (y : List ℕ) → is_among (with_order x names) y ≡ is_among names y || same_text y x
among_with x names y = elim (is_among names x) as (λ b. is_among names x ≡ b → is_among (if b then names else names ++ x ∷ []) y ≡ is_among names y || same_text y x) [
  | true ↦ λ e. known (same_text y x) refl e
  | false ↦ λ e. among_more names x y
] refl
  where
    known : (b : Bool) → same_text y x ≡ b → is_among names x ≡ true → is_among names y ≡ is_among names y || b
    known true f e =
        let there : is_among names y ≡ true = subst (λ (z : List ℕ). is_among names z ≡ true) (sym (same_text_is y x f)) e in
        there ∙ sym (ap (λ c. c || true) there)
    known false f e = sym (or_false (is_among names y))

apart_more : (x : List ℕ) (names : List (List ℕ)) → is_among names x ≡ false → are_apart names ≡ true → are_apart (names ++ x ∷ []) ≡ true
apart_more x [] e h = refl
apart_more x (n ∷ names) e h =
    let two = or_none (same_text x n) (is_among names x) e in
    let rest = and_both (not (is_among names n)) (are_apart names) h in
    let none : is_among (names ++ x ∷ []) n ≡ false = among_more names x n ∙ ap (λ b. b || same_text n x) (not_true (is_among names n) rest.0) ∙ same_text_turned n x ∙ two.0 in
    and_true _ _ (ap not none) (apart_more x names two.1 rest.1)

apart_with : (x : List ℕ) (names : List (List ℕ)) → are_apart names ≡ true → are_apart (with_order x names) ≡ true
apart_with x names h = elim (is_among names x) as (λ b. is_among names x ≡ b → are_apart (if b then names else names ++ x ∷ []) ≡ true) [ true ↦ λ e. h | false ↦ λ e. apart_more x names e h ] refl

-- names with one more, or as they were
pub added_apart : {X E : Type 0} (r : Result X E) (o : List ℕ) (old new : List (List ℕ)) → OnOk r (new ≡ with_order o old) → OnErr r (new ≡ old) → are_apart old ≡ true → are_apart new ≡ true
added_apart (Ok x) o old new added same h = ap are_apart added ∙ apart_with o old h
added_apart (Err e) o old new added same h = ap are_apart same ∙ h

-- One less

pub among_without : (x : List ℕ) (names : List (List ℕ)) (y : List ℕ) → is_among (without_order x names) y ≡ is_among names y && not (same_text y x)
among_without x [] y = refl
among_without x (n ∷ names) y =
    elim (same_text x n) as (λ b. same_text x n ≡ b → is_among (if not b then n ∷ without_order x names else without_order x names) y ≡ is_among (n ∷ names) y && not (same_text y x)) [
      | true ↦ λ e. among_without x names y ∙ gone (same_text y n) (is_among names y) (same_text y x) (ap (same_text y) (same_text_is x n e))
      | false ↦ λ e. ap (λ b. same_text y n || b) (among_without x names y) ∙ stays (same_text y n) (is_among names y) (same_text y x) (λ f g. other e f g)
    ] refl
  where
    gone : (a b c : Bool) → c ≡ a → b && not c ≡ (a || b) && not c
    gone true b c e = ap (λ d. b && not d) e ∙ and_false b ∙ sym (ap not e)
    gone false b c e = refl

    other : same_text x n ≡ false → same_text y n ≡ true → same_text y x ≡ true → ⊥
    other e f g =
        let is : same_text y n ≡ false = ap (λ (z : List ℕ). same_text z n) (same_text_is y x g) ∙ e in
        let none : true ≡ false = sym f ∙ is in
        cc

    stays : (a b c : Bool) → (a ≡ true → c ≡ true → ⊥) → a || (b && not c) ≡ (a || b) && not c
    stays true b true f = absurd (f refl refl)
    stays true b false f = refl
    stays false b c f = refl

-- a name that is not there is not missed
pub without_none : (x : List ℕ) (names : List (List ℕ)) → is_among names x ≡ false → without_order x names ≡ names
without_none x [] e = refl
without_none x (n ∷ names) e =
    let two = or_none (same_text x n) (is_among names x) e in
    ap (λ b. if not b then n ∷ without_order x names else without_order x names) two.0 ∙ ap (λ l. n ∷ l) (without_none x names two.1)

any_kept : (keep test : List ℕ → Bool) (names : List (List ℕ)) → list_any test names ≡ false → list_any test (filter keep names) ≡ false
any_kept keep test [] e = refl
any_kept keep test (n ∷ names) e =
    let two = or_none (test n) (list_any test names) e in
    elim (keep n) as (λ c. list_any test (if c then n ∷ filter keep names else filter keep names) ≡ false) [ true ↦ ap (λ c. c || list_any test (filter keep names)) two.0 ∙ any_kept keep test names two.1 | false ↦ any_kept keep test names two.1 ]

pub apart_kept : (keep : List ℕ → Bool) (names : List (List ℕ)) → are_apart names ≡ true → are_apart (filter keep names) ≡ true
apart_kept keep [] h = refl
apart_kept keep (n ∷ names) h =
    let two = and_both (not (is_among names n)) (are_apart names) h in
    elim (keep n) as (λ c. are_apart (if c then n ∷ filter keep names else filter keep names) ≡ true) [
      | true ↦ and_true _ _ (ap not (any_kept keep (same_text n) names (not_true (is_among names n) two.0))) (apart_kept keep names two.1)
      | false ↦ apart_kept keep names two.1
    ]

pub apart_without : (x : List ℕ) (names : List (List ℕ)) → are_apart names ≡ true → are_apart (without_order x names) ≡ true
apart_without x names h = apart_kept (λ y. not (same_text x y)) names h

-- What stands with an item

pub gains_one : (item order : List ℕ) (old new : List (List ℕ × List (List ℕ))) → ChangesAt item (with_order order) old new → Gains (λ g o. same_text o order && same_text g item) old new
gains_one item order old new changes g o =
    ap (λ names. is_among names o) (changes g)
    ∙ elim (same_text item g) as (λ b. is_among (if b then with_order order (orders_at old g) else orders_at old g) o ≡ holds old g o || (same_text o order && b)) [
      | true ↦ among_with order (orders_at old g) o ∙ ap (λ b. holds old g o || b) (sym (all (same_text o order)))
      | false ↦ sym (ap (λ b. holds old g o || b) (and_false (same_text o order)) ∙ or_false (holds old g o))
    ]
    ∙ ap (λ b. holds old g o || (same_text o order && b)) (same_text_turned item g)
  where
    all : (a : Bool) → a && true ≡ a
    all true = refl
    all false = refl

pub loses_one : (item order : List ℕ) (old new : List (List ℕ × List (List ℕ))) → ChangesAt item (without_order order) old new → Loses (λ g o. same_text o order && same_text g item) old new
loses_one item order old new changes g o =
    ap (λ names. is_among names o) (changes g)
    ∙ elim (same_text item g) as (λ b. is_among (if b then without_order order (orders_at old g) else orders_at old g) o ≡ holds old g o && not (same_text o order && b)) [
      | true ↦ among_without order (orders_at old g) o ∙ ap (λ b. holds old g o && not b) (sym (all (same_text o order)))
      | false ↦ sym (ap (λ b. holds old g o && not b) (and_false (same_text o order)) ∙ every (holds old g o))
    ]
    ∙ ap (λ b. holds old g o && not (same_text o order && b)) (same_text_turned item g)
  where
    all : (a : Bool) → a && true ≡ a
    all true = refl
    all false = refl

    every : (a : Bool) → a && true ≡ a
    every true = refl
    every false = refl

pub same_holds : (old new : List (List ℕ × List (List ℕ))) → IsSame old new → (g o : List ℕ) → holds new g o ≡ holds old g o
same_holds old new same g o = ap (λ names. is_among names o) (same g)
