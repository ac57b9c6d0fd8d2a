-- Where a lot ends: at the first separator, or with the text.
use Rattle.label.proofs.Words.{◌≡◌, ℕ, suc, ◌+◌, Bool, true, false, List, [], ◌∷◌, ◌++◌, length, drop, refl, sym, ap, ◌∙◌, subst, arith, ⊎_elim, length-append, add-one, ◌==◌, list_all, position_or_len, and_parts, eqb-true, eqb-false, ne_eqb, cases_lt, false≢true, append-nil, take_at, take_all, drop_all, split_at_first, passes_at_first, is_set_82, SEPARATOR, up_to_separator, after_separator}

-- a lot's text, with what follows it: the separator stands between them exactly if something follows
abbrev pub ended : List ℕ → List ℕ
ended [] = []
ended (c ∷ cs) = SEPARATOR ∷ c ∷ cs

abbrev ends_lot : ℕ → Bool
ends_lot c = c == SEPARATOR

is_not_separator : (c : ℕ) → is_set_82 c ≡ true → (c == SEPARATOR) ≡ false
is_not_separator c h = ne_eqb c 29 (λ e. false≢true (subst (λ x. is_set_82 x ≡ true) e h))

position_in_lot : (l r : List ℕ) → list_all is_set_82 l ≡ true → position_or_len ends_lot (l ++ r) ≡ length l + position_or_len ends_lot r
position_in_lot [] r h = omega arith
position_in_lot (c ∷ cs) r h =
    let parts = and_parts (is_set_82 c) (list_all is_set_82 cs) h in
    rw (is_not_separator c parts.0) (omega (arith, position_in_lot cs r parts.1))

position-ended : (r : List ℕ) → position_or_len ends_lot (ended r) ≡ 0
position-ended [] = refl
position-ended (c ∷ cs) = refl

position_at_end : (l r : List ℕ) → list_all is_set_82 l ≡ true → position_or_len ends_lot (l ++ ended r) ≡ length l
position_at_end l r h = omega (arith, position_in_lot l (ended r) h, position-ended r)

pub up_to_separator-lot : (l r : List ℕ) → list_all is_set_82 l ≡ true → up_to_separator (l ++ ended r) ≡ l
up_to_separator-lot l r h = rw (position_at_end l r h) (take_at l (ended r) (length l) refl)

past_separator : (l r : List ℕ) → drop (suc (length l)) (l ++ ended r) ≡ r
past_separator l [] = drop_all (suc (length l)) (l ++ []) (omega (arith, ap length (append-nil l)))
past_separator [] (c ∷ cs) = refl
past_separator (x ∷ xs) (c ∷ cs) = past_separator xs (c ∷ cs)

pub after_separator-lot : (l r : List ℕ) → list_all is_set_82 l ≡ true → after_separator (l ++ ended r) ≡ r
after_separator-lot l r h = rw (position_at_end l r h, add-one) (past_separator l r)

-- the separator that ends a lot is not the last byte
pub not_trailing : (l r : List ℕ) → (length (l ++ ended r) == length l + 1) ≡ false
not_trailing l [] = ne_eqb _ _ (λ e. omega (arith, length-append l []))
not_trailing l (c ∷ cs) = ne_eqb _ _ (λ e. omega (arith, length-append l (29 ∷ c ∷ cs)))

after_nonempty : (l r : List ℕ) → (length (l ++ SEPARATOR ∷ r) == length l + 1) ≡ false → SEPARATOR ∷ r ≡ ended r
after_nonempty l [] h = absurd (eqb-false _ _ h (omega (arith, length-append l (29 ∷ []))))
after_nonempty l (c ∷ cs) h = refl

-- each text is a lot with what follows it, unless its first separator is its last byte
pub lot_and_rest : (s : List ℕ) → (length s == length (up_to_separator s) + 1) ≡ false → s ≡ up_to_separator s ++ ended (after_separator s)
lot_and_rest s h = ⊎_elim
    (λ inside.
    let split = split_at_first ends_lot s 0 inside in
    let is = eqb-true _ _ (passes_at_first ends_lot s 0 inside) in
    let cut : s ≡ up_to_separator s ++ SEPARATOR ∷ after_separator s = split ∙ ap (λ c. up_to_separator s ++ c ∷ after_separator s) is in
    cut ∙ ap (λ t. up_to_separator s ++ t) (after_nonempty (up_to_separator s) (after_separator s) (subst (λ t. (length t == length (up_to_separator s) + 1) ≡ false) cut h)))
    (λ past.
    let all : up_to_separator s ≡ s = take_all (position_or_len ends_lot s) s past in
    let none : after_separator s ≡ [] = drop_all (position_or_len ends_lot s + 1) s (omega arith) in
    sym (ap (λ t. up_to_separator s ++ ended t) none ∙ append-nil (up_to_separator s) ∙ all))
    (cases_lt (position_or_len ends_lot s) (length s))
