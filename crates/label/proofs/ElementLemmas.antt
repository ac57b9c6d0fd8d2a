-- A label read element by element: each element makes the rest shorter, and more turns than needed change nothing.
use Rattle.label.proofs.Words.{◌≡◌, ℕ, zero, suc, ◌+◌, ◌≤◌, true, false, List, [], ◌∷◌, length, take, drop, ℤ, Some, None, Result, Ok, Err, refl, ap, subst, ◌∙◌, arith, length-drop, unwrap_or, cond, nat_lt, if◌then◌else◌, ◌==◌, position_or_len, nat_tests, LabelFault, IdentifierRepeated, Found, sound_or, gtin_text_fault, SEPARATOR, lot_fault, up_to_separator, Step, and_then, identifier_at, has_found, field_read, new_field_read, element_read, elements_read, label_found, expiry_read}
use Rattle.label.specs.declared.reader.Identifier.{Identifier}
use Rattle.label.specs.declared.reader.Identifier.TheVariants.{ForGtin, ForLot, ForExpiry}

pub first_or_all : (n len : ℕ) → n ≤ len → unwrap_or (cond (nat_lt n len) (Some n) None) len ≡ n
first_or_all n len h =
    elim (nat_lt n len) as (λ b. nat_lt n len ≡ b → unwrap_or (cond b (Some n) None) len ≡ n) [
      | true ↦ λ e. refl
      | false ↦ λ e. grind (arith, nat_tests)
    ] refl

-- a step is left by a rest that is no longer than a bound
abbrev pub LeavesAtMost : ℕ → Result Step LabelFault → Type 0
LeavesAtMost n (Ok step) = length step.rest ≤ n
LeavesAtMost n (Err fault) = Unit {0}

and_then_at_most : {X : Type 0} (n : ℕ) (r : Result X LabelFault) (next : X → Result Step LabelFault) → ((x : X) → LeavesAtMost n (next x)) → LeavesAtMost n (and_then r next)
and_then_at_most n (Ok x) next h = h x
and_then_at_most n (Err fault) next h = tt

shorter_drop : (n : ℕ) (s : List ℕ) → length (drop n s) ≤ length s
shorter_drop n s = simp length-drop (omega arith)

pub field_read-at_most : (today : ℤ) (found : Found) (identifier : Identifier) (s : List ℕ) → LeavesAtMost (length s) (field_read today found identifier s)
field_read-at_most today found ForGtin s = and_then_at_most (length s) (sound_or (gtin_text_fault (take 14 s)) (take 14 s)) _ (λ gtin. shorter_drop 14 s)
field_read-at_most today found ForLot s = and_then_at_most (length s) (sound_or (lot_fault s) (up_to_separator s)) _ (λ lot. shorter_drop (position_or_len (λ c. c == SEPARATOR) s + 1) s)
field_read-at_most today found ForExpiry s = and_then_at_most (length s) (expiry_read today (take 6 s)) _ (λ day. shorter_drop 6 s)

new_field_read-at_most : (today : ℤ) (found : Found) (identifier : Identifier) (s : List ℕ) → LeavesAtMost (length s) (new_field_read today found identifier s)
new_field_read-at_most today found identifier s =
    elim (has_found found identifier) as (λ b. LeavesAtMost (length s) (if b then Err IdentifierRepeated else field_read today found identifier s)) [
      | true ↦ tt
      | false ↦ field_read-at_most today found identifier s
    ]

-- the element of an identifier that was not found before
pub element_read-new : (today : ℤ) (found : Found) (s : List ℕ) (identifier : Identifier) → identifier_at (take 2 s) ≡ Ok identifier → has_found found identifier ≡ false
    → element_read today found s ≡ field_read today found identifier (drop 2 s)
element_read-new today found s identifier e h =
    ap (λ r. and_then r (λ i. new_field_read today found i (drop 2 s))) e
    ∙ ap (λ b. if b then Err IdentifierRepeated else field_read today found identifier (drop 2 s)) h

-- an element takes at least one byte of the text
pub element_read-at_most : (today : ℤ) (found : Found) (c : ℕ) (cs : List ℕ) → LeavesAtMost (length cs) (element_read today found (c ∷ cs))
element_read-at_most today found c cs =
    and_then_at_most (length cs) (identifier_at (take 2 (c ∷ cs))) _ (λ identifier. at_most_tail identifier)
  where
    weaker : (r : Result Step LabelFault) (m n : ℕ) → m ≤ n → LeavesAtMost m r → LeavesAtMost n r
    weaker (Ok step) m n h k = omega arith
    weaker (Err fault) m n h k = tt

    at_most_tail : (identifier : Identifier) → LeavesAtMost (length cs) (new_field_read today found identifier (drop 2 (c ∷ cs)))
    at_most_tail identifier =
        let h : length (drop 2 (c ∷ cs)) ≤ length cs = simp length-drop (omega arith) in
        weaker _ (length (drop 2 (c ∷ cs))) (length cs) h (new_field_read-at_most today found identifier (drop 2 (c ∷ cs)))

same_next : (k m : ℕ) (today : ℤ) (cs : List ℕ) (r : Result Step LabelFault) → LeavesAtMost (length cs) r
    → ((next : Found) (rest : List ℕ) → length rest ≤ length cs → elements_read k today next rest ≡ elements_read m today next rest)
    → and_then r (λ step. elements_read k today step.found step.rest) ≡ and_then r (λ step. elements_read m today step.found step.rest)
same_next k m today cs (Err fault) few same = refl
same_next k m today cs (Ok step) few same = same step.found step.rest few

-- turns beyond the length of the text change nothing
pub elements_read-enough : (k m : ℕ) (today : ℤ) (found : Found) (s : List ℕ) → length s ≤ k → length s ≤ m → elements_read k today found s ≡ elements_read m today found s
elements_read-enough zero m today found [] h i = both_end m
  where
    both_end : (m : ℕ) → label_found found ≡ elements_read m today found []
    both_end zero = refl
    both_end (suc m) = refl
elements_read-enough (suc k) zero today found [] h i = refl
elements_read-enough (suc k) (suc m) today found [] h i = refl
elements_read-enough zero m today found (c ∷ cs) h i = absurd (omega arith)
elements_read-enough (suc k) zero today found (c ∷ cs) h i = absurd (omega arith)
elements_read-enough (suc k) (suc m) today found (c ∷ cs) h i =
    same_next k m today cs (element_read today found (c ∷ cs)) (element_read-at_most today found c cs)
    (λ next rest few. elements_read-enough k m today next rest (omega arith) (omega arith))

-- one turn, and then as many as the rest may need
pub elements_read-turn : (today : ℤ) (found : Found) (s : List ℕ) (step : Step) → 1 ≤ length s → element_read today found s ≡ Ok step
    → elements_read (length s) today found s ≡ elements_read (length step.rest) today step.found step.rest
elements_read-turn today found [] step h e = absurd (omega arith)
elements_read-turn today found (c ∷ cs) step h e =
    let few : length step.rest ≤ length cs = subst (LeavesAtMost (length cs)) e (element_read-at_most today found c cs) in
    ap (λ r. and_then r (λ next. elements_read (length cs) today next.found next.rest)) e
    ∙ elements_read-enough (length cs) (length step.rest) today step.found step.rest few (omega arith)
