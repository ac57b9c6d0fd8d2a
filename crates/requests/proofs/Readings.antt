-- The reading of a text, by the end of its head.
use Rattle.requests.proofs.Words.{◌≡◌, ◌∙◌, ap, sym, refl, inl, inr, ℕ, ◌≤◌, ◌<◌, min, true, false, arith, List, length, take, drop, Some, None, Result, nat_lt, nat_tests, take_min, take-length, RequestHead, WireFault, Head, TooLarge, HEAD_MAX, head_end, IsHead, fields_of, body_length, headless, after_head, IsCutReading, IsReading, Read, Need, Bad}

pub no_end : (text : List ℕ) (r : Read) → head_end (take HEAD_MAX text) ≡ None → r ≡ headless text → IsReading text r
no_end text r e h = rw e h

pub some_end : (text : List ℕ) (n : ℕ) (r : Read) → head_end (take HEAD_MAX text) ≡ Some n
    → IsCutReading (take n text) (drop n text) r → IsReading text r
some_end text n r e h = rw e h

pub whole_head : (head rest method target : List ℕ) (len : Result ℕ WireFault) (r : Read)
    → (h : RequestHead) × IsHead head h × (method ≡ h.method) × (target ≡ h.target) × (len ≡ body_length (fields_of h))
    → r ≡ after_head method target len rest → IsCutReading head rest r
whole_head head rest method target len r x e =
    inl (x.0, x.1, e ∙ ap (λ m. after_head m target len rest) x.2 ∙ ap (λ t. after_head x.0.method t len rest) x.3 ∙ ap (λ l. after_head x.0.method x.0.target l rest) x.4)

pub no_head : (head rest : List ℕ) → ((h : RequestHead) → ¬ (IsHead head h)) → IsCutReading head rest (Bad Head)
no_head head rest none = inr (none, refl)

pub all_room : (text : List ℕ) → length text ≤ 8192 → text ≡ take HEAD_MAX text
all_room text h =
    let e : length text ≡ min 8192 (length text) = omega (arith, h) in
    sym (take-length text) ∙ ap (λ k. take k text) e ∙ take_min 8192 text

pub too_long : (text : List ℕ) → 8192 < length text → Bad TooLarge ≡ headless text
too_long text h = let t : nat_lt HEAD_MAX (length text) ≡ true = grind (arith, nat_tests) in rw t refl

pub too_short : (text : List ℕ) → length text ≤ 8192 → Need Head ≡ headless text
too_short text h = let t : nat_lt HEAD_MAX (length text) ≡ false = grind (arith, nat_tests) in rw t refl
