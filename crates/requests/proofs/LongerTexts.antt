-- The reading of a text that is followed by more bytes.
use Rattle.requests.proofs.Words.{◌≡◌, ◌∙◌, ap, sym, refl, inl, inr, ℕ, ◌+◌, ◌-◌, ◌≤◌, ◌<◌, min, Bool, true, false, if◌then◌else◌, arith, List, [], ◌∷◌, ◌++◌, length, take, drop, Option, Some, None, option_map, MatchOption, Result, Ok, Err, length-append, length-take, unwrap_or, nat_lt, bytes_eq, nat_tests, bytes_eq-Decides, none-some, take-append-le, drop-append-le, WireFault, Head, Length, TooLarge, Read, Need, Bad, HEAD_MAX, BLANK_LINE, head_end, fields_of, body_length, headless, after_head, answered, read_ask, IsCutReading, IsReading, needs_more, IsSettled, Ask, take-append-add}
use Rattle.requests.proofs.Readings.{all_room, too_long, no_end, some_end}

-- an empty line has four bytes
has_four : (s : List ℕ) → bytes_eq (take 4 s) BLANK_LINE ≡ true → 4 ≤ length s
has_four s e =
    let same : take 4 s ≡ BLANK_LINE = (bytes_eq-Decides (take 4 s) BLANK_LINE).0 e in
    let four : min 4 (length s) ≡ 4 = sym (length-take 4 s) ∙ ap length same in
    omega (arith, four)

inside : (b : Bool) (o : Option ℕ) (k n : ℕ) → (b ≡ true → 4 ≤ k + 1) → ((m : ℕ) → o ≡ Some m → (4 ≤ m) × (m ≤ k))
    → (if b then Some 4 else option_map (λ n. n + 1) o) ≡ Some n → (4 ≤ n) × (n ≤ k + 1)
inside true o k n here later e =
    let is : 4 ≡ n = ap (λ z. unwrap_or z 0) e in
    let room = here refl in
    (omega (arith, is), omega (arith, is, room))
inside false None k n here later e = absurd (none-some n e)
inside false (Some m) k n here later e =
    let is : m + 1 ≡ n = ap (λ z. unwrap_or z 0) e in
    let low = (later m refl).0 in
    let high = (later m refl).1 in
    (omega (arith, is, low), omega (arith, is, high))

-- the end of a head lies within the text, and behind four bytes
end_inside : (s : List ℕ) (n : ℕ) → head_end s ≡ Some n → (4 ≤ n) × (n ≤ length s)
end_inside [] n e = absurd (none-some n e)
end_inside (x ∷ xs) n e =
    let long : length (x ∷ xs) ≡ length xs + 1 = omega arith in
    let r = inside (bytes_eq (take 4 (x ∷ xs)) BLANK_LINE) (head_end xs) (length xs) n
    (λ t. let h = has_four (x ∷ xs) t in omega (arith, h, long)) (end_inside xs) e in
    let high = r.1 in
    (r.0, omega (arith, high, long))

kept_by : (b : Bool) (o p : Option ℕ) (n : ℕ) → ((m : ℕ) → o ≡ Some m → p ≡ Some m)
    → (if b then Some 4 else option_map (λ n. n + 1) o) ≡ Some n → (if b then Some 4 else option_map (λ n. n + 1) p) ≡ Some n
kept_by true o p n later e = e
kept_by false None p n later e = absurd (none-some n e)
kept_by false (Some m) p n later e = ap (option_map (λ n. n + 1)) (later m refl) ∙ e

-- the end of a head stays where it is
end_kept : (s more : List ℕ) (n : ℕ) → head_end s ≡ Some n → head_end (s ++ more) ≡ Some n
end_kept [] more n e = absurd (none-some n e)
end_kept (x ∷ xs) more n e =
    let low = (end_inside (x ∷ xs) n e).0 in
    let high = (end_inside (x ∷ xs) n e).1 in
    let same : take 4 (x ∷ xs ++ more) ≡ take 4 (x ∷ xs) = take-append-le 4 (x ∷ xs) more (omega (arith, low, high)) in
    ap (λ z. if bytes_eq z BLANK_LINE then Some 4 else option_map (λ n. n + 1) (head_end (xs ++ more))) same
    ∙ kept_by (bytes_eq (take 4 (x ∷ xs)) BLANK_LINE) (head_end xs) (head_end (xs ++ more)) n (λ m f. end_kept xs more m f) e

enough : (b : Bool) (x : Result Ask WireFault) → needs_more (if b then Need Length else answered x) ≡ false → b ≡ false
enough true x e = e
enough false x e = refl

no_less : (rest more : List ℕ) (n : ℕ) → nat_lt (length rest) n ≡ false → nat_lt (length (rest ++ more)) n ≡ false
no_less rest more n e =
    let all : length (rest ++ more) ≡ length rest + length more = length-append rest more in
    let room : n ≤ length rest = grind (arith, nat_tests) in
    let more_room : n ≤ length (rest ++ more) = omega (arith, all, room) in
    grind (arith, nat_tests)

same_rest : (method target : List ℕ) (len : Result ℕ WireFault) (rest more : List ℕ) → needs_more (after_head method target len rest) ≡ false
    → after_head method target len rest ≡ after_head method target len (rest ++ more)
same_rest method target (Err e) rest more n = refl
same_rest method target (Ok k) rest more n =
    let there : nat_lt (length rest) k ≡ false = enough (nat_lt (length rest) k) (read_ask method target (take k rest)) n in
    let room : k ≤ length rest = grind (arith, nat_tests) in
    rw (there, no_less rest more k there, take-append-le k rest more room) refl

cut_kept : (head rest more : List ℕ) (r : Read) → IsCutReading head rest r → needs_more r ≡ false → IsCutReading head (rest ++ more) r
cut_kept head rest more r (inl x) n =
    inl (x.0, x.1, x.2 ∙ same_rest x.0.method x.0.target (body_length (fields_of x.0)) rest more (sym (ap needs_more x.2) ∙ n))
cut_kept head rest more r (inr x) n = inr x

over : (b : Bool) → needs_more (if b then Bad TooLarge else Need Head) ≡ false → b ≡ true
over true e = refl
over false e = sym e

kept_in_room : (text more : List ℕ) (n : ℕ) (b : Bool) → nat_lt (length text) HEAD_MAX ≡ b → head_end (take HEAD_MAX text) ≡ Some n
    → head_end (take HEAD_MAX (text ++ more)) ≡ Some n
kept_in_room text more n true e h =
    let short : length text < 8192 = grind (arith, nat_tests) in
    let sum : length text + (8192 - length text) ≡ 8192 = omega (arith, short) in
    let longer : take HEAD_MAX (text ++ more) ≡ text ++ take (8192 - length text) more =
    ap (λ k. take k (text ++ more)) (sym sum) ∙ take-append-add text more (8192 - length text) in
    ap head_end longer ∙ end_kept text (take (8192 - length text) more) n (ap head_end (all_room text (omega (arith, short))) ∙ h)
kept_in_room text more n false e h =
    let room : 8192 ≤ length text = grind (arith, nat_tests) in
    ap head_end (take-append-le HEAD_MAX text more room) ∙ h

settled_by : (text more : List ℕ) (r : Read) (o : Option ℕ) → head_end (take HEAD_MAX text) ≡ o
    → MatchOption o (r ≡ headless text) (λ n. IsCutReading (take n text) (drop n text) r) → needs_more r ≡ false → IsReading (text ++ more) r
settled_by text more r None e x n =
    let long : nat_lt HEAD_MAX (length text) ≡ true = over (nat_lt HEAD_MAX (length text)) (sym (ap needs_more x) ∙ n) in
    let room : 8192 < length text = grind (arith, nat_tests) in
    let all : length (text ++ more) ≡ length text + length more = length-append text more in
    let same : take HEAD_MAX (text ++ more) ≡ take HEAD_MAX text = take-append-le HEAD_MAX text more (omega (arith, room)) in
    let large : r ≡ Bad TooLarge = x ∙ ap (λ b. if b then Bad TooLarge else Need Head) long in
    no_end (text ++ more) r (ap head_end same ∙ e) (large ∙ too_long (text ++ more) (omega (arith, room, all)))
settled_by text more r (Some k) e x n =
    let high = (end_inside (take HEAD_MAX text) k e).1 in
    let taken = length-take HEAD_MAX text in
    let room : k ≤ length text = omega (arith, high, taken) in
    some_end (text ++ more) k r (kept_in_room text more k (nat_lt (length text) HEAD_MAX) refl e)
    (rw (take-append-le k text more room, drop-append-le k text more room) (cut_kept (take k text) (drop k text) more r x n))

pub settled : IsSettled
settled text more r x n = settled_by text more r (head_end (take HEAD_MAX text)) refl x n
