-- A text that needs more bytes is shorter than the longest head and the longest body together.
use Rattle.wire.proofs.Words.{◌≡◌, ℕ, ◌+◌, ◌-◌, ◌<◌, ◌≤◌, true, false, List, [], ◌∷◌, length, take, drop, Option, Some, None, refl, sym, ap, ◌∙◌, inl, inr, arith, length-take, length-drop, Bool, ◌||◌, nat_lt, if◌then◌else◌, Result, Ok, Err, MatchOption, option_map, codes, list_any, find, count_by, nat_tests, HEAD_MAX, BODY_MAX, head_end, fields_of, body_length, is_named, length_field, number_from, Named, headless, answered, after_head, read_ask, IsCutReading, IsReading, needs_more, WireFault, Head, Length, TooLarge, Ask, Read, Need, Bad}

-- the length of a body is within its limit
within : (small large : Bool) (v n : ℕ) → nat_lt BODY_MAX v ≡ large → (if small then Err Length else (if large then Err TooLarge else Ok v)) ≡ Ok n → n ≤ 262144
within true large v n e h = absurd cc
within false true v n e h = absurd cc
within false false v n e h = let is : v ≡ n = cc in grind (arith, nat_tests)

field_within : (o : Option Named) (n : ℕ) → length_field o ≡ Ok n → n ≤ 262144
field_within None n h = let is : 0 ≡ n = cc in omega arith
field_within (Some f) n h = within _ _ (number_from 0 f.1) n refl h

by : (b : Bool) (o : Option Named) (n : ℕ) → (if b then Err Length else length_field o) ≡ Ok n → n ≤ 262144
by true o n h = absurd cc
by false o n h = field_within o n h

length_within : (fields : List Named) (n : ℕ) → body_length fields ≡ Ok n → n ≤ 262144
length_within fields n h =
    by (list_any (is_named (codes "transfer-encoding")) fields || nat_lt 1 (count_by (is_named (codes "content-length")) fields))
    (find (is_named (codes "content-length")) fields) n h

-- the body is not there yet
short_body : (b : Bool) (x : Result Ask WireFault) → needs_more (if b then Need Length else answered x) ≡ true → b ≡ true
short_body true x h = refl
short_body false (Ok a) h = absurd cc
short_body false (Err e) h = absurd cc

behind : (method target : List ℕ) (len : Result ℕ WireFault) (rest : List ℕ) → ((n : ℕ) → len ≡ Ok n → n ≤ 262144)
    → needs_more (after_head method target len rest) ≡ true → length rest < 262144
behind method target (Err e) rest limit h = absurd cc
behind method target (Ok n) rest limit h =
    let less : nat_lt (length rest) n ≡ true = short_body (nat_lt (length rest) n) (read_ask method target (take n rest)) h in
    let most : n ≤ 262144 = limit n refl in
    grind (arith, nat_tests)

cut_short : (head rest : List ℕ) (r : Read) → IsCutReading head rest r → needs_more r ≡ true → length rest < 262144
cut_short head rest r (inl h) more =
    behind h.0.method h.0.target (body_length (fields_of h.0)) rest (length_within (fields_of h.0)) (sym (ap needs_more h.2) ∙ more)
cut_short head rest r (inr h) more = absurd (let e : needs_more r ≡ false = ap needs_more h.1 in cc)

head_short : (b : Bool) → needs_more (if b then Bad TooLarge else Need Head) ≡ true → b ≡ false
head_short true h = absurd cc
head_short false h = refl

-- the end of a head lies within the text
near : (b : Bool) (o : Option ℕ) (k n : ℕ) → ((m : ℕ) → o ≡ Some m → m ≤ k + 4) → (if b then Some 4 else option_map (λ m. m + 1) o) ≡ Some n → n ≤ k + 5
near true o k n h e = let is : 4 ≡ n = cc in omega arith
near false None k n h e = absurd cc
near false (Some m) k n h e = let is : m + 1 ≡ n = cc in let le : m ≤ k + 4 = h m refl in omega arith

end_near : (s : List ℕ) (n : ℕ) → head_end s ≡ Some n → n ≤ length s + 4
end_near [] n e = absurd cc
end_near (x ∷ xs) n e =
    let le : n ≤ length xs + 5 = near _ (head_end xs) (length xs) n (end_near xs) e in
    omega arith

bounded_by : (text : List ℕ) (r : Read) (o : Option ℕ) → head_end (take HEAD_MAX text) ≡ o
    → MatchOption o (r ≡ headless text) (λ n. IsCutReading (take n text) (drop n text) r) → needs_more r ≡ true → length text < 270_400
bounded_by text r None e is more =
    let fits : nat_lt HEAD_MAX (length text) ≡ false = head_short (nat_lt HEAD_MAX (length text)) (sym (ap needs_more is) ∙ more) in
    grind (arith, nat_tests)
bounded_by text r (Some n) e cut more =
    let at : n ≤ length (take 8192 text) + 4 = end_near (take HEAD_MAX text) n e in
    let head : length (take 8192 text) ≤ 8192 = simp length-take (omega arith) in
    let rest : length (drop n text) < 262144 = cut_short (take n text) (drop n text) r cut more in
    let whole : length (drop n text) ≡ length text - n = length-drop n text in
    omega arith

pub bounded : (text : List ℕ) (r : Read) → IsReading text r → needs_more r ≡ true → length text < 270_400
bounded text r read more = bounded_by text r (head_end (take HEAD_MAX text)) refl read more
