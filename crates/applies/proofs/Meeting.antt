-- Lists of acts that end with the same ones, and where the lines of one stand in the text of another.
use Rattle.applies.proofs.Words.{◌≡◌, ◌≢◌, ℕ, ◌+◌, ◌-◌, ◌<◌, ◌≤◌, ◌^◌, List, [], ◌∷◌, ◌++◌, append_assoc, length, length-append, inl, inr, refl, sym, ap, subst, ◌∙◌, arith, ◌⊎◌, ℤ, decimal, decimal_injective, key_text, spelling, first_part, Act, next_number, IsHistory, today, day_after_command, history_line, act_line, IsPart, IsNumbered}
use Rattle.applies.proofs.LineFields.{line_parts, number_lacks}
use Rattle.applies.proofs.Fronts.{small, act_is_line, one_act, same_line, part_no_line, onto, onto_twice, onto_again, forward, onto_history}

-- ---- ends of lists

pub no_acts : (xs : List Act) → length xs ≡ 0 → xs ≡ []
no_acts [] e = refl
no_acts (x ∷ xs) e = absurd (omega (arith, e))

-- two ends of one list that are equally long
pub one_end : (xs ys l m : List Act) → xs ++ l ≡ ys ++ m → length l ≡ length m → l ≡ m
one_end [] [] l m e n = e
one_end [] (y ∷ ys) l m e n = let k = ap length e in let a = length-append ys m in absurd (omega (arith, k, a, n))
one_end (x ∷ xs) [] l m e n = let k = ap length e in let a = length-append xs l in absurd (omega (arith, k, a, n))
one_end (x ∷ xs) (y ∷ ys) l m e n = let t : xs ++ l ≡ ys ++ m = cc in one_end xs ys l m t n

-- the shorter one of two is an end of the other
pub end_of : (xs ys l m : List Act) → xs ++ l ≡ ys ++ m → length l ≤ length m → (zs : List Act) × (m ≡ zs ++ l)
end_of xs [] l m e n = (xs, sym e)
end_of [] (y ∷ ys) l m e n = let k = ap length e in let a = length-append ys m in absurd (omega (arith, k, a, n))
end_of (x ∷ xs) (y ∷ ys) l m e n = let t : xs ++ l ≡ ys ++ m = cc in end_of xs ys l m t n

pub onto_append : (xs ys l : List Act) → onto (xs ++ ys) l ≡ onto ys (onto xs l)
onto_append [] ys l = refl
onto_append (x ∷ xs) ys l = onto_append xs ys (x ∷ l)

pub onto_front : (xs l : List Act) → onto xs l ≡ onto xs [] ++ l
onto_front xs l = sym (ap (λ ys. onto ys l) (onto_again xs)) ∙ onto_twice (onto xs []) [] l

-- ---- the acts of a text beside those of the books

module _ (acts newer later known older : List Act) (parts : acts ≡ later ++ known ++ older) (next : newer ≢ [] → later ≡ []) where
  abbrev pub shown : List Act
  shown = (newer ++ known) ++ older

  parts_sum : length acts ≡ length later + length known + length older
  parts_sum = let a = ap length parts in let b = length-append (later ++ known) older in let c = length-append later known in omega (arith, a, b, c)

  pub shown_sum : length shown ≡ length newer + length known + length older
  shown_sum = let a = length-append (newer ++ known) older in let b = length-append newer known in omega (arith, a, b)

  known_parts : acts ≡ later ++ (known ++ older)
  known_parts = parts ∙ append_assoc later known older

-- where there are newer ones, the text goes on where the books end
pub goes_behind : (acts newer later known older : List Act) → acts ≡ later ++ known ++ older → (newer ≢ [] → later ≡ []) → newer ≢ [] → (newer ++ known) ++ older ≡ newer ++ acts
goes_behind acts newer later known older parts next some =
    append_assoc newer known older ∙ ap (λ l. newer ++ l) (sym (known_parts acts newer later known older parts next ∙ ap (λ l. l ++ (known ++ older)) (next some)))

-- they are the end of the acts of the books and of the newer ones
pub shown_behind : (acts newer later known older : List Act) → acts ≡ later ++ known ++ older → (newer ≢ [] → later ≡ []) → (front : List Act) × (newer ++ acts ≡ front ++ ((newer ++ known) ++ older))
shown_behind acts [] later known older parts next = (later, known_parts acts [] later known older parts next)
shown_behind acts (x ∷ xs) later known older parts next = ([], sym (goes_behind acts (x ∷ xs) later known older parts next (λ e. cc)))

-- as many as they are more than the acts are newer
pub newer_length : (acts newer later known older : List Act) → acts ≡ later ++ known ++ older → (newer ≢ [] → later ≡ []) → length newer ≡ length ((newer ++ known) ++ older) - length acts
newer_length acts [] later known older parts next =
    let a = shown_sum acts [] later known older parts next in
    let b = parts_sum acts [] later known older parts next in
    omega (arith, a, b)
newer_length acts (x ∷ xs) later known older parts next =
    let a = shown_sum acts (x ∷ xs) later known older parts next in
    let b = parts_sum acts (x ∷ xs) later known older parts next in
    let c = ap length (next (λ e. cc)) in
    omega (arith, a, b, c)

-- where they are as many as the acts, they end with all of these
pub reaches : (acts newer later known older : List Act) → acts ≡ later ++ known ++ older → (newer ≢ [] → later ≡ []) → length acts ≤ length ((newer ++ known) ++ older) → (newer ++ known) ++ older ≡ newer ++ acts
reaches acts [] later known older parts next long =
    let all = known_parts acts [] later known older parts next in
    let a = ap length all in
    let b = length-append later (known ++ older) in
    one_end later [] (known ++ older) acts (sym all) (omega (arith, a, b, long))
reaches acts (x ∷ xs) later known older parts next long = goes_behind acts (x ∷ xs) later known older parts next (λ e. cc)

-- ---- the number of a line

pub same_number : (n m : ℕ) (d e : ℤ) (k j s t : List ℕ) → n < 2 ^ 64 → m < 2 ^ 64 → history_line n d k s ≡ history_line m e j t → n ≡ m
same_number n m d e k j s t low high is =
    decimal_injective n m low high (first_part 9 (decimal n) (decimal m) _ _ (number_lacks n low) (number_lacks m high) (sym (line_parts n d k s) ∙ is ∙ line_parts m e j t)).0

pub borne_number : (n m : ℕ) (e : ℤ) (j t : List ℕ) → n < 2 ^ 64 → m < 2 ^ 64 → IsNumbered n (history_line m e j t) → n ≡ m
borne_number n m e j t low high bears =
    decimal_injective n m low high (first_part 9 (decimal n) (decimal m) _ _ (number_lacks n low) (number_lacks m high) (sym bears.1 ∙ line_parts m e j t)).0

-- ---- lines in a text

module _ (first day : ℤ) where
  -- behind the lines of the acts ys come those of the acts more
  pub record Next (older ys zs : List Act) (tail rest : List ℕ) : Type 0 where
    pub more : List Act
    pub parts : zs ≡ ys ++ more
    pub is : tail ≡ forward day (onto ys older) more ++ rest

  -- the first lines of one text are one, and what is behind them
  first_lines : (older base : List Act) (y z : Act) (ys zs : List Act) (tail rest : List ℕ) → IsHistory first (y ∷ older) → IsHistory first (z ∷ base) → forward day older (y ∷ ys) ++ tail ≡ forward day base (z ∷ zs) ++ rest
      → (act_line day y older ≡ act_line day z base) × (forward day (y ∷ older) ys ++ tail ≡ forward day (z ∷ base) zs ++ rest)
  first_lines older base y z ys zs tail rest mine theirs e =
      let a = act_line day y older in
      let b = act_line day z base in
      let x = forward day (y ∷ older) ys in
      let w = forward day (z ∷ base) zs in
      same_line a b (x ++ tail) (w ++ rest) (act_is_line first day y older mine) (act_is_line first day z base theirs) (sym (append_assoc a x tail) ∙ e ∙ append_assoc b w rest)

  -- texts that begin with lines of acts begin behind as many acts
  pub one_begin : (older base ys zs : List Act) (tail rest : List ℕ) → IsPart rest → IsHistory first (onto ys older) → IsHistory first (onto zs base) → forward day older ys ++ tail ≡ forward day base zs ++ rest → (ys ≡ []) ⊎ (length older ≡ length base)
  one_begin older base [] zs tail rest part h k e = inl refl
  one_begin older base (y ∷ ys) [] tail rest part h k e =
      let mine = onto_history first ys (y ∷ older) h in
      absurd (part_no_line (act_line day y older) (forward day (y ∷ older) ys ++ tail) rest (act_is_line first day y older mine) (sym (append_assoc (act_line day y older) (forward day (y ∷ older) ys) tail) ∙ e) part)
  one_begin older base (y ∷ ys) (z ∷ zs) tail rest part h k e =
      let mine = onto_history first ys (y ∷ older) h in
      let theirs = onto_history first zs (z ∷ base) k in
      let two = first_lines older base y z ys zs tail rest mine theirs e in
      let n = same_number (next_number older) (next_number base) (today day (y ∷ older)) (today day (z ∷ base)) (key_text y.key) (key_text z.key) (spelling y.command) (spelling z.command) (small first y older mine) (small first z base theirs) two.0 in
      inr (omega (arith, n))

  pub split : (older ys zs : List Act) (tail rest : List ℕ) → IsPart rest → IsHistory first (onto ys older) → IsHistory first (onto zs older) → forward day older ys ++ tail ≡ forward day older zs ++ rest → Next older ys zs tail rest
  split older [] zs tail rest part h k e = record { more = zs; parts = refl; is = e }
  split older (y ∷ ys) [] tail rest part h k e =
      let mine = onto_history first ys (y ∷ older) h in
      absurd (part_no_line (act_line day y older) (forward day (y ∷ older) ys ++ tail) rest (act_is_line first day y older mine) (sym (append_assoc (act_line day y older) (forward day (y ∷ older) ys) tail) ∙ e) part)
  split older (y ∷ ys) (z ∷ zs) tail rest part h k e =
      let mine = onto_history first ys (y ∷ older) h in
      let theirs = onto_history first zs (z ∷ older) k in
      let two = first_lines older older y z ys zs tail rest mine theirs e in
      let one : z ≡ y = sym (one_act first first day day y z older older mine theirs two.0) in
      let more = split (y ∷ older) ys zs tail rest part h (subst (λ x. IsHistory first (onto zs (x ∷ older))) one k) (two.1 ∙ ap (λ x. forward day (x ∷ older) zs ++ rest) one) in
      record { more = more.more; parts = ap (λ x. x ∷ zs) one ∙ ap (λ l. y ∷ l) more.parts; is = more.is }

-- ---- lines of two days

abbrev line_on : Act → List Act → ℤ → List ℕ
line_on x older d = history_line (next_number older) d (key_text x.key) (spelling x.command)

-- where the business day is one at the first of the acts, all have the same lines
pub same_lines : (day begun : ℤ) (x : Act) (older xs : List Act) → today day (x ∷ older) ≡ today begun (x ∷ older) → forward day older (x ∷ xs) ≡ forward begun older (x ∷ xs)
same_lines day begun x older [] e = ap (λ d. line_on x older d ++ []) e
same_lines day begun x older (y ∷ ys) e =
    ap (λ d. line_on x older d ++ forward day (x ∷ older) (y ∷ ys)) e ∙ ap (λ t. act_line begun x older ++ t) (same_lines day begun y (x ∷ older) ys (ap (day_after_command y.command) e))
