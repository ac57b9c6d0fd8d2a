-- Which act a row of `repeats` is of.
use Rattle.histories.proofs.Words.{◌≡◌, ℕ, ◌+◌, ◌≤◌, List, [], ◌∷◌, ◌++◌, length, length-append, find, inl, inr, refl, sym, ap, subst, ◌∙◌, arith, Some, ℤ, AllByRecursion, cases_Bool, same_Some, none-some, bytes_eq-Decides, same_text, key_text, RepeatRow, Act, IsHistory, repeat_row, row_of}

-- a row that is found has a number of those so far
pub numbered : (first : ℤ) (acts : List Act) (k : List ℕ) (r : RepeatRow) → repeat_row first acts k ≡ Some r → r.act ≤ length acts
numbered first [] k r e = absurd (none-some r e)
numbered first (act ∷ before) k r e = elim (cases_Bool (same_text k (key_text act.key))) [
  | inl hit ↦ let is : row_of first act before ≡ r = same_Some _ r (rw hit at e) in let n : length before + 1 ≡ r.act = ap (λ s. s.act) is in omega (arith, n)
  | inr miss ↦ let low = numbered first before k r (rw miss at e) in omega (arith, low)
]

no_more : (newer older : List Act) → length (newer ++ older) ≡ length older → newer ≡ []
no_more [] older e = refl
no_more (act ∷ newer) older e = let n = length-append newer older in absurd (omega (arith, e, n))

-- the act that follows these
pub record Next (first : ℤ) (newer older : List Act) (r : RepeatRow) : Type 0 where
  pub act : Act
  pub later : List Act
  pub parts : newer ≡ later ++ act ∷ []
  pub row : r ≡ row_of first act older

-- a row that is found, whose number is the next, is of the act that follows
pub next_act : (first : ℤ) (newer older : List Act) (k : List ℕ) (r : RepeatRow) → repeat_row first (newer ++ older) k ≡ Some r → r.act ≡ length older + 1 → Next first newer older r
next_act first [] older k r e number = let low = numbered first older k r e in absurd (omega (arith, low, number))
next_act first (act ∷ newer) older k r e number = elim (cases_Bool (same_text k (key_text act.key))) [
  | inl hit ↦
      let is : row_of first act (newer ++ older) ≡ r = same_Some _ r (rw hit at e) in
      let n : length (newer ++ older) + 1 ≡ r.act = ap (λ s. s.act) is in
      let none : newer ≡ [] = no_more newer older (omega (arith, n, number)) in
      record { act = act; later = []; parts = ap (λ l. act ∷ l) none; row = sym is ∙ ap (λ l. row_of first act (l ++ older)) none }
  | inr miss ↦
      let rest = next_act first newer older k r (rw miss at e) number in
      record { act = rest.act; later = act ∷ rest.later; parts = ap (λ l. act ∷ l) rest.parts; row = rest.row }
]

-- the earlier acts of a history are one
pub earlier : (first : ℤ) (newer older : List Act) → IsHistory first (newer ++ older) → IsHistory first older
earlier first [] older h = h
earlier first (act ∷ newer) older h = earlier first newer older h.0

-- what is found is one of the rows
pub found_all : (P : RepeatRow → Type 0) (k : List ℕ) (rows : List RepeatRow) (r : RepeatRow) → AllByRecursion P rows → find (λ s. same_text k s.k) rows ≡ Some r → P r
found_all P k [] r all e = absurd (none-some r e)
found_all P k (s ∷ rows) r all e = elim (cases_Bool (same_text k s.k)) [
  | inl hit ↦ let is : s ≡ r = same_Some s r (rw hit at e) in subst P is all.0
  | inr miss ↦ found_all P k rows r all.1 (rw miss at e)
]

-- the newest act's row is found
pub newest : (first : ℤ) (act : Act) (before : List Act) → repeat_row first (act ∷ before) (key_text act.key) ≡ Some (row_of first act before)
newest first act before = rw ((bytes_eq-Decides (key_text act.key) (key_text act.key)).1 refl) refl
