-- The lines of the next acts, taken a few at once.
use Rattle.acts_files.proofs.Words.{◌≡◌, ℕ, ◌+◌, List, [], ◌∷◌, ◌++◌, length, length-append, inl, inr, refl, sym, ap, subst, ◌∙◌, arith, Some, Global, ◌⊎◌, ℤ, Vec, Result, AllByRecursion, Appends, Reaches, StopsWithin, RepeatRow, Act, IsHistory, today, repeat_row, AddsLine, newer_text, HistoryLines, went_above, HandsRecords, EachFault, in_memory, AddsOne, StopsFull, IsTaken, AreLinesOf, AreNextLines, FewLines}

-- what was taken, as lines
lines_reached : (rows : List RepeatRow) (a b : FewLines) → Reaches AddsOne a rows b → Reaches (AddsLine in_memory) a.lines rows b.lines × (b.lines.done ≡ a.lines.done + length rows) × (a.room ≡ b.room + length rows)
lines_reached [] a b is = let n = ap (λ (f : FewLines). f.lines.done) is in let r = ap (λ (f : FewLines). f.room) is in (ap (λ (f : FewLines). f.lines) is, omega (arith, n), omega (arith, r))
lines_reached (row ∷ rows) a b h =
    let more = lines_reached rows h.0 b h.2 in
    ((h.0.lines, h.1.line, more.0), omega (arith, more.1, h.1.line.done), omega (arith, more.2, h.1.room))

none : (later : List Act) → length later ≡ 0 → later ≡ []
none [] e = refl
none (act ∷ later) e = absurd (omega (arith, e))

module _ (first begun : ℤ) (newer older : List Act) (history : IsHistory first (newer ++ older)) (most : ℕ) (start : FewLines) (empty : start.lines.out.items ≡ []) (done : start.lines.done ≡ length older) (day : start.lines.day ≡ today begun older) (room : start.room ≡ most) where
  abbrev Own : RepeatRow → Type 0
  Own r = repeat_row first (newer ++ older) r.k ≡ Some r

  -- the lines that a sink has, and how much room is left
  record Has (last : FewLines) : Type 0 where
    pub later : List Act
    pub next : List Act
    pub parts : newer ≡ later ++ next
    pub are : AreLinesOf begun next older last.lines
    pub long : length next + last.room ≡ most

  has : (rows : List RepeatRow) (last : FewLines) → AllByRecursion Own rows → Reaches AddsOne start rows last → Has last
  has rows last own h =
      let r = lines_reached rows start last h in
      let p = went_above in_memory first begun (newer ++ older) history start.lines older newer refl done day rows last.lines own r.0 in
      let n = length-append p.1 older in
      record {
        later = p.0;
        next = p.1;
        parts = p.2;
        are = record { text = subst (λ xs. Appends (Some xs) (Some last.lines.out.items) (newer_text begun p.1 older)) empty p.5; done = p.3; day = p.4 };
        long = omega (arith, n, p.3, r.1, done, r.2, room);
      }

  next_lines : (last : FewLines) (lines : HistoryLines (Vec ℕ Global)) → lines ≡ last.lines → (h : Has last) → (h.later ≡ []) ⊎ (last.room ≡ 0) → AreNextLines begun most newer older lines
  next_lines last lines is h end = record {
    next = h.next;
    are_next = record {
      later = h.later;
      parts = h.parts;
      few = let long = h.long in omega (arith, long);
      many = elim end [ inl all ↦ inl all | inr full ↦ let long = h.long in inr (omega (arith, long, full)) ];
    };
    are = subst (AreLinesOf begun h.next older) (sym is) h.are;
  }

  front : (xs ys : List RepeatRow) → AllByRecursion Own (xs ++ ys) → AllByRecursion Own xs
  front [] ys all = tt
  front (x ∷ xs) ys all = (all.0, front xs ys all.1)

  full_of : (rows : List RepeatRow) (after : FewLines) → AllByRecursion Own rows → after.room ≡ 0 → StopsWithin AddsOne StopsFull start rows after → Has after
  full_of rows after own full h =
      subst Has (sym (h.stopped full)) (has h.taken h.last (front h.taken (h.next ∷ h.others) (subst (AllByRecursion Own) h.parts own)) h.reached)

  pub next_of : (rows : List RepeatRow) (after : FewLines) (end : Result (Unit {0}) EachFault) (all : ℕ) (lines : HistoryLines (Vec ℕ Global)) → AllByRecursion Own rows → HandsRecords AddsOne StopsFull rows start after end
      → all ≡ length (newer ++ older) → IsTaken after end all lines → AreNextLines begun most newer older lines
  next_of rows after end all lines own handed whole taken = elim taken.1 [
    | inl went ↦
        let h = has rows after own (subst (HandsRecords AddsOne StopsFull rows start after) went.0 handed) in
        let long : length newer ≡ length h.later + length h.next = ap length h.parts ∙ length-append h.later h.next in
        let n = length-append newer older in
        let m = length-append h.next older in
        next_lines after lines taken.0 h (inl (none h.later (omega (arith, long, n, m, went.1, whole, h.are.done))))
    | inr full ↦ next_lines after lines taken.0 (full_of rows after own full.1 (subst (HandsRecords AddsOne StopsFull rows start after) full.0 handed)) (inr full.1)
  ]
