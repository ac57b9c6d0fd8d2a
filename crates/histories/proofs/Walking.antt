-- A sink that takes the rows of `repeats` act by act, and what it keeps of the acts so far.
use Rattle.histories.proofs.Words.{◌≡◌, ℕ, ◌+◌, ◌≤◌, List, [], ◌∷◌, ◌++◌, append_assoc, length, length-append, find, sym, ap, subst, ◌∙◌, arith, Some, ℤ, AllByRecursion, same_text, key_text, Reaches, RepeatRow, Act, IsHistory, repeat_row, row_of}
use Rattle.histories.proofs.Acts.{Next, next_act, earlier, found_all, newest}

-- a sink that takes the row of the next act alone keeps this
pub record Walks {S : Type 0} (first : ℤ) (takes : S → RepeatRow → S → Type 0) (done : S → ℕ) (Keeps : S → List Act → Type 0) : Type 0 where
  pub turn : (now : S) (r : RepeatRow) (after : S) → takes now r after → r.act ≡ done now + 1
  pub count : (now : S) (r : RepeatRow) (after : S) → takes now r after → done after ≡ done now + 1
  pub step : (now : S) (act : Act) (older : List Act) (after : S) → IsHistory first (act ∷ older) → Keeps now older → takes now (row_of first act older) after → Keeps after (act ∷ older)

module _ {S : Type 0} (first : ℤ) (acts : List Act) (history : IsHistory first acts) (takes : S → RepeatRow → S → Type 0) (done : S → ℕ) (Keeps : S → List Act → Type 0) (walks : Walks first takes done Keeps) where
  -- the row is one of the acts'
  abbrev pub IsOfActs : RepeatRow → Type 0
  IsOfActs r = repeat_row first acts r.k ≡ Some r

  -- the sink has taken the earlier acts
  pub record SoFar (now : S) : Type 0 where
    pub newer : List Act
    pub older : List Act
    pub parts : acts ≡ newer ++ older
    pub count : done now ≡ length older
    pub keeps : Keeps now older

  -- the act of the next row
  module _ (now : S) (so_far : SoFar now) (r : RepeatRow) (mine : IsOfActs r) (turn : r.act ≡ done now + 1) where
    pub next : Next first so_far.newer so_far.older r
    next = next_act first so_far.newer so_far.older r.k r (ap (λ l. repeat_row first l r.k) (sym so_far.parts) ∙ mine) (turn ∙ ap (λ n. n + 1) so_far.count)

    pub later_parts : acts ≡ next.later ++ next.act ∷ so_far.older
    later_parts = so_far.parts ∙ ap (λ l. l ++ so_far.older) next.parts ∙ append_assoc next.later (next.act ∷ []) so_far.older

    pub next_history : IsHistory first (next.act ∷ so_far.older)
    next_history = earlier first next.later (next.act ∷ so_far.older) (subst (IsHistory first) later_parts history)

  one_more : (now after : S) (r : RepeatRow) → SoFar now → IsOfActs r → takes now r after → SoFar after
  one_more now after r so_far mine h =
      let turn = walks.turn now r after h in
      let it = next now so_far r mine turn in
      let counted = walks.count now r after h in record {
        newer = it.later;
        older = it.act ∷ so_far.older;
        parts = later_parts now so_far r mine turn;
        count = omega (arith, counted, so_far.count);
        keeps = walks.step now it.act so_far.older after (next_history now so_far r mine turn) so_far.keeps (subst (λ s. takes now s after) it.row h);
      }

  pub all_so_far : (rows : List RepeatRow) (now after : S) → SoFar now → AllByRecursion IsOfActs rows → Reaches takes now rows after → SoFar after
  all_so_far [] now after so_far mine is = subst SoFar (sym is) so_far
  all_so_far (r ∷ rows) now after so_far mine h = all_so_far rows h.0 after (one_more now h.0 r so_far mine.0 h.1) mine.1 h.2

  pub front_all : (xs ys : List RepeatRow) → AllByRecursion IsOfActs (xs ++ ys) → AllByRecursion IsOfActs xs
  front_all [] ys all = tt
  front_all (x ∷ xs) ys all = (all.0, front_all xs ys all.1)

  pub at_next : (xs ys : List RepeatRow) (y : RepeatRow) → AllByRecursion IsOfActs (xs ++ y ∷ ys) → IsOfActs y
  at_next [] ys y all = all.0
  at_next (x ∷ xs) ys y all = at_next xs ys y all.1

  -- the numbers of the rows that were taken
  low_numbers : (rows : List RepeatRow) (now after : S) → Reaches takes now rows after → (done now ≤ done after) × AllByRecursion (λ r. r.act ≤ done after) rows
  low_numbers [] now after is = (let n = ap done is in omega (arith, n), tt)
  low_numbers (r ∷ rows) now after h =
      let more = low_numbers rows h.0 after h.2 in
      let turn = walks.turn now r h.0 h.1 in
      let counted = walks.count now r h.0 h.1 in
      (omega (arith, more.0, counted), (omega (arith, more.0, counted, turn), more.1))

  -- all rows of the table were taken: all acts
  pub whole : (rows : List RepeatRow) (start after : S) → SoFar start → AllByRecursion IsOfActs rows → ((k : List ℕ) → find (λ r. same_text k r.k) rows ≡ repeat_row first acts k) → Reaches takes start rows after → Keeps after acts
  whole rows start after from mine found h =
      let end = all_so_far rows start after from mine h in
      let low = (low_numbers rows start after h).1 in
      subst (Keeps after) (sym (all_acts end.newer end.older end.parts (omega (arith, end.count)) low)) end.keeps
    where
      all_acts : (newer older : List Act) → acts ≡ newer ++ older → done after ≤ length older → AllByRecursion (λ r. r.act ≤ done after) rows → acts ≡ older
      all_acts [] older parts few low = parts
      all_acts (act ∷ newer) older parts few low =
          let there = found (key_text act.key) ∙ ap (λ l. repeat_row first l (key_text act.key)) parts ∙ newest first act (newer ++ older) in
          let number = found_all (λ r. r.act ≤ done after) (key_text act.key) rows (row_of first act (newer ++ older)) low there in
          let n = length-append newer older in
          absurd (omega (arith, number, few, n))
