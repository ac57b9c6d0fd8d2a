-- The lines that were written, and the acts that they are of.
use Rattle.histories.proofs.Words.{◌≡◌, ℕ, ◌+◌, List, [], ◌∷◌, ◌++◌, append_assoc, append-nil, find, inl, inr, refl, sym, ap, subst, ◌∙◌, Option, ℤ, AllByRecursion, Appends, Appends-trans, Appends-nil, same_text, key_text, spelling, Reaches, ReachesWithin, StopsWithin, RepeatRow, Act, next_number, IsHistory, day_after_command, today, repeat_row, AppendsBeginning, beginning_of_first, beginning_of_second, history_line, history_text, IsDayAfter, row_line, AddsLine, StopsLine, HistoryLines}
use Rattle.histories.proofs.Walking.{Walks, IsOfActs, SoFar, all_so_far, front_all, at_next, next, later_parts, next_history, whole}

-- the text of all acts begins with that of the earlier ones
begins : (begun : ℤ) (newer older : List Act) → (rest : List ℕ) × (history_text begun (newer ++ older) ≡ history_text begun older ++ rest)
begins begun [] older = ([], sym (append-nil (history_text begun older)))
begins begun (act ∷ newer) older =
    let more = begins begun newer older in
    let line = history_line (next_number (newer ++ older)) (today begun (act ∷ newer ++ older)) (key_text act.key) (spelling act.command) in
    (more.0 ++ line, ap (λ t. t ++ line) more.1 ∙ append_assoc (history_text begun older) more.0 line)

-- a beginning of the earlier acts' is one of all
begun_text : (begun : ℤ) (acts newer older : List Act) (old new : Option (List ℕ)) → acts ≡ newer ++ older → AppendsBeginning old new (history_text begun older) → AppendsBeginning old new (history_text begun acts)
begun_text begun acts newer older old new parts h =
    let more = begins begun newer older in
    subst (AppendsBeginning old new) (sym (ap (history_text begun) parts ∙ more.1)) (beginning_of_first old new (history_text begun older) more.0 h)

pub whole_beginning : (old new : Option (List ℕ)) (text : List ℕ) → Appends old new text → AppendsBeginning old new text
whole_beginning old new text h = record { front = text; rest = []; parts = sym (append-nil text); written = h }

-- the line of an act's row, on the day after it
pub line_is : (first begun : ℤ) (act : Act) (older : List Act) (was day : ℤ) → IsHistory first (act ∷ older) → was ≡ today begun older → IsDayAfter (spelling act.command) was day → day ≡ today begun (act ∷ older)
line_is first begun act older was day history same after = after act.command history.1.sound.command refl ∙ ap (day_after_command act.command) same

module _ {W : Type 0} (contents : W → Option (List ℕ)) (first begun : ℤ) (acts : List Act) (history : IsHistory first acts) (start : HistoryLines W) where
  -- the day is that of the earlier acts, whose lines were written
  abbrev pub Written : HistoryLines W → List Act → Type 0
  Written now older = (now.day ≡ today begun older) × Appends (contents start.out) (contents now.out) (history_text begun older)

  pub writes : Walks first (AddsLine contents) (λ (l : HistoryLines W). l.done) Written
  writes = record {
    turn = λ now r after h. h.turn;
    count = λ now r after h. h.done;
    step = λ now act older after own was h.
        let day = line_is first begun act older now.day after.day own was.0 h.day in (
          day,
          Appends-trans (contents start.out) (contents now.out) (contents after.out) (history_text begun older) _ was.1
              (subst (λ d. Appends (contents now.out) (contents after.out) (history_line (next_number older) d (key_text act.key) (spelling act.command))) day h.written),
        );
  }

  abbrev pub Goes : HistoryLines W → Type 0
  Goes = SoFar first acts history (AddsLine contents) (λ (l : HistoryLines W). l.done) Written writes

  abbrev pub Mine : RepeatRow → Type 0
  Mine = IsOfActs first acts history (AddsLine contents) (λ (l : HistoryLines W). l.done) Written writes

  pub none_yet : start.done ≡ 0 → start.day ≡ begun → Goes start
  none_yet none day = record { newer = acts; older = []; parts = sym (append-nil acts); count = none; keeps = (day, Appends-nil (contents start.out)) }

  -- all rows of the table were taken: the whole text
  pub all_written : (rows : List RepeatRow) (after : HistoryLines W) → Goes start → AllByRecursion Mine rows → ((k : List ℕ) → find (λ r. same_text k r.k) rows ≡ repeat_row first acts k) → Reaches (AddsLine contents) start rows after
      → Appends (contents start.out) (contents after.out) (history_text begun acts)
  all_written rows after from mine found h = (whole first acts history (AddsLine contents) (λ (l : HistoryLines W). l.done) Written writes rows start after from mine found h).1

  -- a beginning of them was taken
  pub some_written : (rows : List RepeatRow) (after : HistoryLines W) → Goes start → AllByRecursion Mine rows → ReachesWithin (AddsLine contents) start rows after
      → AppendsBeginning (contents start.out) (contents after.out) (history_text begun acts)
  some_written rows after from mine h =
      let end = all_so_far first acts history (AddsLine contents) (λ (l : HistoryLines W). l.done) Written writes h.taken start after from
      (front_all first acts history (AddsLine contents) (λ (l : HistoryLines W). l.done) Written writes h.taken h.others (subst (AllByRecursion Mine) h.parts mine)) h.reached in
      begun_text begun acts end.newer end.older (contents start.out) (contents after.out) end.parts (whole_beginning (contents start.out) (contents after.out) (history_text begun end.older) end.keeps.1)

  -- and a part of the next line
  pub cut_written : (rows : List RepeatRow) (after : HistoryLines W) → Goes start → AllByRecursion Mine rows → StopsWithin (AddsLine contents) (StopsLine contents) start rows after
      → AppendsBeginning (contents start.out) (contents after.out) (history_text begun acts)
  cut_written rows after from mine h =
      let all = subst (AllByRecursion Mine) h.parts mine in
      let end = all_so_far first acts history (AddsLine contents) (λ (l : HistoryLines W). l.done) Written writes h.taken start h.last from
      (front_all first acts history (AddsLine contents) (λ (l : HistoryLines W). l.done) Written writes h.taken (h.next ∷ h.others) all) h.reached in
      elim h.stopped.0 [
        | inl none ↦
            begun_text begun acts end.newer end.older (contents start.out) (contents after.out) end.parts
            (subst (AppendsBeginning (contents start.out) (contents after.out)) (append-nil (history_text begun end.older))
            (beginning_of_second (contents start.out) (contents h.last.out) (contents after.out) (history_text begun end.older) [] end.keeps.1 (whole_beginning (contents h.last.out) (contents after.out) [] none)))
        | inr cut ↦ part h.last after h.next end (at_next first acts history (AddsLine contents) (λ (l : HistoryLines W). l.done) Written writes h.taken h.others h.next all) cut.0 cut.1 cut.2 cut.3
      ]
    where
      part : (last after : HistoryLines W) (r : RepeatRow) (end : Goes last) (mine : Mine r) (turn : r.act ≡ last.done + 1) (day : ℤ) → IsDayAfter r.spell last.day day → AppendsBeginning (contents last.out) (contents after.out) (row_line day r)
          → AppendsBeginning (contents start.out) (contents after.out) (history_text begun acts)
      part last after r end mine turn day is_day cut =
          let it = next first acts history (AddsLine contents) (λ (l : HistoryLines W). l.done) Written writes last end r mine turn in
          let own = next_history first acts history (AddsLine contents) (λ (l : HistoryLines W). l.done) Written writes last end r mine turn in
          let parts = later_parts first acts history (AddsLine contents) (λ (l : HistoryLines W). l.done) Written writes last end r mine turn in
          let same = line_is first begun it.act end.older last.day day own end.keeps.0 (subst (λ (s : RepeatRow). IsDayAfter s.spell last.day day) it.row is_day) in
          let line : row_line day r ≡ history_line (next_number end.older) (today begun (it.act ∷ end.older)) (key_text it.act.key) (spelling it.act.command) =
          ap (row_line day) it.row ∙ ap (λ d. history_line (next_number end.older) d (key_text it.act.key) (spelling it.act.command)) same in
          begun_text begun acts it.later (it.act ∷ end.older) (contents start.out) (contents after.out) parts
          (beginning_of_second (contents start.out) (contents last.out) (contents after.out) (history_text begun end.older) _ end.keeps.1 (subst (AppendsBeginning (contents last.out) (contents after.out)) line cut))
