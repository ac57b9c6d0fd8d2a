-- The rows of the acts, taken beside the lines of a text.
use Rattle.histories.proofs.Words.{◌≡◌, ◌≢◌, ℕ, ◌+◌, List, [], ◌∷◌, ◌++◌, append-nil, find, inl, inr, refl, sym, ap, subst, ◌∙◌, arith, Option, ◌⊎◌, ℤ, OnSome, AllByRecursion, Consumes, IsAtEnd, Consumes-trans, same_text, Reaches, ReachesWithin, StopsWithin, key_text, spelling, RepeatRow, Act, next_number, IsHistory, today, repeat_row, history_line, IsDayAfter, row_line, act_line, newer_text, row_of, IsLine, IsNoMisfit, Knows, EndsHere, TakesRow, Misses, AtPlace, HasPassed, HasBroken, MissesLine, IsRead, IsStart, LineFault, KnownLines, Before, Within, Behind}
use Rattle.histories.proofs.Printed.{line_is}
use Rattle.histories.proofs.Walking.{Walks, IsOfActs, SoFar, all_so_far, front_all, at_next, next, later_parts, next_history, whole}
use Rattle.histories.specs.Known.{Passes, StopsAt}
use Rattle.histories.proofs.Ends.{end_back}
use Rattle.histories.proofs.Rows.{no_misfit}
use Rattle.histories.specs.declared.known.Place.{Place}

module _ {R : Type 0} (remaining : R → Option (List ℕ)) (left : Option (List ℕ)) (begun : ℤ) where
  abbrev At : Place → KnownLines R → List Act → Type 0
  At = AtPlace remaining left begun

  -- the line is that of none of these acts
  abbrev Unlike : List Act → List ℕ → Type 0
  Unlike older line = (later : List Act) (a : Act) (base : List Act) → older ≡ later ++ a ∷ base → line ≢ act_line begun a base

  one_more_unlike : (act : Act) (older : List Act) (line : List ℕ) → Unlike older line → line ≢ act_line begun act older → Unlike (act ∷ older) line
  one_more_unlike act older line all one [] a base parts =
      let front : act ≡ a = cc in
      let rest : older ≡ base = cc in
      subst (λ b. line ≢ act_line begun a b) rest (subst (λ x. line ≢ act_line begun x older) front one)
  one_more_unlike act older line all one (x ∷ later) a base parts = let rest : older ≡ later ++ a ∷ base = cc in all later a base rest

  no_act : (later : List Act) (a : Act) (base : List Act) → [] ≡ later ++ a ∷ base → ⊥
  no_act [] a base e = cc
  no_act (x ∷ later) a base e = cc

  -- ---- one more act

  module _ (act : Act) (older : List Act) (now after : KnownLines R) where
    known_first : Knows remaining now (next_number older) (act_line begun act older) after → after.reader ≡ now.reader → after.line.items ≡ now.line.items → At Before now older → At Within after (act ∷ older)
    known_first k reader line b = record {
      known = act ∷ [];
      base = older;
      some = λ e. cc;
      parts = refl;
      count = omega (arith, k.known, b.known);
      last = omega (arith, k.last);
      read = subst (λ r. Consumes left (remaining r) (act_line begun act older)) (sym reader) (subst (Consumes left (remaining now.reader)) (sym line ∙ k.is) b.read);
    }

    known_next : Knows remaining now (next_number older) (act_line begun act older) after → Consumes (remaining now.reader) (remaining after.reader) after.line.items → At Within now older → At Within after (act ∷ older)
    known_next k read w = record {
      known = act ∷ w.known;
      base = w.base;
      some = λ e. cc;
      parts = ap (λ l. act ∷ l) w.parts;
      count = omega (arith, k.known, w.count);
      last = omega (arith, k.last);
      read = subst (λ t. Consumes left (remaining after.reader) (newer_text begun w.known w.base ++ t)) (k.is ∙ ap (act_line begun act) w.parts)
          (Consumes-trans left (remaining now.reader) (remaining after.reader) (newer_text begun w.known w.base) after.line.items w.read read);
    }

    ends : EndsHere remaining now after → At Within now older → At Behind after (act ∷ older)
    ends e w = record {
      later = act ∷ [];
      known = w.known;
      base = w.base;
      parts = ap (λ l. act ∷ l) w.parts;
      none = λ none. absurd (w.some none);
      count = e.known ∙ w.count;
      beyond = omega (arith, e.last, w.last);
      part = after.line.items;
      is_part = e.part;
      read = Consumes-trans left (remaining now.reader) (remaining after.reader) (newer_text begun w.known w.base) after.line.items w.read e.read;
      end = end_back left (remaining now.reader) (remaining after.reader) (newer_text begun w.known w.base) w.read e.end;
    }

    passes : Passes remaining now (act_line begun act older) after → (p : Place) → now.place ≡ p → At p now older → At p after (act ∷ older)
    passes p Before is b = record {
      whole = subst IsLine (sym p.line) b.whole;
      read = subst (λ r. Consumes left (remaining r) after.line.items) (sym p.reader) (subst (Consumes left (remaining now.reader)) (sym p.line) b.read);
      known = p.known ∙ b.known;
      unlike = subst (Unlike (act ∷ older)) (sym p.line) (one_more_unlike act older now.line.items b.unlike (p.unlike is));
    }
    passes p Within is w = absurd (p.outside is)
    passes p Behind is b = record {
      later = act ∷ b.later;
      known = b.known;
      base = b.base;
      parts = ap (λ l. act ∷ l) b.parts;
      none = b.none;
      count = p.known ∙ b.count;
      beyond = omega (arith, p.last, b.beyond);
      part = b.part;
      is_part = b.is_part;
      read = subst (λ r. Consumes left (remaining r) (newer_text begun b.known b.base ++ b.part)) (sym p.reader) b.read;
      end = subst (λ r. OnSome left (IsAtEnd (remaining r))) (sym p.reader) b.end;
    }

  step : (first : ℤ) (now : KnownLines R) (act : Act) (older : List Act) (after : KnownLines R) → IsHistory first (act ∷ older) → HasPassed remaining left begun now older → TakesRow remaining now (row_of first act older) after
      → HasPassed remaining left begun after (act ∷ older)
  step first now act older after own was h = record { done = omega (arith, h.done, was.done); day = day; place = placed }
    where
      day : after.day ≡ today begun (act ∷ older)
      day = line_is first begun act older now.day after.day own was.day h.day

      line : row_line after.day (row_of first act older) ≡ act_line begun act older
      line = ap (λ d. history_line (next_number older) d (key_text act.key) (spelling act.command)) day

      knows : Knows remaining now (next_number older) (act_line begun act older) after → At after.place after (act ∷ older)
      knows k = subst (λ p. At p after (act ∷ older)) (sym k.place) (elim k.read [
        | inl first ↦ known_first act older now after k first.1 first.2 (subst (λ p. At p now older) first.0 was.place)
        | inr next ↦ known_next act older now after k next.1 (subst (λ p. At p now older) next.0 was.place)
      ])

      placed : At after.place after (act ∷ older)
      placed = elim h.looked [
        | inl k ↦ knows (subst (λ l. Knows remaining now (next_number older) l after) line k)
        | inr other ↦ elim other [
          | inl e ↦ subst (λ p. At p after (act ∷ older)) (sym e.place) (ends act older now after e (subst (λ p. At p now older) e.was was.place))
          | inr p ↦ subst (λ q. At q after (act ∷ older)) (sym p.place) (passes act older now after (subst (λ l. Passes remaining now l after) line p) now.place refl was.place)
        ]
      ]

  -- ---- all of them

  module _ (first : ℤ) (acts : List Act) (history : IsHistory first acts) where
    pub walks : Walks first (TakesRow remaining) (λ (l : KnownLines R). l.done) (HasPassed remaining left begun)
    walks = record { turn = λ now r after h. h.turn; count = λ now r after h. h.done; step = step first }

    start_at : (start : KnownLines R) → IsStart remaining left start → (p : Place) → IsRead p start.line.items left (remaining start.reader) → At p start []
    start_at start is Before at = record { whole = at; read = is.read; known = is.known; unlike = λ later a base parts. absurd (no_act later a base parts) }
    start_at start is Within at = absurd at
    start_at start is Behind at = record {
      later = [];
      known = [];
      base = [];
      parts = refl;
      none = λ e. refl;
      count = is.known;
      beyond = omega (arith, is.last);
      part = start.line.items;
      is_part = at.0;
      read = is.read;
      end = at.1;
    }

    pub none_passed : (start : KnownLines R) → IsStart remaining left start → start.day ≡ begun → SoFar first acts history (TakesRow remaining) (λ (l : KnownLines R). l.done) (HasPassed remaining left begun) walks start
    none_passed start is day = record { newer = acts; older = []; parts = sym (append-nil acts); count = is.done; keeps = record { done = is.done; day = day; place = start_at start is start.place is.place } }

    -- the rows of the table were all taken
    pub all_passed : (rows : List RepeatRow) (start after : KnownLines R) → IsStart remaining left start → start.day ≡ begun
        → AllByRecursion (IsOfActs first acts history (TakesRow remaining) (λ (l : KnownLines R). l.done) (HasPassed remaining left begun) walks) rows → ((k : List ℕ) → find (λ r. same_text k r.k) rows ≡ repeat_row first acts k)
        → Reaches (TakesRow remaining) start rows after → HasPassed remaining left begun after acts
    all_passed rows start after is day mine found h = whole first acts history (TakesRow remaining) (λ (l : KnownLines R). l.done) (HasPassed remaining left begun) walks rows start after (none_passed start is day) mine found h

    abbrev pub Mine : RepeatRow → Type 0
    Mine = IsOfActs first acts history (TakesRow remaining) (λ (l : KnownLines R). l.done) (HasPassed remaining left begun) walks

    abbrev Goes : KnownLines R → Type 0
    Goes = SoFar first acts history (TakesRow remaining) (λ (l : KnownLines R). l.done) (HasPassed remaining left begun) walks

    broken : (now : KnownLines R) → Goes now → HasBroken remaining left begun acts
    broken now end = record { last = now; later = end.newer; older = end.older; parts = end.parts; passed = end.keeps }

    -- a beginning of them was taken
    pub some_passed : (rows : List RepeatRow) (start after : KnownLines R) → IsStart remaining left start → start.day ≡ begun → AllByRecursion Mine rows → ReachesWithin (TakesRow remaining) start rows after → HasBroken remaining left begun acts
    some_passed rows start after is day mine h =
        broken after (all_so_far first acts history (TakesRow remaining) (λ (l : KnownLines R). l.done) (HasPassed remaining left begun) walks h.taken start after (none_passed start is day)
        (front_all first acts history (TakesRow remaining) (λ (l : KnownLines R). l.done) (HasPassed remaining left begun) walks h.taken h.others (subst (AllByRecursion Mine) h.parts mine)) h.reached)

    missed : (fault : LineFault) (last after : KnownLines R) (r : RepeatRow) → Goes last → Mine r → r.act ≡ last.done + 1 → (day : ℤ) → IsDayAfter r.spell last.day day → Misses remaining last r.act (row_line day r) fault after
        → MissesLine remaining left begun acts fault after
    missed fault last after r end mine turn day is_day miss =
        let it = next first acts history (TakesRow remaining) (λ (l : KnownLines R). l.done) (HasPassed remaining left begun) walks last end r mine turn in
        let own = next_history first acts history (TakesRow remaining) (λ (l : KnownLines R). l.done) (HasPassed remaining left begun) walks last end r mine turn in
        let parts = later_parts first acts history (TakesRow remaining) (λ (l : KnownLines R). l.done) (HasPassed remaining left begun) walks last end r mine turn in
        let same = line_is first begun it.act end.older last.day day own end.keeps.day (subst (λ (s : RepeatRow). IsDayAfter s.spell last.day day) it.row is_day) in
        let line : row_line day r ≡ act_line begun it.act end.older = ap (row_line day) it.row ∙ ap (λ d. history_line (next_number end.older) d (key_text it.act.key) (spelling it.act.command)) same in
        let number : r.act ≡ next_number end.older = ap (λ (s : RepeatRow). s.act) it.row in
        record {
          last = last;
          later = it.later;
          act = it.act;
          older = end.older;
          parts = parts;
          passed = end.keeps;
          misses = subst (λ n. Misses remaining last n (act_line begun it.act end.older) fault after) number (subst (λ l. Misses remaining last r.act l fault after) line miss);
        }

    -- and then a stop
    pub stopped_at : (rows : List RepeatRow) (start after : KnownLines R) → IsStart remaining left start → start.day ≡ begun → AllByRecursion Mine rows → StopsWithin (TakesRow remaining) (StopsAt remaining) start rows after
        → (IsNoMisfit after.fault × HasBroken remaining left begun acts) ⊎ MissesLine remaining left begun acts after.fault after
    stopped_at rows start after is day mine h =
        let all = subst (AllByRecursion Mine) h.parts mine in
        let end = all_so_far first acts history (TakesRow remaining) (λ (l : KnownLines R). l.done) (HasPassed remaining left begun) walks h.taken start h.last (none_passed start is day)
        (front_all first acts history (TakesRow remaining) (λ (l : KnownLines R). l.done) (HasPassed remaining left begun) walks h.taken (h.next ∷ h.others) all) h.reached in
        elim h.stopped [
          | inl own ↦ inl (no_misfit h.last.done h.next after.fault own, broken h.last end)
          | inr miss ↦
              inr (missed after.fault h.last after h.next end (at_next first acts history (TakesRow remaining) (λ (l : KnownLines R). l.done) (HasPassed remaining left begun) walks h.taken h.others h.next all) miss.0 miss.1 miss.2 miss.3)
        ]
