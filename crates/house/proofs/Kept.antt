-- What was done, after it was kept.
use Rattle.std.specs.Fmt.{digits}
use Rattle.house.proofs.Words.{◌≡◌, ◌≢◌, ◌∙◌, ℕ, ◌<◌, List, [], ◌∷◌, ◌++◌, get_or, lit<, arith, refl, sym, ap, subst, inl, inr, ℤ, codes, Result, Ok, Err, OnOk, OnErr, Ghosts, Trees, state, State, Survives, Act, IsHistory, WireFault, Head, Length, Json, Field, Path, Method, TooLarge, Memory, Do, Scan, GoodsIn, Show, Read, Need, Bad, Request, Connected, IsClean, HoldsBooks, AreAsBefore, as_before_then, head_text, fault_answer, no_memory, status_of, Step, Answers, LeavesBooks, IsInPlace, StepsTo, bytes_of, NoHistory, TellsNoAct, IsKeptIfTold, Answered}
use Rattle.house.proofs.Adding.{step_adds, untold_adds_none}

pub survives_itself : (s : State) (P : Trees → Type 0) → Survives s s P
survives_itself s P = record {
  clean = omega arith;
  counts = omega arith;
  limit = refl;
  closes = λ clean is. inl is;
  shield = λ h. h;
  crash = λ clean db left. inl left;
}

-- another status than 200, by its first digit
unlike : (bytes : List ℕ) (class : ℕ) → get_or (status_of bytes) 9 0 ≡ class → 50 < class → status_of bytes ≢ codes "HTTP/1.1 200"
unlike bytes class is more e = let same : class ≡ 50 = sym is ∙ ap (λ b. get_or b 9 0) e in omega arith

fault_unlike : (e : WireFault) → status_of (fault_answer e) ≢ codes "HTTP/1.1 200"
unfolding head_text digits
fault_unlike Head = unlike (fault_answer Head) 52 refl (lit< tt)
fault_unlike Length = unlike (fault_answer Length) 52 refl (lit< tt)
fault_unlike Json = unlike (fault_answer Json) 52 refl (lit< tt)
fault_unlike Field = unlike (fault_answer Field) 52 refl (lit< tt)
fault_unlike Path = unlike (fault_answer Path) 52 refl (lit< tt)
fault_unlike (Method m) = unlike (fault_answer (Method m)) 52 refl (lit< tt)
fault_unlike TooLarge = unlike (fault_answer TooLarge) 52 refl (lit< tt)
fault_unlike Memory = unlike (fault_answer Memory) 53 refl (lit< tt)

-- so has the answer for want of memory
pub no_memory_unlike : (bytes : List ℕ) → bytes ≡ no_memory → status_of bytes ≢ codes "HTTP/1.1 200"
no_memory_unlike bytes is e = fault_unlike Memory (sym (ap status_of is) ∙ e)

-- what cannot fail does not
pub never_fails : {E : Type 0} (r : Result Unit E) → OnErr r ⊥ → r ≡ Ok tt
never_fails (Ok done) none = refl
never_fails (Err fault) none = absurd none

module _ {S : Type 0} (g : Ghosts S) (was mid new : Connected S) where
  -- what was answered before it was kept
  told_of : (e : WireFault) (bytes : List ℕ) → bytes ≡ fault_answer e → mid ≡ was → (status_of bytes ≢ codes "HTTP/1.1 200" → new ≡ mid) → new ≡ was
  told_of e bytes is same other = other (λ p. fault_unlike e (sym (ap status_of is) ∙ p)) ∙ same

  pub answers_later : (reading : Read) (bytes : List ℕ) → Answers g reading bytes was mid → AreAsBefore g mid new → (status_of bytes ≢ codes "HTTP/1.1 200" → new ≡ mid) → Answers g reading bytes was new
  answers_later (Need e) bytes h later other = (h.0, told_of e bytes h.0 h.1 other)
  answers_later (Bad e) bytes h later other = (h.0, told_of e bytes h.0 h.1 other)
  answers_later (Request (Show query)) bytes h later other = as_before_then (state g was.conn) (state g mid.conn) (state g new.conn) h later
  answers_later (Request (Do key command)) bytes h later other = λ ne. as_before_then (state g was.conn) (state g mid.conn) (state g new.conn) (h ne) later
  answers_later (Request (Scan delivery line label bin qty)) bytes h later other = λ ne. as_before_then (state g was.conn) (state g mid.conn) (state g new.conn) (h ne) later
  answers_later (Request (GoodsIn file)) bytes h later other = λ ne. as_before_then (state g was.conn) (state g mid.conn) (state g new.conn) (h ne) later

  pub unanswered_later : (bytes : List ℕ) → (status_of bytes ≢ codes "HTTP/1.1 200" → AreAsBefore g was mid) → AreAsBefore g mid new → status_of bytes ≢ codes "HTTP/1.1 200" → AreAsBefore g was new
  unanswered_later bytes h later ne = as_before_then (state g was.conn) (state g mid.conn) (state g new.conn) (h ne) later

  -- the books are the same, and so is what a stop leaves of them
  module _ (first : ℤ) (old : List Act) (text bytes : List ℕ) (s : StepsTo g first old text bytes was mid) (clean : IsClean g new)
      (holds : HoldsBooks g first s.after new) (survives : Survives (state g mid.conn) (state g new.conn) (NoHistory g mid)) where
    pub leaves_later : (told : List (List ℕ × List ℕ)) → LeavesBooks first s.after told (state g mid.conn) → LeavesBooks first s.after told (state g new.conn)
    leaves_later told leaves trees left = elim (survives.crash clean trees left) [ inl before ↦ leaves trees before | inr none ↦ absurd (none first s.after s.history s.holds) ]

-- a step and its answer are the same once the books were kept
abbrev pub steps_later : {S : Type 0} (g : Ghosts S) (was mid new : Connected S) (first : ℤ) (old : List Act) (text bytes : List ℕ) (s : StepsTo g first old text bytes was mid) → IsClean g new
    → HoldsBooks g first s.after new → Survives (state g mid.conn) (state g new.conn) (NoHistory g mid) → StepsTo g first old text bytes was new
steps_later g was mid new first old text bytes s clean holds survives = record {
  after = s.after;
  step = s.step;
  history = s.history;
  holds = holds;
  kept = λ told leaves. leaves_later g was mid new first old text bytes s clean holds survives (told ++ (text, bytes) ∷ []) (s.kept told leaves);
}

-- the acts after a step are kept
pub keeps_on : {E : Type 0} (first : ℤ) (old : List Act) (text : List ℕ) (answer : Answered) (after : List Act) (end : Result Unit E) (Is : List Act → Type 0) (Keeps : List Act → Type 0)
    → IsInPlace text answer → Step first old text (bytes_of answer) after → Is after
    → ((newer : List Act) → Is (newer ++ old) → (TellsNoAct answer → newer ++ old ≡ old) → OnOk end (Keeps (newer ++ old))) → OnOk end (Keeps after)
keeps_on first old text answer after end Is Keeps place step is keeps =
    let more = step_adds first old text (bytes_of answer) after step in
    subst (λ l. OnOk end (Keeps l)) (sym more.1)
    (keeps more.0 (subst Is more.1 is) (λ other. sym more.1 ∙ untold_adds_none first old text answer after place step other))

-- where they could not be, a stop leaves those before and part of what was being added
pub leaves_on : {E : Type 0} (first : ℤ) (old : List Act) (text bytes : List ℕ) (after : List Act) (end : Result Unit E) (Is : List Act → Type 0) (Leaves : List Act → Type 0)
    → Step first old text bytes after → Is after → ((newer : List Act) → Is (newer ++ old) → OnErr end (Leaves (newer ++ old))) → OnErr end (Leaves after)
leaves_on first old text bytes after end Is Leaves step is leaves =
    let more = step_adds first old text bytes after step in
    subst (λ l. OnErr end (Leaves l)) (sym more.1) (leaves more.0 (subst Is more.1 is))

pub kept_if_told : {S E : Type 0} (g : Ghosts S) (first : ℤ) (Keeps : List Act → Type 0) (books : Connected S) (Untold : Type 0) (end : Result Unit E) (after : List Act)
    → IsHistory first after → HoldsBooks g first after books → OnOk end (Keeps after) → OnErr end Untold → IsKeptIfTold g first Keeps books Untold
kept_if_told g first Keeps books Untold (Ok done) after history holds keeps untold = inl (after, history, holds, keeps)
kept_if_told g first Keeps books Untold (Err fault) after history holds keeps untold = inr untold
