-- A file that is opened beside the books, or is not.
use Rattle.acts_files.proofs.Words.{◌≡◌, ◌≢◌, ℕ, ◌+◌, ◌≤◌, List, [], ◌∷◌, ◌++◌, append-nil, append_assoc, length, length-append, length-drop, drop, inl, inr, refl, sym, ap, subst, ◌∙◌, arith, ℤ, IsTrue, Vec, Global, front_rest, Holds, Ghosts, Act, next_number, history_text, act_line, newer_text, HistoryLines, IsNoMisfit, IsOfBooks, IsOfFile, HasText, ShowsText, IsSameFile, IsCleanFile, KeepsActs, HasPassed, AreNext, AreNextLines, Begins, IsLeftOf, IsPartOf, rest_of, PassesMore, StopsAt, EndsAt, HasWalked, Misfits, IsMeasured, IsPut, IsOther, IsNotPutBy, IsOpened, IsRefused, IsNotOpenedBy, IsNotOpened, ActsFile, NotOpened, ActsFault, File, Store, Foreign, Differs, Lacks}
use Rattle.acts_files.proofs.Same.{same_then, more_passed, not_there, passed_same}
use Rattle.acts_files.proofs.Tails.{no_part, not_left, not_part}
use Rattle.acts_files.proofs.TextParts.{no_newer}

module _ {D : Type 0} (g : Ghosts D) (begun : ℤ) where
  module _ (acts : List Act) where
    -- a fault that tells of no line says nothing
    pub not_told : (disk new : D) (fault told : ActsFault) → IsNoMisfit told → IsNotOpenedBy g begun acts disk new fault told
    not_told disk new fault File is = tt
    not_told disk new fault Store is = tt
    not_told disk new fault Foreign is = tt
    not_told disk new fault (Differs n) is = absurd is
    not_told disk new fault (Lacks n) is = absurd is

    -- of a disk that was read, and is the same file
    module _ (one two : D) (same : IsSameFile g one two) where
      pub opened_from : (file : ActsFile D) → IsOpened g begun acts two file → IsOpened g begun acts one file
      opened_from file is = record {
        keeps = is.keeps;
        older = is.older;
        newer = is.newer;
        parts = is.parts;
        tail = is.tail;
        had = λ clean. sym same.seen ∙ is.had clean;
        torn = is.torn;
      }

      refused_from : (new : D) (fault : ActsFault) → IsRefused g begun acts two new fault → IsRefused g begun acts one new fault
      refused_from new fault is = record {
        same = same_then g one two new same is.same;
        older = is.older;
        newer = is.newer;
        parts = is.parts;
        rest = is.rest;
        has = λ clean. sym same.seen ∙ is.has clean;
        other = is.other;
        misfits = is.misfits;
      }

      pub not_opened_by_from : (new : D) (fault told : ActsFault) → IsNotOpenedBy g begun acts two new fault told → IsNotOpenedBy g begun acts one new fault told
      not_opened_by_from new fault File is = tt
      not_opened_by_from new fault Store is = tt
      not_opened_by_from new fault Foreign is = tt
      not_opened_by_from new fault (Differs n) is = refused_from new fault is
      not_opened_by_from new fault (Lacks n) is = refused_from new fault is

      pub not_opened_from : (e : NotOpened D) → IsNotOpened g begun acts two e → IsNotOpened g begun acts one e
      not_opened_from e is = not_opened_by_from e.disk e.fault e.fault is

  -- what the file has behind the lines that were passed
  pub had_text : (older : List Act) (file : ActsFile D) → HasPassed g begun older file → IsCleanFile g file → g.seen file.disk ≡ history_text begun older ++ rest_of g file
  had_text older file was clean =
      let t = was.text clean in
      t.seen ∙ ap (λ l. history_text begun older ++ l) (sym (front_rest (g.seen file.disk) (history_text begun older) t.more t.seen) ∙ ap (λ n. drop n (g.seen file.disk)) (sym t.long))

  -- no line was passed yet
  pub none_passed : (file : ActsFile D) → file.len ≡ 0 → file.done ≡ 0 → file.day ≡ begun → HasPassed g begun [] file
  none_passed file at done day = record { done = done; day = day; text = λ clean. record { long = at; more = g.seen file.disk; seen = refl } }

  -- the lines of some acts were passed, and then those of some more
  pub more_then : (newer older : List Act) (mid new : ActsFile D) (most first_most : ℕ) (walked : HasWalked g begun first_most newer older mid) → HasWalked g begun most walked.more.later (walked.more.passed ++ older) new → HasWalked g begun most newer older new
  more_then newer older mid new most first_most one two =
      let passed = two.more.passed ++ one.more.passed in
      let whole : two.more.passed ++ (one.more.passed ++ older) ≡ passed ++ older = sym (append_assoc two.more.passed one.more.passed older) in
      record {
        more = record {
          later = two.more.later;
          passed = passed;
          parts = one.more.parts ∙ ap (λ l. l ++ one.more.passed) two.more.parts ∙ append_assoc two.more.later two.more.passed one.more.passed;
          has = subst (λ l. HasPassed g begun l new) whole two.more.has;
        };
        end = subst (λ l. EndsAt g begun most two.more.later l new) whole two.end;
      }

  -- a fault that tells of no line
  pub not_put : (newer older : List Act) (old new : ActsFile D) (fault told : ActsFault) → IsNoMisfit told → IsNotPutBy g begun newer older old new told fault
  not_put newer older old new fault File is = tt
  not_put newer older old new fault Store is = tt
  not_put newer older old new fault Foreign is = tt
  not_put newer older old new fault (Differs n) is = absurd is
  not_put newer older old new fault (Lacks n) is = absurd is

  -- a line that one of the next acts has not is not that act's
  one_more : (next older : List Act) (rest : List ℕ) → next ≢ [] → length next ≤ 1 → ¬ Begins (newer_text begun next older) rest → (act : Act) × (next ≡ act ∷ []) × ¬ Begins (act_line begun act older) rest
  one_more [] older rest some few unlike = absurd (some refl)
  one_more (act ∷ []) older rest some few unlike = (act, refl, unlike)
  one_more (act ∷ other ∷ more) older rest some few unlike = absurd (omega (arith, few))

  pub differs : (newer older : List Act) (n : ℕ) (old new : ActsFile D) (next : List Act) → n ≡ next_number older → StopsAt g begun 1 newer older old → AreNext 1_000 newer next → IsSameFile g old.disk new.disk
      → (IsCleanFile g new → ¬ IsLeftOf (newer_text begun next older) (rest_of g old)) → IsOther g begun newer older old new (Differs n)
  differs newer older n old new next number stops are same unlike = record {
    same = same;
    other = λ clean. not_left newer older next (rest_of g old) begun are (λ none. stops.some (no_part stops.are_next none)) (unlike clean);
    misfits = λ clean.
        let one = one_more stops.next older (rest_of g old) stops.some stops.are_next.few (stops.unlike (same.clean clean)) in
        (number, inl (stops.are_next.later, one.0, stops.are_next.parts ∙ ap (λ l. stops.are_next.later ++ l) one.1, one.2));
  }

  module _ (size most : ℕ) (newer older : List Act) (now after : ActsFile D) (lines : HistoryLines (Vec ℕ Global)) (bytes : List ℕ) (h : AreNextLines begun most newer older lines) (is : bytes ≡ lines.out.items) (was : HasPassed g begun older now) (measured : IsMeasured g size now) (same : IsSameFile g now.disk after.disk) where
    text : bytes ≡ newer_text begun h.next older
    text = is ∙ h.are.text

    long : IsCleanFile g after → size ≡ length (g.seen now.disk)
    long clean = measured (same.clean clean)

    -- the file has the next lines
    pub passes_next : after.len ≡ now.len + length bytes → after.done ≡ lines.done → after.day ≡ lines.day → (IsCleanFile g after → size ≡ length (g.seen now.disk) → Holds (g.seen now.disk) now.len bytes) → PassesMore g begun newer older after
    passes_next len done day holds = record {
      later = h.are_next.later;
      passed = h.next;
      parts = h.are_next.parts;
      has = more_passed g begun h.next older now after bytes was same text len (done ∙ h.are.done) (day ∙ h.are.day) (λ clean. holds clean (long clean));
    }

    -- or it has not
    pub stops_next : after.len ≡ now.len → after.done ≡ now.done → after.day ≡ now.day → (length bytes ≡ 0 → ⊥) → (IsCleanFile g after → size ≡ length (g.seen now.disk) → ¬ Holds (g.seen now.disk) now.len bytes)
        → HasPassed g begun older after × EndsAt g begun most newer older after
    stops_next len done day some unlike = (
      passed_same g begun older now after was same len done day,
      inr (
          record {
            next = h.next;
            are_next = h.are_next;
            some = λ none. some (ap length text ∙ ap (λ l. length (newer_text begun l older)) none);
            unlike = λ clean. subst (λ t. ¬ Begins t (rest_of g after)) text (not_there g begun older now after bytes was same len (λ now_clean. unlike now_clean (long now_clean)) clean);
          }
          ),
    )

  -- the lines of some acts were passed, and those of some more
  pub passes_then : (newer older : List Act) (mid new : ActsFile D) (one : PassesMore g begun newer older mid) → PassesMore g begun one.later (one.passed ++ older) new → PassesMore g begun newer older new
  passes_then newer older mid new one two = record {
    later = two.later;
    passed = two.passed ++ one.passed;
    parts = one.parts ∙ ap (λ l. l ++ one.passed) two.parts ∙ append_assoc two.later two.passed one.passed;
    has = subst (λ l. HasPassed g begun l new) (sym (append_assoc two.passed one.passed older)) two.has;
  }

  pub whole_passed : (newer older : List Act) (file : ActsFile D) (more : PassesMore g begun newer older file) → newer ++ older ≡ more.later ++ (more.passed ++ older)
  whole_passed newer older file more = ap (λ l. l ++ older) more.parts ∙ append_assoc more.later more.passed older

  pub passes_none : (newer older : List Act) (file : ActsFile D) → HasPassed g begun older file → PassesMore g begun newer older file
  passes_none newer older file has = record { later = newer; passed = []; parts = sym (append-nil newer); has = has }

  -- where they come to the number of all acts, none is left
  pub none_left : (newer older : List Act) (file : ActsFile D) (more : PassesMore g begun newer older file) → length (newer ++ older) ≤ file.done → more.later ≡ []
  none_left newer older file more all =
      let whole = whole_passed newer older file more in
      let n = ap length whole in
      let m = length-append more.later (more.passed ++ older) in
      let done = more.has.done in
      no_newer more.later (more.passed ++ older) (omega (arith, n, m, done, all))

  pub walked_all : (most : ℕ) (newer older : List Act) (file : ActsFile D) → PassesMore g begun newer older file → length (newer ++ older) ≤ file.done → HasWalked g begun most newer older file
  walked_all most newer older file more all = record { more = more; end = inl (none_left newer older file more all) }

  pub walked_on : (most : ℕ) (newer older : List Act) (mid file : ActsFile D) (more : PassesMore g begun newer older mid) → HasPassed g begun (more.passed ++ older) file → EndsAt g begun most more.later (more.passed ++ older) file → HasWalked g begun most newer older file
  walked_on most newer older mid file more has end = record { more = record { later = more.later; passed = more.passed; parts = more.parts; has = has }; end = end }

  -- no line is left of a file that has those of all acts
  pub no_newer_left : (newer older : List Act) (file : ActsFile D) → HasPassed g begun older file → length (newer ++ older) ≤ file.done → newer ≡ []
  no_newer_left newer older file has all = let n = length-append newer older in let done = has.done in no_newer newer older (omega (arith, n, done, all))

  -- what is cut behind the lines of all acts
  pub cut_keeps : (acts : List Act) (mid new : ActsFile D) → HasPassed g begun acts mid → new.len ≡ mid.len → new.done ≡ mid.done → new.day ≡ mid.day → IsTrue (g.is_usable new.disk) → (IsCleanFile g new → IsCleanFile g mid)
      → ((text : List ℕ) → ShowsText g text mid.len mid.disk → HasText g text mid.len new.disk) → KeepsActs g begun acts new
  cut_keeps acts mid new was len done day usable calm cut = record {
    usable = usable;
    done = done ∙ was.done;
    day = day ∙ was.day;
    text = λ clean. subst (λ l. HasText g (history_text begun acts) l new.disk) (sym len) (cut (history_text begun acts) (was.text (calm clean)));
  }

  -- what a torn write of the next lines leaves is no more than they are
  pub no_longer : (old mid : ActsFile D) (bytes : List ℕ) → IsSameFile g old.disk mid.disk → mid.len ≡ old.len → IsLeftOf bytes (rest_of g old) → length (g.seen mid.disk) ≤ mid.len + length bytes
  no_longer old mid bytes same len left =
      let n = length-drop old.len (g.seen old.disk) in
      let few = left.few in
      let seen = ap length same.seen in
      omega (arith, n, few, len, seen)

  -- and they were written over it
  pub put_over : (newer older : List Act) (old new : ActsFile D) (lines : HistoryLines (Vec ℕ Global)) (bytes : List ℕ) (h : AreNextLines begun 1_000 newer older lines) → bytes ≡ lines.out.items → (IsCleanFile g new → IsLeftOf bytes (rest_of g old)) → KeepsActs g begun (h.next ++ older) new
      → IsPut g begun newer older old new
  put_over newer older old new lines bytes h is left keeps = record {
    keeps = record { later = h.are_next.later; added = h.next; parts = h.are_next.parts; keeps = keeps };
    torn = λ clean. inl (h.next, h.are_next, subst (λ t. IsLeftOf t (rest_of g old)) (is ∙ h.are.text) (left clean));
  }

  -- behind the lines of all acts stood part of the line of the next, and was cut
  pub put_cut : (acts : List Act) (old new : ActsFile D) → KeepsActs g begun acts new → (IsCleanFile g new → IsPartOf (next_number acts) (rest_of g old)) → IsPut g begun [] acts old new
  put_cut acts old new keeps part = record {
    keeps = record { later = []; added = []; parts = refl; keeps = keeps };
    torn = λ clean. inr (refl, part clean);
  }

  pub other_behind : (acts : List Act) (n : ℕ) (old new : ActsFile D) (fault : ActsFault) → n ≡ next_number acts → IsSameFile g old.disk new.disk → (IsCleanFile g new → ¬ IsPartOf n (rest_of g old)) → (IsCleanFile g new → Misfits begun [] acts (rest_of g old) fault)
      → IsOther g begun [] acts old new fault
  other_behind acts n old new fault number same other misfits = record {
    same = same;
    other = λ clean. not_part begun acts (rest_of g old) (λ part. other clean (subst (λ m. IsPartOf m (rest_of g old)) (sym number) part));
    misfits = misfits;
  }

module _ {D : Type 0} (g : Ghosts D) (begun : ℤ) (acts newer older : List Act) (parts : acts ≡ newer ++ older) (start : D) (mid : ActsFile D) (same : IsSameFile g start mid.disk) (passed : HasPassed g begun older mid) where
  had : (clean : IsCleanFile g mid) → g.seen start ≡ history_text begun older ++ rest_of g mid
  had clean = sym same.seen ∙ had_text g begun older mid passed clean

  -- what was put right is opened once all acts are kept
  pub opened_as : (put file : ActsFile D) → IsPut g begun newer older mid put → (IsCleanFile g put → IsCleanFile g mid) → (IsCleanFile g file → IsCleanFile g put) → KeepsActs g begun acts file → IsOpened g begun acts start file
  opened_as put file is calm later keeps = record {
    keeps = keeps;
    older = older;
    newer = newer;
    parts = parts;
    tail = rest_of g mid;
    had = λ clean. had (calm (later clean));
    torn = λ clean. is.torn (later clean);
  }

  refused_as : (put : ActsFile D) (fault : ActsFault) → IsOther g begun newer older mid put fault → IsRefused g begun acts start put.disk fault
  refused_as put fault is = record {
    same = same_then g start mid.disk put.disk same is.same;
    older = older;
    newer = newer;
    parts = parts;
    rest = rest_of g mid;
    has = λ clean. had (is.same.clean clean);
    other = is.other;
    misfits = is.misfits;
  }

  pub not_opened_as : (put : ActsFile D) (fault told : ActsFault) → IsNotPutBy g begun newer older mid put told fault → IsNotOpenedBy g begun acts start put.disk fault told
  not_opened_as put fault File is = tt
  not_opened_as put fault Store is = tt
  not_opened_as put fault Foreign is = tt
  not_opened_as put fault (Differs n) is = refused_as put fault is
  not_opened_as put fault (Lacks n) is = refused_as put fault is

pub of_books : (fault : ActsFault) → IsOfBooks fault → IsNoMisfit fault
of_books File is = absurd is
of_books Store is = tt
of_books Foreign is = tt
of_books (Differs n) is = absurd is
of_books (Lacks n) is = absurd is

pub of_file : (fault : ActsFault) → IsOfFile fault → IsNoMisfit fault
of_file File is = tt
of_file Store is = tt
of_file Foreign is = absurd is
of_file (Differs n) is = absurd is
of_file (Lacks n) is = absurd is
