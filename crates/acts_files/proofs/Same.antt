-- A file of which nothing was changed, and one that keeps its texts.
use Rattle.acts_files.proofs.Words.{◌≡◌, ℕ, ◌+◌, ◌≤◌, List, [], ◌++◌, append-nil, length, length-append, append_assoc, drop, refl, sym, ap, ◌∙◌, arith, ℤ, front_rest, Holds, Ghosts, Act, today, history_text, newer_text, HasText, BeginsWith, HasAtMost, IsSameFile, LosesNoLine, IsCleanFile, KeepsActs, HasPassed, KeepsTexts, rest_of, IsMeasured, KeepsLines, Begins, HasNoLine, ActsFile}
use Rattle.acts_files.proofs.Lines.{lines_below}
use Rattle.acts_files.proofs.Read.{stand, stand_back}
use Rattle.acts_files.proofs.TextParts.{goes_on}

module _ {D : Type 0} (g : Ghosts D) where
  pub same_file : (d : D) → IsSameFile g d d
  same_file d = record { seen = refl; left = λ c may. may; clean = λ clean. clean }

  pub same_then : (a b c : D) → IsSameFile g a b → IsSameFile g b c → IsSameFile g a c
  same_then a b c one two = record { seen = two.seen ∙ one.seen; left = λ bytes may. one.left bytes (two.left bytes may); clean = λ clean. one.clean (two.clean clean) }

  pub begins_same : (text : List ℕ) (a b : D) → IsSameFile g a b → BeginsWith g text a → BeginsWith g text b
  begins_same text a b same begins c may = begins c (same.left c may)

  pub few_text : (text : List ℕ) (len most : ℕ) (a : D) → HasText g text len a → HasAtMost g text most a
  few_text text len most a has c may = ([], has.left c may ∙ sym (append-nil text), omega arith)

  pub text_same : (text : List ℕ) (len : ℕ) (a b : D) → IsSameFile g a b → HasText g text len a → HasText g text len b
  text_same text len a b same t = record { long = t.long; seen = same.seen ∙ t.seen; left = λ c may. t.left c (same.left c may) }

  pub keeps_itself : (a : ActsFile D) → KeepsTexts g a a
  keeps_itself a = record { clean = λ clean. clean; kept = λ text holds. holds }

  pub keeps_then : (a b c : ActsFile D) → KeepsTexts g a b → KeepsTexts g b c → KeepsTexts g a c
  keeps_then a b c one two = record {
    clean = λ clean. one.clean (two.clean clean);
    kept = λ text holds. two.kept text (one.kept text holds);
  }

  pub same_keeps : (a b : ActsFile D) → IsSameFile g a.disk b.disk → b.len ≡ a.len → KeepsTexts g a b
  same_keeps a b same long = record {
    clean = same.clean;
    kept = λ text holds. let low = holds.1 in (begins_same text a.disk b.disk same holds.0, omega (arith, low, long));
  }

  pub loses_none : (a b : D) → IsSameFile g a b → LosesNoLine g a b
  loses_none a b same clean only lines rest are is c may = (rest, only c (same.left c may) ∙ is)

  pub loses_from : (a b c : D) → IsSameFile g a b → LosesNoLine g b c → LosesNoLine g a c
  loses_from a b c same loses clean only lines rest are is =
      loses clean (λ bytes may. only bytes (same.left bytes may) ∙ sym same.seen) lines rest are (same.seen ∙ is)

  pub keeps_from : (a b : D) (c : ActsFile D) → IsSameFile g a b → KeepsLines g b c → KeepsLines g a c
  keeps_from a b c same keeps clean only lines rest are is =
      keeps clean (λ bytes may. only bytes (same.left bytes may) ∙ sym same.seen) lines rest are (same.seen ∙ is)

  pub keeps_on : (a : D) (b c : ActsFile D) → KeepsLines g a b → KeepsTexts g b c → KeepsLines g a c
  keeps_on a b c keeps texts clean only lines rest are is =
      texts.kept lines (keeps (texts.clean clean) only lines rest are is)

  pub keeps_loses : (a : D) (b : ActsFile D) → KeepsLines g a b → LosesNoLine g a b.disk
  keeps_loses a b keeps clean only lines rest are is = (keeps clean only lines rest are is).0

  -- what is written, or cut, behind the whole lines that a file has leaves them
  pub put_keeps : (size : ℕ) (old mid new : ActsFile D) → IsSameFile g old.disk mid.disk → mid.len ≡ old.len → IsMeasured g size old → old.len ≤ size → (IsCleanFile g mid → HasNoLine (rest_of g old)) → KeepsTexts g mid new
      → KeepsLines g old.disk new
  put_keeps size old mid new same long measured low none texts clean only lines rest are is =
      let now = texts.clean clean in
      let whole = measured (same.clean now) in
      let under = lines_below (g.seen old.disk) lines rest old.len are is (omega (arith, low, whole)) (none now) in
      texts.kept lines (λ c may. (rest, only c (same.left c may) ∙ is), omega (arith, under, long))

  module _ (begun : ℤ) where
    pub passed_of : (acts : List Act) (file : ActsFile D) → KeepsActs g begun acts file → HasPassed g begun acts file
    passed_of acts file keeps = record {
      done = keeps.done;
      day = keeps.day;
      text = λ clean. let t = keeps.text clean in record { long = t.long; more = []; seen = t.seen ∙ sym (append-nil (history_text begun acts)) };
    }

    -- whatever a stop leaves of it is their text
    pub few_of : (acts : List Act) (file : ActsFile D) (most : ℕ) → KeepsActs g begun acts file → IsCleanFile g file → HasAtMost g (history_text begun acts) most file.disk
    few_of acts file most keeps clean = few_text (history_text begun acts) file.len most file.disk (keeps.text clean)

    -- the lines of some acts more were passed
    pub more_passed : (next older : List Act) (now after : ActsFile D) (lines : List ℕ) → HasPassed g begun older now → IsSameFile g now.disk after.disk → lines ≡ newer_text begun next older → after.len ≡ now.len + length lines
        → after.done ≡ length (next ++ older) → after.day ≡ today begun (next ++ older) → (IsCleanFile g after → Holds (g.seen now.disk) now.len lines) → HasPassed g begun (next ++ older) after
    more_passed next older now after lines was same is len done day holds = record {
      done = done;
      day = day;
      text = λ clean.
          let had = was.text (same.clean clean) in
          let text = history_text begun older in
          let all = g.seen now.disk in
          let more = drop (now.len + length lines) all in
          let behind : had.more ≡ lines ++ more = sym (front_rest all text had.more had.seen) ∙ ap (λ n. drop n all) (sym had.long) ∙ stand all lines now.len (holds clean) in
          let whole : history_text begun (next ++ older) ≡ text ++ lines = goes_on begun next older ∙ ap (λ l. text ++ l) (sym is) in
          record {
            long = len ∙ ap (λ n. n + length lines) had.long ∙ sym (length-append text lines) ∙ ap length (sym whole);
            more = more;
            seen = same.seen ∙ had.seen ∙ ap (λ l. text ++ l) behind ∙ sym (append_assoc text lines more) ∙ ap (λ l. l ++ more) (sym whole);
          };
    }

    -- they do not stand there
    pub not_there : (older : List Act) (now after : ActsFile D) (lines : List ℕ) → HasPassed g begun older now → IsSameFile g now.disk after.disk → after.len ≡ now.len → (IsCleanFile g after → ¬ Holds (g.seen now.disk) now.len lines)
        → IsCleanFile g after → ¬ Begins lines (rest_of g after)
    not_there older now after lines was same long unlike clean begins =
        let had = was.text (same.clean clean) in
        let whole = ap length had.seen ∙ length-append (history_text begun older) had.more in
        let there : drop now.len (g.seen now.disk) ≡ lines ++ begins.0 = ap (λ s. drop now.len s) (sym same.seen) ∙ ap (λ n. drop n (g.seen after.disk)) (sym long) ∙ begins.1 in
        unlike clean (stand_back (g.seen now.disk) lines begins.0 now.len (omega (arith, whole, had.long)) there)

    pub passed_same : (acts : List Act) (a b : ActsFile D) → HasPassed g begun acts a → IsSameFile g a.disk b.disk → b.len ≡ a.len → b.done ≡ a.done → b.day ≡ a.day → HasPassed g begun acts b
    passed_same acts a b was same len done day = record {
      done = done ∙ was.done;
      day = day ∙ was.day;
      text = λ clean. let had = was.text (same.clean clean) in record { long = len ∙ had.long; more = had.more; seen = same.seen ∙ had.seen };
    }

    -- it has no more bytes than those of its lines
    pub no_more : (acts : List Act) (a b : ActsFile D) (most : ℕ) → KeepsActs g begun acts a → IsSameFile g a.disk b.disk → b.len ≡ a.len → IsCleanFile g b → length (g.seen b.disk) ≤ b.len + most
    no_more acts a b most keeps same len clean = let t = keeps.text (same.clean clean) in let n = ap length (same.seen ∙ t.seen) in omega (arith, n, t.long, len)

  -- a file whose disk was cut, or written over, behind the lines that it had
  pub cut_texts : (mid new : ActsFile D) → new.len ≡ mid.len → (IsCleanFile g new → IsCleanFile g mid) → ((text : List ℕ) → length text ≤ mid.len → BeginsWith g text mid.disk → BeginsWith g text new.disk) → KeepsTexts g mid new
  cut_texts mid new len calm loses = record {
    clean = calm;
    kept = λ text holds. let low = holds.1 in (loses text low holds.0, omega (arith, low, len));
  }
