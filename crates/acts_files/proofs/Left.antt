-- What a stop leaves of a file that was not opened, or not brought up.
use Rattle.acts_files.proofs.Words.{◌≡◌, ◌⊎◌, ℕ, ◌≤◌, List, [], ◌++◌, append-nil, append_assoc, length, inl, inr, refl, sym, ap, subst, ◌∙◌, arith, ℤ, IsTrue, Result, Ok, Err, OnErr, Ghosts, Act, history_text, newer_text, IsAtMost, IsSameFile, HasAtMost, IsCleanFile, HasPassed, HasAdded, HasOldest, AreNext, rest_of, IsMeasured, LeavesOldest, ActsFile}
use Rattle.acts_files.proofs.Opens.{had_text}

-- it holds where an error comes, if it holds at all
pub on_err_any : {X E : Type 0} {P : Type 0} (r : Result X E) → P → OnErr r P
on_err_any (Ok x) p = tt
on_err_any (Err e) p = p

-- lines of some acts are lines of none and more
pub at_least_none : (begun : ℤ) (least all : List Act) (c : List ℕ) → HasOldest begun least all c → HasOldest begun [] all c
at_least_none begun least all c h = record {
  oldest = h.oldest;
  next = h.next;
  rest = h.rest;
  enough = (h.oldest, sym (append-nil h.oldest));
  are = h.are;
  few = h.few;
  is = h.is;
  short = h.short;
}

module _ {D : Type 0} (g : Ghosts D) where
  pub at_most_same : (most : ℕ) (a b : D) → IsSameFile g a b → IsAtMost g most a → IsAtMost g most b
  at_most_same most a b same before c may = before c (same.left c may)

  module _ (begun : ℤ) where
    -- acts more were added, or some of them
    pub left_added : (newer before after : List Act) (disk : D) → after ≡ newer ++ before → HasAdded g begun newer before disk → IsTrue (g.is_clean disk) → (c : List ℕ) → g.may_leave disk c → HasOldest begun before after c
    left_added newer before after disk is h clean c may =
        let r = h.left clean c may in
        let oldest = h.added ++ before in
        record {
          oldest = oldest;
          next = h.next;
          rest = r.0;
          enough = (h.added, refl);
          are = (h.beyond, is ∙ ap (λ l. l ++ before) (h.parts ∙ ap (λ l. l ++ h.added) h.split) ∙ append_assoc (h.beyond ++ h.next) h.added before ∙ append_assoc h.beyond h.next oldest);
          few = h.few;
          is = r.1;
          short = r.2;
        }

    pub left_lacking : (acts newer older : List Act) (start new : D) → acts ≡ newer ++ older → HasAdded g begun newer older new → LeavesOldest g begun acts start new
    left_lacking acts newer older start new is h clean only c may = inr (at_least_none begun older acts c (left_added newer older acts new is h clean c may))

    -- nothing was changed
    pub left_same : (acts : List Act) (a b : D) → IsSameFile g a b → LeavesOldest g begun acts a b
    left_same acts a b same clean only c may = let is = ap length (only c (same.left c may)) in inl (omega (arith, is))

    pub left_from : (acts : List Act) (a b c : D) → IsSameFile g a b → LeavesOldest g begun acts b c → LeavesOldest g begun acts a c
    left_from acts a b c same leaves clean only text may =
        subst (λ s. (length text ≤ length s) ⊎ HasOldest begun [] acts text) same.seen (leaves clean (λ d left. only d (same.left d left) ∙ sym same.seen) text may)

    -- what stood behind the lines was cut
    pub left_short : (acts : List Act) (size : ℕ) (old new : ActsFile D) → (IsCleanFile g new → IsCleanFile g old) → IsMeasured g size old → old.len ≤ size
        → ((most : ℕ) → old.len ≤ most → IsAtMost g most old.disk → IsAtMost g most new.disk) → LeavesOldest g begun acts old.disk new.disk
    left_short acts size old new calm measured low short clean only c may =
        let long = measured (calm clean) in
        inl (short (length (g.seen old.disk)) (omega (arith, low, long)) (λ d left. let is = ap length (only d left) in omega (arith, is)) c may)

    -- lines were written over it
    pub left_put : (newer older : List Act) (old mid new : ActsFile D) (next : List Act) (bytes : List ℕ) → HasPassed g begun older old → IsSameFile g old.disk mid.disk → mid.len ≡ old.len → AreNext 1_000 newer next → bytes ≡ newer_text begun next older
        → (IsCleanFile g new → IsCleanFile g mid) → (IsCleanFile g mid → length (rest_of g old) ≤ length bytes)
        → ((text : List ℕ) → (IsCleanFile g mid → (mid.len ≡ length text) × HasAtMost g text (length bytes) mid.disk) → IsCleanFile g new → HasAtMost g text (length bytes) new.disk)
        → LeavesOldest g begun (newer ++ older) old.disk new.disk
    left_put newer older old mid new next bytes was same long are is calm short few clean only c may =
        let text = history_text begun older in
        let now = calm clean in
        let had = had_text g begun older old was (same.clean now) in
        let has = was.text (same.clean now) in
        let left = few text (λ _. (long ∙ has.long, λ d may_leave. (rest_of g old, only d (same.left d may_leave) ∙ had, short now))) clean c may in
        inr (
        record {
          oldest = older;
          next = next;
          rest = left.0;
          enough = (older, sym (append-nil older));
          are = (are.later, ap (λ l. l ++ older) are.parts ∙ append_assoc are.later next older);
          few = are.few;
          is = left.1;
          short = subst (λ t. length left.0 ≤ length t) is left.2;
        }
        )
