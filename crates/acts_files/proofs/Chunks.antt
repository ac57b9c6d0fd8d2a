-- Lines that are added a few at once.
use Rattle.acts_files.proofs.Words.{◌≡◌, ◌⊎◌, ℕ, List, [], ◌++◌, append_assoc, append-nil, length, inl, inr, sym, ap, subst, ◌∙◌, arith, ℤ, Vec, Result, Ok, Err, OnOk, OnErr, Global, MoreFaults, Ghosts, Act, history_text, newer_text, HistoryLines, HasText, HasAtMost, IsSameFile, IsCleanFile, KeepsActs, KeepsNext, LacksNext, AreNextLines, ActsFile}
use Rattle.acts_files.proofs.Same.{few_of}
use Rattle.acts_files.proofs.TextParts.{no_newer}

module _ {D : Type 0} (g : Ghosts D) (begun : ℤ) where
  pub none_added : (newer older : List Act) (file : ActsFile D) → KeepsActs g begun older file → KeepsNext g begun newer older file
  none_added newer older file keeps = record { later = newer; added = []; parts = sym (append-nil newer); keeps = keeps }

  -- some were added, and then some more
  pub added_then : (newer older : List Act) (mid new : ActsFile D) (one : KeepsNext g begun newer older mid) → KeepsNext g begun one.later (one.added ++ older) new → KeepsNext g begun newer older new
  added_then newer older mid new one two = record {
    later = two.later;
    added = two.added ++ one.added;
    parts = one.parts ∙ ap (λ l. l ++ one.added) two.parts ∙ append_assoc two.later two.added one.added;
    keeps = subst (λ l. KeepsActs g begun l new) (sym (append_assoc two.added one.added older)) two.keeps;
  }

  pub whole_of : (newer older : List Act) (file : ActsFile D) (has : KeepsNext g begun newer older file) → newer ++ older ≡ has.later ++ (has.added ++ older)
  whole_of newer older file has = ap (λ l. l ++ older) has.parts ∙ append_assoc has.later has.added older

  -- where the acts that are kept come to the number of all, they are all
  pub all_added : (newer older : List Act) (file : ActsFile D) → KeepsNext g begun newer older file → file.done ≡ length (newer ++ older) → KeepsActs g begun (newer ++ older) file
  all_added newer older file has all =
      let whole = whole_of newer older file has in
      let none : has.later ≡ [] = no_newer has.later (has.added ++ older) (sym (ap length whole) ∙ sym all ∙ has.keeps.done) in
      subst (λ l. KeepsActs g begun l file) (sym (whole ∙ ap (λ l. l ++ (has.added ++ older)) none)) has.keeps

  -- no more were added, and no call on the file failed
  pub lacks_whole : (newer older : List Act) (old file : ActsFile D) (has : KeepsNext g begun newer older file) → LacksNext g begun newer older old file
  lacks_whole newer older old file has = record {
    has = record {
      added = has.added;
      later = has.later;
      parts = has.parts;
      next = [];
      beyond = has.later;
      split = sym (append-nil has.later);
      few = omega arith;
      left = few_of g begun (has.added ++ older) file 0 has.keeps;
    };
    why = inr (λ clean. has.keeps.text clean);
  }

  -- some lines could not be added
  pub lacks_lines : (newer older : List Act) (old new : ActsFile D) (bytes : List ℕ) (lines : HistoryLines (Vec ℕ Global)) (h : AreNextLines begun 1_000 newer older lines) → bytes ≡ lines.out.items → KeepsActs g begun older old → new.len ≡ old.len
      → (IsCleanFile g new → HasAtMost g (history_text begun older) (length bytes) new.disk) → MoreFaults (g.faults old.disk) (g.faults new.disk) ⊎ IsSameFile g old.disk new.disk → LacksNext g begun newer older old new
  lacks_lines newer older old new bytes lines h is keeps len few fails = record {
    has = record {
      added = [];
      later = newer;
      parts = sym (append-nil newer);
      next = h.next;
      beyond = h.are_next.later;
      split = h.are_next.parts;
      few = h.are_next.few;
      left = λ clean. subst (λ n. HasAtMost g (history_text begun older) n new.disk) (ap length (is ∙ h.are.text)) (few clean);
    };
    why = elim fails [
      | inl failed ↦ inl failed
      | inr same ↦ inr (λ clean. let t = keeps.text (same.clean clean) in record { long = len ∙ t.long; seen = same.seen ∙ t.seen; left = λ c may. t.left c (same.left c may) })
    ];
  }

  -- the same after some were added
  pub lacks_then : (newer older : List Act) (old mid new : ActsFile D) → g.faults mid.disk ≡ g.faults old.disk → (one : KeepsNext g begun newer older mid) → LacksNext g begun one.later (one.added ++ older) mid new → LacksNext g begun newer older old new
  lacks_then newer older old mid new steady one two =
      let add = two.has in
      let whole : add.added ++ (one.added ++ older) ≡ (add.added ++ one.added) ++ older = sym (append_assoc add.added one.added older) in
      record {
        has = record {
          added = add.added ++ one.added;
          later = add.later;
          parts = one.parts ∙ ap (λ l. l ++ one.added) add.parts ∙ append_assoc add.later add.added one.added;
          next = add.next;
          beyond = add.beyond;
          split = add.split;
          few = add.few;
          left = subst (λ l. IsCleanFile g new → HasAtMost g (history_text begun l) (length (newer_text begun add.next l)) new.disk) whole add.left;
        };
        why = elim two.why [
          | inl failed ↦ inl (subst (λ n. MoreFaults n (g.faults new.disk)) steady failed)
          | inr same ↦ inr (subst (λ l. IsCleanFile g new → HasText g (history_text begun l) new.len new.disk) whole same)
        ];
      }

-- where both hold of an error, what follows from them does
pub on_err_both : {X E : Type 0} {P Q R : Type 0} (r : Result X E) → OnErr r P → OnErr r Q → (P → Q → R) → OnErr r R
on_err_both (Ok x) p q f = tt
on_err_both (Err e) p q f = f p q

-- it holds of whatever result
pub on_ok_any : {X E : Type 0} {P : Type 0} (r : Result X E) → P → OnOk r P
on_ok_any (Ok x) p = p
on_ok_any (Err e) p = tt
