-- What comes of an act, told in bytes.
use Rattle.house.proofs.Words.{◌≡◌, ℕ, true, false, List, refl, ap, sym, subst, ◌∙◌, inl, inr, ◌⊎◌, if◌then◌else◌, Bool, ℤ, Result, Ok, Err, OnOk, IsTrue, Ghosts, Trees, state, Survives, label_read, Label, LabelFault, refusal_code, Act, today, Accepted, Repeated, outcome, appended, acts_after, IsHistory, IsSoundRequest, history_after, code_text, Connected, Reply, Fault, Refused, Store, Foreign, AreBooks, KeepsBooks, HoldsBooks, LeavesOnly, MayLeave, IsClean, IsActed, short_answer, outcome_answer, not_served, is_served, act_answer, acts_with, Delivered, scan_answer, acts_scanned, told_answer, IsDone, IsUndone, scanned_answer, scanned_acts}

-- a reply is answered alike the first time and when it comes again
reply_told : (repeated : Bool) (text : List ℕ) → outcome_answer (if repeated then Repeated text else Accepted text) ≡ short_answer 200 text
reply_told true text = refl
reply_told false text = refl

served_answer : (first : ℤ) (acts : List Act) (act : Act) → is_served act ≡ true → act_answer first acts act ≡ outcome_answer (outcome first acts act)
served_answer first acts act e = ap (λ b. if b then outcome_answer (outcome first acts act) else not_served) e

served_acts : (first : ℤ) (acts : List Act) (act : Act) → is_served act ≡ true → acts_with first acts act ≡ acts_after first acts act
served_acts first acts act e = ap (λ b. if b then acts_after first acts act else acts) e

module _ {S : Type 0} (g : Ghosts S) (first : ℤ) (acts : List Act) (old : Connected S) where
  -- an answer after which the books are the same
  pub tells : (wanted bytes : List ℕ) → bytes ≡ wanted → IsHistory first acts → HoldsBooks g first acts old
      → IsDone g first acts old wanted acts bytes old ⊎ IsUndone g first acts old acts bytes old
  tells wanted bytes e history holds = inl (record { answer = e; history = history; holds = holds; kept = λ trees left. inr (left, refl) })

  -- what is done with a label that was read at the business day
  pub scanned : (d : Delivered) (text : List ℕ) (day : ℤ) (read : Result Label LabelFault) (bytes : List ℕ) (books : Connected S) → read ≡ label_read day text → day ≡ today first acts
      → IsDone g first acts old (scan_answer first acts d read) (acts_scanned first acts d read) bytes books ⊎ IsUndone g first acts old (acts_scanned first acts d read) bytes books
      → IsDone g first acts old (scanned_answer first acts d text) (scanned_acts first acts d text) bytes books ⊎ IsUndone g first acts old (scanned_acts first acts d text) bytes books
  scanned d text day read bytes books is_read is_today h =
      subst (λ r. IsDone g first acts old (scan_answer first acts d r) (acts_scanned first acts d r) bytes books ⊎ IsUndone g first acts old (acts_scanned first acts d r) bytes books)
      (is_read ∙ ap (λ t. label_read t text) is_today) h

  module _ (act : Act) (yes : is_served act ≡ true) (sound : IsSoundRequest act) (history : IsHistory first acts) (books : Connected S) where
    same_acts : acts_after first acts act ≡ acts_with first acts act
    same_acts = sym (served_acts first acts act yes)

    later : IsHistory first (acts_with first acts act)
    later = subst (IsHistory first) same_acts (history_after first act acts sound history)

    done : (bytes : List ℕ) → bytes ≡ outcome_answer (outcome first acts act) → HoldsBooks g first (acts_after first acts act) books
        → ((trees : Trees) → MayLeave g books trees → AreBooks first (acts_with first acts act) trees ⊎ (MayLeave g old trees × (acts_with first acts act ≡ acts)))
        → IsDone g first acts old (act_answer first acts act) (acts_with first acts act) bytes books ⊎ IsUndone g first acts old (acts_with first acts act) bytes books
    done bytes e holds kept =
        inl (record {
          answer = e ∙ sym (served_answer first acts act yes);
          history = later;
          holds = subst (λ a. HoldsBooks g first a books) same_acts holds;
          kept = kept;
        })

    -- a stop leaves what it left before, or the books with the act
    module _ (was : HoldsBooks g first acts old) (clean : IsClean g books)
        (survives : Survives (state g old.conn) (state g books.conn) (λ trees. IsTrue (is_served act) → (first : ℤ) (acts : List Act) → IsHistory first acts → KeepsBooks first acts (state g old.conn)
        → AreBooks first (acts_after first acts act) trees)) where
      whole_or_none : (trees : Trees) → MayLeave g books trees → MayLeave g old trees ⊎ AreBooks first (acts_with first acts act) trees
      whole_or_none trees left = elim (survives.crash clean trees left) [
        | inl before ↦ inl before
        | inr rows ↦ inr (subst (λ a. AreBooks first a trees) same_acts (rows yes first acts history was.keeps))
      ]

      refused_kept : acts_with first acts act ≡ acts → (trees : Trees) → MayLeave g books trees
          → AreBooks first (acts_with first acts act) trees ⊎ (MayLeave g old trees × (acts_with first acts act ≡ acts))
      refused_kept none trees left = elim (whole_or_none trees left) [ inl before ↦ inr (before, none) | inr rows ↦ inl rows ]

      failed_kept : (trees : Trees) → MayLeave g books trees → MayLeave g old trees ⊎ (IsHistory first (acts_with first acts act) × AreBooks first (acts_with first acts act) trees)
      failed_kept trees left = elim (whole_or_none trees left) [ inl before ↦ inl before | inr rows ↦ inr (later, rows) ]

      pub acted : (result : Result Reply Fault) → IsActed g first acts act result books → OnOk result (LeavesOnly first (acts_after first acts act) (state g books.conn))
          → IsDone g first acts old (act_answer first acts act) (acts_with first acts act) (told_answer result) books ⊎ IsUndone g first acts old (acts_with first acts act) (told_answer result) books
      acted (Ok reply) h kept =
          done (short_answer 200 reply.text) (sym (reply_told reply.repeated reply.text) ∙ ap outcome_answer h.0) h.2
          (λ trees left. inl (subst (λ a. AreBooks first a trees) same_acts (kept trees left)))
      acted (Err (Refused why)) h kept =
          let none : acts_after first acts act ≡ acts = ap (appended act acts) (sym h.0) in
          done (short_answer 409 (code_text (refusal_code why))) (ap outcome_answer h.0) (subst (λ a. HoldsBooks g first a books) (sym none) h.1)
          (refused_kept (sym same_acts ∙ none))
      acted (Err Store) h kept = inr (record { answer = refl; holds = h; kept = failed_kept })
      acted (Err Foreign) h kept = absurd h
