-- Rows of acts that are stored in the order of the acts are taken one after another.
use Rattle.histories.proofs.Words.{◌≡◌, ℕ, ◌+◌, List, [], ◌∷◌, ◌++◌, inl, inr, refl, sym, ap, subst, ◌∙◌, Some, ℤ, AllByRecursion, cases_Bool, same_Some, none-some, Trees, same_text, key_text, Reaches, StopsWithin, RepeatRow, Act, IsHistory, repeat_row, at_place, row_of, GoOnFrom, AreInTurn, IsNoSpelling, IsOutOfTurn, IsOfSpelling, IsOfRow, IsOfRows, HistoryFault}
use Rattle.histories.specs.declared.fault.HistoryFault.TheVariants as told

-- the row of an act spells a command
pub spelled_row : (first : ℤ) (acts : List Act) (k : List ℕ) (r : RepeatRow) → IsHistory first acts → repeat_row first acts k ≡ Some r → ¬ IsNoSpelling r.spell
spelled_row first [] k r h e none = none-some r e
spelled_row first (act ∷ before) k r h e none = elim (cases_Bool (same_text k (key_text act.key))) [
  | inl hit ↦ let is : row_of first act before ≡ r = same_Some _ r (rw hit at e) in none act.command h.1.sound.command (sym (ap (λ (s : RepeatRow). s.spell) is))
  | inr miss ↦ spelled_row first before k r h.0 (rw miss at e) none
]

module _ {S : Type 0} (takes : S → RepeatRow → S → Type 0) (done : S → ℕ) (count : (now : S) (r : RepeatRow) (after : S) → takes now r after → done after ≡ done now + 1) where
  -- behind those that were taken comes the row of the next number
  next_number_is : (taken others : List RepeatRow) (next : RepeatRow) (start last : S) → GoOnFrom (done start) (taken ++ next ∷ others) → Reaches takes start taken last → next.act ≡ done last + 1
  next_number_is [] others next start last on is = on.0 ∙ ap (λ s. done s + 1) (sym is)
  next_number_is (r ∷ taken) others next start last on h =
      next_number_is taken others next h.0 last (subst (λ n. GoOnFrom n (taken ++ next ∷ others)) (sym (count start r h.0 h.1)) on.1) h.2

  -- so a sink does not stop at a row that is out of turn
  pub not_in_turn : (first : ℤ) (acts : List Act) (stops : S → RepeatRow → S → Type 0) (rows : List RepeatRow) (start after : S) → IsHistory first acts → done start ≡ 0 → AllByRecursion (λ (r : RepeatRow). repeat_row first acts r.k ≡ Some r) rows
      → (h : StopsWithin takes stops start rows after) → IsOutOfTurn (done h.last) h.next → ¬ GoOnFrom 0 rows
  not_in_turn first acts stops rows start after history none mine h out turn =
      let own = at_place (λ (r : RepeatRow). repeat_row first acts r.k ≡ Some r) h.taken h.others h.next (subst (AllByRecursion (λ (r : RepeatRow). repeat_row first acts r.k ≡ Some r)) h.parts mine) in
      let all = subst (λ n. GoOnFrom n (h.taken ++ h.next ∷ h.others)) (sym none) (subst (GoOnFrom 0) h.parts turn) in
      elim out [
        | inl other ↦ other (next_number_is h.taken h.others h.next start h.last all h.reached)
        | inr unspelled ↦ spelled_row first acts h.next.k h.next history own unspelled
      ]

-- ---- what a fault tells

pub of_spelling : (done : ℕ) (row : RepeatRow) (fault : HistoryFault) → IsOfSpelling row.spell fault → IsOfRow done row fault
of_spelling done row told.Store h = tt
of_spelling done row told.Foreign h = inr h
of_spelling done row told.Output h = tt

pub of_other : (done : ℕ) (row : RepeatRow) (fault : HistoryFault) → (fault ≡ told.Foreign → ⊥) → IsOfRow done row fault
of_other done row told.Store h = tt
of_other done row told.Foreign h = absurd (h refl)
of_other done row told.Output h = tt

pub of_rows : (trees : Trees) (fault : HistoryFault) → (fault ≡ told.Foreign → ¬ AreInTurn trees) → IsOfRows trees fault
of_rows trees told.Store h = tt
of_rows trees told.Foreign h = h refl
of_rows trees told.Output h = tt
