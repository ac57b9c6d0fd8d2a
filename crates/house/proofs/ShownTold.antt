-- What comes of a query, told in bytes.
use Rattle.house.proofs.Words.{◌≡◌, ℕ, List, refl, ap, sym, subst, ◌∙◌, inl, inr, ◌⊎◌, ℤ, Option, Some, None, Result, Ok, Err, Ghosts, Trees, state, Survives, Refusal, Act, IsHistory, answer_bytes, Answer, Text, Connected, Fault, Refused, Store, Foreign, HoldsBooks, MayLeave, IsClean, IsShown, no_memory, view_answer, fault_shown, asked_answer, IsWritten, IsTextOf, IsDone, IsUndone, whole, whole_asked}

-- a view that is whole
module _ {V : Type 0} where
  as_view : (shown : Result V Refusal) (view : V) → whole shown ≡ Ok (Some view) → shown ≡ Ok view
  as_view (Ok v) view is = let same : v ≡ view = cc in ap (λ (x : V). let r : Result V Refusal = Ok x in r) same
  as_view (Err why) view is = absurd cc

  never_none : (shown : Result V Refusal) → whole shown ≡ Ok None → ⊥
  never_none (Ok v) is = cc
  never_none (Err why) is = cc

  as_refusal : (shown : Result V Refusal) (why : Refusal) → whole shown ≡ Err why → shown ≡ Err why
  as_refusal (Ok v) why is = absurd cc
  as_refusal (Err w) why is = let same : w ≡ why = cc in ap (λ (x : Refusal). let r : Result V Refusal = Err x in r) same

-- the text of a view that is shown was written
pub text_written : {V : Type 0} (text : V → List ℕ) (shown : Result V Fault) (view : V) (answer : Answer) → shown ≡ Ok view → answer ≡ Text (text view) → IsTextOf text shown (Ok answer)
text_written {V} text shown view answer is written = subst (λ (s : Result V Fault). IsTextOf text s (Ok answer)) (sym is) written

module _ {S V : Type 0} (g : Ghosts S) (first : ℤ) (acts : List Act) (history : IsHistory first acts) (answer : V → Answer) (shown : Result V Refusal) (old books : Connected S)
    (survives : Survives (state g old.conn) (state g books.conn) (λ _. ⊥)) (clean : IsClean g books) where
  -- a query commits nothing
  left_before : (trees : Trees) → MayLeave g books trees → MayLeave g old trees
  left_before trees left = elim (survives.crash clean trees left) [ inl before ↦ before | inr none ↦ absurd none ]

  seen : (bytes : List ℕ) → bytes ≡ view_answer answer shown → HoldsBooks g first acts books
      → IsDone g first acts old (view_answer answer shown) acts bytes books ⊎ IsUndone g first acts old acts bytes books
  seen bytes is holds = inl (record { answer = is; history = history; holds = holds; kept = λ trees left. inr (left_before trees left, refl) })

  unseen : (bytes : List ℕ) → bytes ≡ no_memory → HoldsBooks g first acts books
      → IsDone g first acts old (view_answer answer shown) acts bytes books ⊎ IsUndone g first acts old acts bytes books
  unseen bytes is holds = inr (record { answer = is; holds = holds; kept = λ trees left. inl (left_before trees left) })

  -- a view is told, or there was no memory for it
  pub view_told : (view : V) (bytes : List ℕ) → IsShown {V = V} g first acts shown (Ok view) books → (bytes ≡ answer_bytes (answer view)) ⊎ (bytes ≡ no_memory)
      → IsDone g first acts old (view_answer answer shown) acts bytes books ⊎ IsUndone g first acts old acts bytes books
  view_told view bytes h (inl is) = seen bytes (is ∙ sym (ap (view_answer answer) h.0)) h.1
  view_told view bytes h (inr is) = unseen bytes is h.1

  -- a text of the view is told, or there was no memory for it
  pub text_told : (view : V) (text : List ℕ) (asked : Result Answer Fault) (bytes : List ℕ) → answer view ≡ Text text → IsShown {V = V} g first acts shown (Ok view) books → IsWritten text asked
      → (bytes ≡ asked_answer asked) ⊎ (bytes ≡ no_memory) → IsDone g first acts old (view_answer answer shown) acts bytes books ⊎ IsUndone g first acts old acts bytes books
  text_told view text (Ok is) bytes e h written (inl told) = view_told view bytes h (inl (told ∙ ap answer_bytes (written ∙ sym e)))
  text_told view text (Err fault) bytes e h written (inl told) = view_told view bytes h (inr (told ∙ ap fault_shown written))
  text_told view text asked bytes e h written (inr none) = view_told view bytes h (inr none)

  fault_told_so : (fault : Fault) (bytes : List ℕ) → IsShown {V = V} g first acts shown (Err fault) books → bytes ≡ fault_shown fault
      → IsDone g first acts old (view_answer answer shown) acts bytes books ⊎ IsUndone g first acts old acts bytes books
  fault_told_so (Refused why) bytes h is = seen bytes (is ∙ sym (ap (view_answer answer) h.0)) h.1
  fault_told_so Store bytes h is = unseen bytes is h
  fault_told_so Foreign bytes h is = absurd h

  left : (fault : Fault) → IsShown {V = V} g first acts shown (Err fault) books → HoldsBooks g first acts books
  left (Refused why) h = h.1
  left Store h = h
  left Foreign h = absurd h

  -- why there is none
  pub fault_told : (fault : Fault) (bytes : List ℕ) → IsShown {V = V} g first acts shown (Err fault) books → (bytes ≡ fault_shown fault) ⊎ (bytes ≡ no_memory)
      → IsDone g first acts old (view_answer answer shown) acts bytes books ⊎ IsUndone g first acts old acts bytes books
  fault_told fault bytes h (inl is) = fault_told_so fault bytes h is
  fault_told fault bytes h (inr is) = unseen bytes is (left fault h)

  -- the text of what is shown is told, or why there is none
  pub shown_told : (text : V → List ℕ) → ((view : V) → answer view ≡ Text (text view)) → (found : Result V Fault) (asked : Result Answer Fault) (bytes : List ℕ) → IsShown {V = V} g first acts shown found books → IsTextOf text found asked
      → (bytes ≡ asked_answer asked) ⊎ (bytes ≡ no_memory) → IsDone g first acts old (view_answer answer shown) acts bytes books ⊎ IsUndone g first acts old acts bytes books
  shown_told text is (Ok view) asked bytes h written told = text_told view (text view) asked bytes (is view) h written told
  shown_told text is (Err fault) asked bytes h written (inl told) = fault_told fault bytes h (inl (told ∙ ap asked_answer written))
  shown_told text is (Err fault) asked bytes h written (inr none) = fault_told fault bytes h (inr none)

  whole_fault : (fault : Fault) → IsShown {V = Option V} g first acts (whole shown) (Err fault) books → IsShown {V = V} g first acts shown (Err fault) books
  whole_fault (Refused why) h = (as_refusal shown why h.0, h.1)
  whole_fault Store h = h
  whole_fault Foreign h = h

  -- a view that is whole is told, or why there is none
  pub whole_told : (found : Result (Option V) Fault) (asked : Result Answer Fault) (bytes : List ℕ) → IsShown {V = Option V} g first acts (whole shown) found books → asked ≡ whole_asked answer found
      → (bytes ≡ asked_answer asked) ⊎ (bytes ≡ no_memory) → IsDone g first acts old (view_answer answer shown) acts bytes books ⊎ IsUndone g first acts old acts bytes books
  whole_told (Ok (Some view)) asked bytes h is (inl told) = view_told view bytes (as_view shown view h.0, h.1) (inl (told ∙ ap asked_answer is))
  whole_told (Ok (Some view)) asked bytes h is (inr none) = view_told view bytes (as_view shown view h.0, h.1) (inr none)
  whole_told (Ok None) asked bytes h is told = absurd (never_none shown h.0)
  whole_told (Err fault) asked bytes h is (inl told) = fault_told fault bytes (whole_fault fault h) (inl (told ∙ ap asked_answer is))
  whole_told (Err fault) asked bytes h is (inr none) = fault_told fault bytes (whole_fault fault h) (inr none)
