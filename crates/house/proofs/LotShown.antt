-- A card or a notice that was written into memory, told in bytes.
use Rattle.house.proofs.Words.{◌≡◌, ℕ, List, [], Some, Ok, Err, Result, refl, ap, sym, ◌∙◌, inl, inr, ◌⊎◌, ℤ, Ghosts, Refusal, Act, IsHistory, answer_bytes, Answer, Text, Connected, Refused, Store, Foreign, EachFault, Stopped, no_memory, view_answer, asked_answer, IsDone, IsUndone, Stays, Tells, text_answer}
use Rattle.store.specs.declared.each_fault.EachFault.TheVariants.{Fault}

module _ {S V : Type 0} (g : Ghosts S) (first : ℤ) (acts : List Act) (history : IsHistory first acts) (text : V → List ℕ) (shown : Result V Refusal) (old books : Connected S) where
  abbrev answer : V → Answer
  answer view = Text (text view)

  abbrev IsAnswer : List ℕ → Type 0
  IsAnswer bytes = IsDone g first acts old (view_answer answer shown) acts bytes books ⊎ IsUndone g first acts old acts bytes books

  seen : (bytes : List ℕ) → bytes ≡ view_answer answer shown → Stays g first acts old books → IsAnswer bytes
  seen bytes is stays = inl (record { answer = is; history = history; holds = stays.holds; kept = λ trees left. inr (stays.kept trees left, refl) })

  unseen : (bytes : List ℕ) → bytes ≡ no_memory → Stays g first acts old books → IsAnswer bytes
  unseen bytes is stays = inr (record { answer = is; holds = stays.holds; kept = λ trees left. inl (stays.kept trees left) })

  -- the text was told, or why there is none; or there was no memory for that
  pub written_told : (r : Result Unit EachFault) (written bytes : List ℕ) → Tells g first acts text shown old books (Some []) (Some written) r
      → (bytes ≡ asked_answer (text_answer written r)) ⊎ (bytes ≡ no_memory) → IsAnswer bytes
  written_told (Ok done) written bytes h (inl is) = seen bytes (is ∙ ap (λ t. answer_bytes (Text t)) h.2 ∙ sym (ap (view_answer answer) h.1)) h.3
  written_told (Ok done) written bytes h (inr none) = unseen bytes none h.3
  written_told (Err (Fault (Refused why))) written bytes h (inl is) = seen bytes (is ∙ sym (ap (view_answer answer) h.0)) h.2
  written_told (Err (Fault (Refused why))) written bytes h (inr none) = unseen bytes none h.2
  written_told (Err (Fault Store)) written bytes h (inl is) = unseen bytes is h.1
  written_told (Err (Fault Store)) written bytes h (inr none) = unseen bytes none h.1
  written_told (Err (Fault Foreign)) written bytes h is = absurd h
  written_told (Err Stopped) written bytes h (inl is) = unseen bytes is h.3
  written_told (Err Stopped) written bytes h (inr none) = unseen bytes none h.3
