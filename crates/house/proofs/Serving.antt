-- What is read of a reader and written to a writer.
use Rattle.house.proofs.Words.{◌≡◌, ◌≢◌, ◌∙◌, ℕ, false, List, [], ◌++◌, Option, Ok, Err, refl, sym, ap, subst, inl, inr, ◌⊎◌, append-nil, Result, OnErr, Appends, IsAtEnd, IsReading, needs_more, Head, Length, Json, Field, Path, Method, TooLarge, Memory, Read, Need, Bad, Request, no_memory, Writes, ServeFault, log_line, line_of_beginning, begun_by, IsWhole, HasLine, IsLogged, sent_of}

settled_text : (text bytes : List ℕ) (to : Option (List ℕ)) (r : Read) → IsReading text r → needs_more r ≡ false → IsWhole text to ⊎ (bytes ≡ no_memory)
settled_text text bytes to r read n = inl (inl (r, read, n))

-- the text is whole, or there was no memory
pub whole : (text bytes : List ℕ) (to : Option (List ℕ)) (r : Read) → (r ≢ Bad Memory → IsReading text r) → (needs_more r ≡ false) ⊎ IsAtEnd to → (r ≡ Bad Memory → bytes ≡ no_memory)
    → IsWhole text to ⊎ (bytes ≡ no_memory)
whole text bytes to r read (inr end) memory = inl (inr end)
whole text bytes to (Need e) read (inl n) memory = absurd cc
whole text bytes to (Request a) read (inl n) memory = settled_text text bytes to (Request a) (read (λ p. cc)) n
whole text bytes to (Bad Memory) read (inl n) memory = inr (memory refl)
whole text bytes to (Bad Head) read (inl n) memory = settled_text text bytes to (Bad Head) (read (λ p. cc)) n
whole text bytes to (Bad Length) read (inl n) memory = settled_text text bytes to (Bad Length) (read (λ p. cc)) n
whole text bytes to (Bad Json) read (inl n) memory = settled_text text bytes to (Bad Json) (read (λ p. cc)) n
whole text bytes to (Bad Field) read (inl n) memory = settled_text text bytes to (Bad Field) (read (λ p. cc)) n
whole text bytes to (Bad Path) read (inl n) memory = settled_text text bytes to (Bad Path) (read (λ p. cc)) n
whole text bytes to (Bad (Method m)) read (inl n) memory = settled_text text bytes to (Bad (Method m)) (read (λ p. cc)) n
whole text bytes to (Bad TooLarge) read (inl n) memory = settled_text text bytes to (Bad TooLarge) (read (λ p. cc)) n

pub writes : (r : Result (Unit {0}) ServeFault) (old new : Option (List ℕ)) (written bytes : List ℕ) → written ≡ bytes → Writes r old new written → Writes r old new bytes
writes r old new written bytes e h = subst (Writes r old new) e h

-- nothing of a text was lost, or there was no memory
answered_no_memory : (lost bytes : List ℕ) (r : Read) → (r ≡ Bad Memory → bytes ≡ no_memory) → (lost ≡ []) ⊎ (r ≡ Bad Memory) → (lost ≡ []) ⊎ (bytes ≡ no_memory)
answered_no_memory lost bytes r memory (inl none) = inl none
answered_no_memory lost bytes r memory (inr is) = inr (memory is)

module _ (old new : Option (List ℕ)) (bytes kept lost : List ℕ) where
  has_line : (lost ≡ []) ⊎ (bytes ≡ no_memory) → (log_line kept bytes ≡ []) ⊎ (log_line (kept ++ lost) bytes ≡ log_line kept bytes) → Appends old new (log_line kept bytes) → HasLine old new (kept ++ lost) bytes
  has_line (inl all) same h = inl (subst (λ t. Appends old new (log_line t bytes)) (sym (ap (λ l. kept ++ l) all ∙ append-nil kept)) h)
  has_line (inr memory) (inr same) h = inl (subst (Appends old new) (sym same) h)
  has_line (inr memory) (inl none) h = inr (memory, subst (Appends old new) none h)

  logged : {X E : Type 0} (end : Result X E) → (lost ≡ []) ⊎ (bytes ≡ no_memory) → Writes end old new (log_line kept bytes) → IsLogged end old new (kept ++ lost) bytes
  logged (Ok done) some h = has_line some (line_of_beginning kept lost bytes) h
  logged (Err fault) some h = begun_by old new _ _ (line_of_beginning kept lost bytes) h

-- the line that is written of what was kept of a text is that of the text
pub logs : {X E : Type 0} (end : Result X E) (old new : Option (List ℕ)) (text kept lost seen written bytes : List ℕ) (r : Read) → text ≡ kept ++ lost → seen ≡ kept → written ≡ bytes
    → (r ≡ Bad Memory → bytes ≡ no_memory) → (lost ≡ []) ⊎ (r ≡ Bad Memory) → Writes end old new (log_line seen written) → IsLogged end old new text bytes
logs end old new text kept lost seen written bytes r parts is_kept is_bytes memory some h =
    subst (λ t. IsLogged end old new t bytes) (sym parts)
    (logged old new bytes kept lost end (answered_no_memory lost bytes r memory some)
    (subst (λ b. Writes end old new (log_line kept b)) is_bytes (subst (λ t. Writes end old new (log_line t written)) is_kept h)))

-- the same, of what was sent: what is not sent was asked for, and then all of the text is kept
pub logs_sent : {X Y E F : Type 0} (kept : Result Y F) (end : Result X E) (old new : Option (List ℕ)) (text front lost seen written bytes : List ℕ) (r : Read) → text ≡ front ++ lost → seen ≡ front → written ≡ sent_of kept bytes
    → (r ≡ Bad Memory → bytes ≡ no_memory) → (bytes ≡ no_memory → OnErr kept ⊥) → (lost ≡ []) ⊎ (r ≡ Bad Memory) → Writes end old new (log_line seen written) → IsLogged end old new text (sent_of kept bytes)
logs_sent (Ok done) end old new text front lost seen written bytes r parts is_front is_sent memory sends some h = logs end old new text front lost seen written bytes r parts is_front is_sent memory some h
logs_sent (Err fault) end old new text front lost seen written bytes r parts is_front is_sent memory sends (inr is) h = absurd (sends (memory is))
logs_sent (Err fault) end old new text front lost seen written bytes r parts is_front is_sent memory sends (inl none) h =
    subst (λ t. IsLogged end old new t []) (sym parts)
    (logged old new [] front lost end (inl none) (subst (λ b. Writes end old new (log_line front b)) is_sent (subst (λ t. Writes end old new (log_line t written)) is_front h)))
