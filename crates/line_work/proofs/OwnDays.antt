-- A file of these acts, begun on any day, is one of acts that began on the day that was found.
use Rattle.line_work.proofs.Words.{◌≡◌, ℕ, List, [], ◌∷◌, ◌++◌, append_assoc, inl, inr, refl, sym, ap, ap₂, subst, ◌∙◌, arith, ℤ, IsTrue, Ghosts, key_text, spelling, Act, next_number, IsHistory, today, day_after_command, history_text, history_line, act_line, newer_text, earlier, act_is_line, line_length, IsNoMisfit, IsSameFile, IsLeftOf, IsOwn, IsTail, IsNotOpenedBy, ActsFault, File, Store, Foreign, Differs, Lacks, last_of, goes_on, IsOwnBeside, FitsFile}

-- ---- acts that have one business day behind some of them have it from there on, and their lines are the same

module _ (a b : ℤ) (base : List Act) (same : today a base ≡ today b base) where
  days_on : (newer : List Act) → today a (newer ++ base) ≡ today b (newer ++ base)
  days_on [] = same
  days_on (x ∷ newer) = ap (day_after_command x.command) (days_on newer)

  lines_on : (newer : List Act) → newer_text a newer base ≡ newer_text b newer base
  lines_on [] = refl
  lines_on (x ∷ newer) =
      ap₂ (λ s t. s ++ t) (lines_on newer) (ap (λ d. history_line (next_number (newer ++ base)) d (key_text x.key) (spelling x.command)) (ap (day_after_command x.command) (days_on newer)))

  tail_on : (newer : List Act) (tail : List ℕ) → IsTail b newer base tail → IsTail a newer base tail
  tail_on newer tail (inl left) = inl (left.0, left.1, subst (λ t. IsLeftOf t tail) (sym (lines_on left.0)) left.2)
  tail_on newer tail (inr part) = inr part

text_on : (a b : ℤ) (act : Act) (newer : List Act) → today a (act ∷ []) ≡ today b (act ∷ []) → history_text a (newer ++ act ∷ []) ≡ history_text b (newer ++ act ∷ [])
text_on a b act newer same =
    goes_on a newer (act ∷ [])
    ∙ ap₂ (λ s t. s ++ t) (ap (λ d. history_line (next_number []) d (key_text act.key) (spelling act.command)) same) (lines_on a b (act ∷ []) same newer)
    ∙ sym (goes_on b newer (act ∷ []))

-- nothing is left of whatever lines
none_left : (a b : ℤ) (newer older : List Act) → IsTail b newer older [] → IsTail a newer older []
none_left a b newer older (inl left) =
    inl (
      left.0,
      left.1,
      record {
        few = omega arith;
        each = λ i low. absurd (omega (arith, low));
        lineless = λ j low. absurd (omega (arith, low));
      },
    )
none_left a b newer older (inr part) = inr part

module _ {D : Type 0} (g : Ghosts D) (first : ℤ) (acts : List Act) (disk read : D) (same : IsSameFile g disk read) (begun : ℤ) (fits : FitsFile g first acts disk begun) (o : IsOwnBeside g first acts disk) where
  -- where it has no line
  no_line : o.own.older ≡ [] → IsOwn g begun acts read
  no_line none =
      let empty : o.own.tail ≡ [] = elim o.some [ inl some ↦ absurd (some none) | inr empty ↦ empty ] in
      record {
        older = [];
        newer = o.own.newer;
        parts = o.own.parts ∙ ap (λ l. o.own.newer ++ l) none;
        tail = [];
        has = same.seen ∙ o.own.has ∙ ap₂ (λ l t. history_text o.begun l ++ t) none empty;
        torn = none_left begun o.begun o.own.newer [] (subst (λ t. IsTail o.begun o.own.newer [] t) empty (subst (λ l. IsTail o.begun o.own.newer l o.own.tail) none o.own.torn));
      }

  -- its first line tells the day
  from_line : (later : List Act) (act : Act) → o.own.older ≡ later ++ act ∷ [] → IsOwn g begun acts read
  from_line later act is =
      let newer = o.own.newer in
      let older = later ++ act ∷ [] in
      let line = act_line o.begun act [] in
      let parts : acts ≡ newer ++ older = o.own.parts ∙ ap (λ l. newer ++ l) is in
      let whole : acts ≡ (newer ++ later) ++ act ∷ [] = parts ∙ sym (append_assoc newer later (act ∷ [])) in
      let here = earlier o.begun (newer ++ later) (act ∷ []) (subst (IsHistory o.begun) whole o.day.history) in
      let has = o.own.has ∙ ap (λ l. history_text o.begun l ++ o.own.tail) is in
      let at : g.seen disk ≡ line ++ (newer_text o.begun later (act ∷ []) ++ o.own.tail) =
      has ∙ ap (λ t. t ++ o.own.tail) (goes_on o.begun later (act ∷ [])) ∙ append_assoc line (newer_text o.begun later (act ∷ [])) o.own.tail in
      let day : today begun (act ∷ []) ≡ today o.begun (act ∷ []) =
      fits line _ at (act_is_line o.begun o.begun act [] here) (line_length o.begun o.begun act [] here) o.begun [] (newer ++ later) act [] o.day o.day.history whole refl in
      record {
        older = older;
        newer = newer;
        parts = parts;
        tail = o.own.tail;
        has = same.seen ∙ has ∙ ap (λ t. t ++ o.own.tail) (sym (text_on begun o.begun act later day));
        torn = tail_on begun o.begun older (days_on begun o.begun (act ∷ []) day later) newer o.own.tail (subst (λ l. IsTail o.begun newer l o.own.tail) is o.own.torn);
      }

  pub own_here : IsOwn g begun acts read
  own_here = by o.own.older refl
    where
      by : (older : List Act) → o.own.older ≡ older → IsOwn g begun acts read
      by [] none = no_line none
      by (x ∷ xs) some = let l = last_of x xs in from_line l.0 l.1 (some ∙ l.2)

-- so it is not told that one of its lines is none of the acts
pub own_taken : {D : Type 0} (g : Ghosts D) (first : ℤ) (acts : List Act) (disk read new : D) (same : IsSameFile g disk read) (begun : ℤ) (fault : ActsFault) → (IsTrue (g.is_clean read) → FitsFile g first acts disk begun)
    → IsNotOpenedBy g begun acts read new fault fault → (IsTrue (g.is_clean new) → IsOwn g begun acts read → IsNoMisfit fault) → IsTrue (g.is_clean new) → IsOwnBeside g first acts disk → IsNoMisfit fault
own_taken g first acts disk read new same begun File fits is own clean o = tt
own_taken g first acts disk read new same begun Store fits is own clean o = tt
own_taken g first acts disk read new same begun Foreign fits is own clean o = tt
own_taken g first acts disk read new same begun (Differs n) fits is own clean o = own clean (own_here g first acts disk read same begun (fits (is.same.clean clean)) o)
own_taken g first acts disk read new same begun (Lacks n) fits is own clean o = own clean (own_here g first acts disk read same begun (fits (is.same.clean clean)) o)
