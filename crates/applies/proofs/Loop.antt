-- The lines that were read so far, and the acts that were done.
use Rattle.applies.proofs.Words.{◌≡◌, ◌≢◌, ℕ, ◌+◌, List, [], ◌∷◌, ◌++◌, append_assoc, length, Option, Ok, Err, inl, inr, refl, sym, ap, subst, arith, ◌⊎◌, ℤ, OnSome, Consumes, IsAtEnd, Consumes-trans, Ghosts, Trees, Act, IsHistory, Connected, HoldsBooks, newer_text, IsPart, IsLine, end_back, IsOfWant, AreCommitted, OfText, IsAt, Stands, MisfitsThere, IsLineAdded, LeavesLine, AreLinesDone, LeavesLines, NotApplied, Line, At}
use Rattle.applies.proofs.Texts.{no_line, told_on, told_at_end}

module _ {S R : Type 0} (g : Ghosts S) (remaining : R → Option (List ℕ)) (left : Option (List ℕ)) (first begun : ℤ) (acts : List Act) (line : List ℕ) (lines : ℕ) where
  -- the lines of the newer acts came, and these were done
  pub record Came (at : At) (now : R) (books : Connected S) : Type 0 where
    pub newer : List Act
    pub some : newer ≢ []
    pub history : IsHistory first (newer ++ acts)
    pub holds : HoldsBooks g first (newer ++ acts) books
    pub stands : IsAt begun (newer ++ acts) at
    pub count : at.lines ≡ lines + length newer
    pub read : Consumes left (remaining now) (newer_text begun newer acts)
    pub lasts : AreCommitted g first (newer ++ acts) books

  -- and another line, which is not done yet
  pub record Comes (at : At) (now : R) (last : List ℕ) (books : Connected S) : Type 0 where
    pub newer : List Act
    pub history : IsHistory first (newer ++ acts)
    pub holds : HoldsBooks g first (newer ++ acts) books
    pub stands : IsAt begun (newer ++ acts) at
    pub count : at.lines ≡ lines + length newer
    pub read : Consumes left (remaining now) (newer_text begun newer acts ++ last)
    pub head : newer ≡ [] → last ≡ line
    pub whole : IsLine last

  pub starts : (at : At) (reader : R) (books : Connected S) → at.lines ≡ lines → Stands g first begun acts left (remaining reader) at line books → Comes at reader line books
  starts at reader books n h =
      record { newer = []; history = h.history; holds = h.holds; stands = h.stands; count = omega (arith, n); read = h.read; head = λ e. refl; whole = h.whole }

  pub one_done : (at after : At) (now : R) (last : List ℕ) (books later : Connected S) (c : Comes at now last books) → IsLineAdded g first begun (c.newer ++ acts) last at after later → Came after now later
  one_done at after now last books later c h = record {
    newer = h.act ∷ c.newer;
    some = λ e. cc;
    history = h.history;
    holds = h.holds;
    stands = h.at;
    count = omega (arith, h.lines, c.count);
    read = subst (λ t. Consumes left (remaining now) (newer_text begun c.newer acts ++ t)) h.is c.read;
    lasts = h.lasts;
  }

  pub next_read : (at : At) (now then : R) (next : List ℕ) (books : Connected S) → Came at now books → Consumes (remaining now) (remaining then) next → IsLine next → Comes at then next books
  next_read at now then next books c read whole = record {
    newer = c.newer;
    history = c.history;
    holds = c.holds;
    stands = c.stands;
    count = c.count;
    read = Consumes-trans left (remaining now) (remaining then) (newer_text begun c.newer acts) next c.read read;
    head = λ e. absurd (c.some e);
    whole = whole;
  }

  -- ---- how it ends

  pub ended : (at : At) (now then : R) (next : List ℕ) (books : Connected S) → Came at now books → Consumes (remaining now) (remaining then) next → IsPart next → OnSome (remaining now) (IsAtEnd (remaining then))
      → OfText left (λ text. AreLinesDone g first begun acts line text lines (Ok at.lines) books)
  ended at now then next books c read part end =
      told_at_end left (remaining then) (newer_text begun c.newer acts ++ next) (λ text. AreLinesDone g first begun acts line text lines (Ok at.lines) books)
      (Consumes-trans left (remaining now) (remaining then) (newer_text begun c.newer acts) next c.read read) (end_back left (remaining now) (remaining then) (newer_text begun c.newer acts) c.read end)
      (record { newer = c.newer; history = c.history; behind = next; is = refl; ended = (part, c.some, c.count); holds = c.holds; lasts = c.lasts })

  pub fails_behind : (at : At) (now then : R) (next : List ℕ) (books : Connected S) → Came at now books → Consumes (remaining now) (remaining then) next → (fault : NotApplied)
      → IsOfWant fault ⊎ ((fault ≡ Line (at.lines + 1)) × IsPart next × (length next ≡ 8_192)) → OfText left (λ text. AreLinesDone g first begun acts line text lines (Err fault) books)
  fails_behind at now then next books c read fault why =
      told_on left (remaining then) (newer_text begun c.newer acts ++ next) (λ text. AreLinesDone g first begun acts line text lines (Err fault) books)
      (Consumes-trans left (remaining now) (remaining then) (newer_text begun c.newer acts) next c.read read)
      (λ rest. record {
        newer = c.newer;
        history = c.history;
        behind = next ++ rest;
        is = append_assoc (newer_text begun c.newer acts) next rest;
        ended = elim why [
          | inl own ↦ inl own
          | inr long ↦
              inr (
                record {
                  line = next;
                  more = rest;
                  parts = refl;
                  piece = inr (long.1, long.2);
                  misfits = subst (MisfitsThere first begun (c.newer ++ acts) (lines + length c.newer) next) (sym long.0) (omega (arith, c.count), λ act own is. no_line _ (subst IsPart is long.1));
                },
                λ e. absurd (c.some e),
              )
        ];
        holds = c.holds;
        lasts = tt;
      })

  pub fails_at : (at : At) (now : R) (last : List ℕ) (books later : Connected S) (c : Comes at now last books) (fault : NotApplied) → HoldsBooks g first (c.newer ++ acts) later
      → IsOfWant fault ⊎ MisfitsThere first begun (c.newer ++ acts) at.lines last fault → OfText left (λ text. AreLinesDone g first begun acts line text lines (Err fault) later)
  fails_at at now last books later c fault holds why =
      told_on left (remaining now) (newer_text begun c.newer acts ++ last) (λ text. AreLinesDone g first begun acts line text lines (Err fault) later) c.read
      (λ rest. record {
        newer = c.newer;
        history = c.history;
        behind = last ++ rest;
        is = append_assoc (newer_text begun c.newer acts) last rest;
        ended = elim why [
          | inl own ↦ inl own
          | inr misfit ↦
              inr (record { line = last; more = rest; parts = refl; piece = inl c.whole; misfits = subst (λ n. MisfitsThere first begun (c.newer ++ acts) n last fault) c.count misfit }, c.head)
        ];
        holds = holds;
        lasts = tt;
      })

  pub leaves_at : (at : At) (now : R) (last : List ℕ) (books : Connected S) (c : Comes at now last books) (trees : Trees) → LeavesLine first begun (c.newer ++ acts) last trees
      → OfText left (λ text. LeavesLines first begun acts text trees)
  leaves_at at now last books c trees gone =
      told_on left (remaining now) (newer_text begun c.newer acts ++ last) (λ text. LeavesLines first begun acts text trees) c.read
      (λ rest. elim gone [
        | inl same ↦ record { newer = c.newer; history = c.history; behind = last ++ rest; is = append_assoc (newer_text begun c.newer acts) last rest; books = same }
        | inr more ↦ record { newer = more.0 ∷ c.newer; history = more.2; behind = rest; is = ap (λ t. (newer_text begun c.newer acts ++ t) ++ rest) more.1; books = more.3 }
      ])
