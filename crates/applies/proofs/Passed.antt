-- The text as a whole: the lines of acts that the books had, and those behind them.
use Rattle.applies.proofs.Words.{◌≡◌, ◌≢◌, ℕ, ◌+◌, ◌-◌, List, [], ◌∷◌, ◌++◌, append_assoc, append-nil, length, length-append, Result, Ok, Err, inl, inr, refl, sym, ap, subst, ◌∙◌, arith, ◌⊎◌, ℤ, OnOk, All-nil, Ghosts, Trees, Act, IsHistory, Connected, AreBooks, HoldsBooks, act_line, newer_text, IsPart, GoneOn, IsOfNone, Misfits, IsOfWant, IsOfNoLine, AreCommitted, StopsAtLine, IsDone, GoesOn, Leaves, counted, GoesOnByNone, MisfitsThere, EndsAtLine, AreLinesDone, IsBehindEnded, AreBehindDone, LeavesLines, Applied, NotApplied, Differs, Lacks, Line, Refused, Input, Store, Foreign}
use Rattle.applies.proofs.Texts.{newer_joined, no_line}
use Rattle.applies.proofs.Wants.{of_want}

pub nothing : IsPart []
nothing = All-nil (λ b. b ≢ 10)

pub no_front : (xs ys : List Act) → xs ++ ys ≡ [] → xs ≡ []
no_front [] ys e = refl
no_front (x ∷ xs) ys e = cc

pub no_back : (xs ys : List Act) → xs ++ ys ≡ [] → ys ≡ []
no_back [] ys e = e
no_back (x ∷ xs) ys e = cc

-- what is known at `Ok` is known of the counted, too
counted_lasts : (Is : Type 0) (lines : ℕ) (r : Result ℕ NotApplied) (newer : List Act) → OnOk r Is → OnOk (counted lines r) (newer ≢ [] → Is)
counted_lasts Is lines (Ok all) newer is = λ some. is
counted_lasts Is lines (Err fault) newer is = tt

module _ (first begun : ℤ) (acts : List Act) where
  -- ---- no line came

  abbrev pub none_gone : GoneOn begun acts [] []
  none_gone = record {
    later = acts;
    known = [];
    older = [];
    parts = sym (append-nil (acts ++ []) ∙ append-nil acts);
    next = λ some. absurd (some refl);
    none = λ _ _. refl;
    rest = [];
    part = nothing;
    is = refl;
  }

  -- the first line is that of none of the acts
  abbrev pub Unlike : List ℕ → Type 0
  Unlike head = (later : List Act) (act : Act) (base : List Act) → acts ≡ later ++ act ∷ base → head ≢ act_line begun act base

  none_first : (head line : List ℕ) → Unlike head → line ≡ head → GoesOnByNone first begun acts line → IsOfNone first begun acts [] [] none_gone line
  none_first head line unlike same none act older may = elim may.place [
    | inl end ↦ λ is. none act (subst (λ l. IsHistory first (act ∷ l)) end may.history) (is ∙ ap (act_line begun act) end)
    | inr mid ↦ λ is. unlike mid.0 act older mid.1 (sym same ∙ is)
  ]

  misfits_first : (head line : List ℕ) → Unlike head → line ≡ head → (fault : NotApplied) → MisfitsThere first begun acts 0 line fault → Misfits first begun acts [] [] none_gone line fault
  misfits_first head line unlike same (Lacks n) m = (m.0, m.1, none_first head line unlike same m.2)
  misfits_first head line unlike same (Line n) m = (m.0, none_first head line unlike same m.1)
  misfits_first head line unlike same (Refused n why) m = (m.0, record { act = m.1.act; sound = m.1.sound; is = m.1.is; refused = m.1.refused })
  misfits_first head line unlike same (Differs n) m = absurd m
  misfits_first head line unlike same Input m = absurd m
  misfits_first head line unlike same Store m = absurd m
  misfits_first head line unlike same Foreign m = absurd m

  pub stops_own : (text : List ℕ) (fault : NotApplied) → IsOfNoLine fault → StopsAtLine first begun acts text [] fault
  stops_own text fault own = record { front = []; behind = text; parts = refl; gone = none_gone; whole = refl; why = inl own }

  stops_first : (head text behind : List ℕ) (fault : NotApplied) → text ≡ behind → Unlike head → IsOfWant fault ⊎ ((end : EndsAtLine first begun acts [] 0 behind fault) × (◌≡◌ {A = List Act} [] [] → end.line ≡ head))
      → StopsAtLine first begun acts text [] fault
  stops_first head text behind fault is unlike why = record {
    front = [];
    behind = behind;
    parts = is;
    gone = none_gone;
    whole = refl;
    why = elim why [
      | inl own ↦ inl (of_want fault own)
      | inr e ↦ inr (e.0.line, e.0.more, e.0.parts, e.0.piece, misfits_first head e.0.line unlike (e.1 refl) fault e.0.misfits)
    ];
  }

  -- ---- lines of newer acts came behind those of these

  module _ (known older : List Act) (parts : acts ≡ known ++ older) where
    abbrev some_gone : (front rest : List ℕ) (newer : List Act) → (newer ≡ [] → known ≡ [] → ⊥) → IsPart rest → front ≡ newer_text begun (newer ++ known) older ++ rest → GoneOn begun acts front newer
    some_gone front rest newer some part is = record {
      later = [];
      known = known;
      older = older;
      parts = parts;
      next = λ _. refl;
      none = λ n k. absurd (some n k);
      rest = rest;
      part = part;
      is = is;
    }

    whole_is : (text behind : List ℕ) (newer : List Act) → text ≡ newer_text begun known older ++ (newer_text begun newer acts ++ behind) → text ≡ newer_text begun (newer ++ known) older ++ behind
    whole_is text behind newer e =
        e ∙ sym (append_assoc (newer_text begun known older) (newer_text begun newer acts) behind)
        ∙ ap (λ t. t ++ behind) (ap (λ l. newer_text begun known older ++ newer_text begun newer l) parts ∙ sym (newer_joined begun newer known older))

    module _ (newer : List Act) (some : newer ≡ [] → known ≡ [] → ⊥) where
      abbrev front : List ℕ
      front = newer_text begun (newer ++ known) older

      abbrev end_gone : GoneOn begun acts front newer
      end_gone = some_gone front [] newer some nothing (sym (append-nil front))

      none_on : (line : List ℕ) → GoesOnByNone first begun (newer ++ acts) line → IsOfNone first begun acts front newer end_gone line
      none_on line none act o may = elim may.place [
        | inl end ↦ λ is. none act (subst (λ l. IsHistory first (act ∷ l)) end may.history) (is ∙ ap (act_line begun act) end)
        | inr mid ↦ elim may.turn [
          | inl empty ↦ absurd (some (no_front newer known empty) (no_back newer known empty))
          | inr there ↦
              let low = ap length mid.1 in
              let sum = length-append mid.0 (act ∷ o) in
              let high = ap length (there ∙ append_assoc newer known older ∙ ap (λ l. newer ++ l) (sym parts)) in
              let more = length-append newer acts in
              absurd (omega (arith, low, sum, high, more))
        ]
      ]

      misfits_on : (line : List ℕ) (fault : NotApplied) → MisfitsThere first begun (newer ++ acts) (length known + length newer) line fault → Misfits first begun acts front newer end_gone line fault
      misfits_on line (Lacks n) m = (m.0, m.1, none_on line m.2)
      misfits_on line (Line n) m = (let sum = length-append newer known in omega (arith, m.0, sum), none_on line m.1)
      misfits_on line (Refused n why) m = (m.0, record { act = m.1.act; sound = m.1.sound; is = m.1.is; refused = m.1.refused })
      misfits_on line (Differs n) m = absurd m
      misfits_on line Input m = absurd m
      misfits_on line Store m = absurd m
      misfits_on line Foreign m = absurd m

      stops_on : (text behind : List ℕ) (fault : NotApplied) → text ≡ front ++ behind → IsOfWant fault ⊎ EndsAtLine first begun acts newer (length known) behind fault → StopsAtLine first begun acts text newer fault
      stops_on text behind fault is why = record {
        front = front;
        behind = behind;
        parts = is;
        gone = end_gone;
        whole = refl;
        why = elim why [ inl own ↦ inl (of_want fault own) | inr e ↦ inr (e.line, e.more, e.parts, e.piece, misfits_on e.line fault e.misfits) ];
      }

    -- known lines came, and then these
    module _ {S : Type 0} (g : Ghosts S) (some : known ≢ []) (head : List ℕ) (is : head ≡ newer_text begun known older) where
      text_is : (rest behind : List ℕ) (newer : List Act) → rest ≡ newer_text begun newer acts ++ behind → head ++ rest ≡ newer_text begun (newer ++ known) older ++ behind
      text_is rest behind newer e = whole_is (head ++ rest) behind newer (ap (λ t. t ++ rest) is ∙ ap (λ t. newer_text begun known older ++ t) e)

      by_result : (rest behind : List ℕ) (newer : List Act) → rest ≡ newer_text begun newer acts ++ behind → (r : Result Applied NotApplied) → IsBehindEnded first begun acts newer (length known) behind r
          → IsDone first begun acts (head ++ rest) newer r
      by_result rest behind newer e (Ok t) h =
          (some_gone (head ++ rest) behind newer (λ _ k. some k) h.0 (text_is rest behind newer e), record { done = ap (λ (a : Applied). a.done) h.1; known = ap (λ (a : Applied). a.known) h.1; beyond = ap (λ (a : Applied). a.beyond) h.1 })
      by_result rest behind newer e (Err fault) h = stops_on newer (λ _ k. some k) (head ++ rest) behind fault (text_is rest behind newer e) h

      pub done_within : (rest : List ℕ) (r : Result Applied NotApplied) (books : Connected S) → AreBehindDone g first begun acts rest (length known) r books → GoesOn g first begun acts (head ++ rest) r books
      done_within rest r books d = record { newer = d.newer; history = d.history; done = by_result rest d.behind d.newer d.is r d.ended; holds = d.holds; lasts = d.lasts }

      pub leaves_within : (rest : List ℕ) (trees : Trees) → LeavesLines first begun acts rest trees → Leaves first begun acts (head ++ rest) trees
      leaves_within rest trees l = record {
        newer = l.newer;
        history = l.history;
        front = newer_text begun (l.newer ++ known) older;
        behind = l.behind;
        parts = text_is rest l.behind l.newer l.is;
        gone = end_gone l.newer (λ _ k. some k);
        books = l.books;
      }

  -- ---- the first line is not that of an act that the books had

  module _ {S : Type 0} (g : Ghosts S) (head : List ℕ) (unlike : Unlike head) where
    first_result : (text behind : List ℕ) (newer : List Act) → text ≡ newer_text begun newer acts ++ behind → (fault : NotApplied)
        → IsOfWant fault ⊎ ((end : EndsAtLine first begun acts newer 0 behind fault) × (newer ≡ [] → end.line ≡ head)) → StopsAtLine first begun acts text newer fault
    first_result text behind [] e fault h = stops_first head text behind fault e unlike h
    first_result text behind (act ∷ newer) e fault h =
        stops_on [] acts refl (act ∷ newer) (λ n _. cc) text behind fault (whole_is [] acts refl text behind (act ∷ newer) e) (elim h [ inl own ↦ inl own | inr end ↦ inr end.0 ])

    by_first : (text : List ℕ) (books : Connected S) (r : Result ℕ NotApplied) (d : AreLinesDone g first begun acts head text 0 r books) → IsDone first begun acts text d.newer (counted 0 r)
    by_first text books (Ok all) d =
        (some_gone [] acts refl text d.behind d.newer (λ n _. d.ended.1 n) d.ended.0 (whole_is [] acts refl text d.behind d.newer d.is), record { done = omega (arith, d.ended.2); known = refl; beyond = refl })
    by_first text books (Err fault) d = first_result text d.behind d.newer d.is fault d.ended

    pub done_before : (text : List ℕ) (r : Result ℕ NotApplied) (books : Connected S) → AreLinesDone g first begun acts head text 0 r books → GoesOn g first begun acts text (counted 0 r) books
    done_before text r books d = record { newer = d.newer; history = d.history; done = by_first text books r d; holds = d.holds; lasts = counted_lasts (AreCommitted g first (d.newer ++ acts) books) 0 r d.newer d.lasts }

  leave_first : (text behind : List ℕ) (trees : Trees) (newer : List Act) → text ≡ newer_text begun newer acts ++ behind → (l : LeavesLines first begun acts text trees) → l.newer ≡ newer → Leaves first begun acts text trees
  leave_first text behind trees [] e l n = record {
    newer = [];
    history = subst (λ k. IsHistory first (k ++ acts)) n l.history;
    front = [];
    behind = text;
    parts = refl;
    gone = none_gone;
    books = subst (λ k. AreBooks first (k ++ acts) trees) n l.books;
  }
  leave_first text behind trees (act ∷ newer) e l n = record {
    newer = act ∷ newer;
    history = subst (λ k. IsHistory first (k ++ acts)) n l.history;
    front = newer_text begun ((act ∷ newer) ++ []) acts;
    behind = behind;
    parts = whole_is [] acts refl text behind (act ∷ newer) e;
    gone = end_gone [] acts refl (act ∷ newer) (λ n _. cc);
    books = subst (λ k. AreBooks first (k ++ acts) trees) n l.books;
  }

  pub leaves_before : (text : List ℕ) (trees : Trees) → LeavesLines first begun acts text trees → Leaves first begun acts text trees
  leaves_before text trees l = leave_first text l.behind trees l.newer l.is l refl

-- ---- what the loop over the lines comes to, counted

pub behind_of : {S : Type 0} (g : Ghosts S) (first begun : ℤ) (acts : List Act) (head text : List ℕ) (lines : ℕ) (r : Result ℕ NotApplied) (books : Connected S) → AreLinesDone g first begun acts head text lines r books
    → AreBehindDone g first begun acts text lines (counted lines r) books
behind_of g first begun acts head text lines (Ok all) books d =
    let count = d.ended.2 in
    let same : all - lines ≡ length d.newer = omega (arith, count) in
    let make : ℕ → Applied = λ n. record { done = n; known = lines; beyond = 0 } in
    record { newer = d.newer; history = d.history; behind = d.behind; is = d.is; ended = (d.ended.0, ap make same); holds = d.holds; lasts = λ some. d.lasts }
behind_of g first begun acts head text lines (Err fault) books d =
    record { newer = d.newer; history = d.history; behind = d.behind; is = d.is; ended = elim d.ended [ inl own ↦ inl own | inr end ↦ inr end.0 ]; holds = d.holds; lasts = tt }

-- the first line behind so many is too long
pub long_behind : {S : Type 0} (g : Ghosts S) (first begun : ℤ) (acts : List Act) (books : Connected S) (lines : ℕ) (line rest : List ℕ) (fault : NotApplied) → IsHistory first acts → HoldsBooks g first acts books
    → IsOfWant fault ⊎ ((fault ≡ Line (lines + 1)) × IsPart line × (length line ≡ 8_192)) → AreBehindDone g first begun acts (line ++ rest) lines (Err fault) books
long_behind g first begun acts books lines line rest fault history holds why = record {
  newer = [];
  history = history;
  behind = line ++ rest;
  is = refl;
  ended = elim why [
    | inl own ↦ inl own
    | inr long ↦
        inr (record {
          line = line;
          more = rest;
          parts = refl;
          piece = inr (long.1, long.2);
          misfits = subst (MisfitsThere first begun acts (lines + 0) line) (sym long.0) (omega arith, λ act own is. no_line _ (subst IsPart is long.1));
        })
  ];
  holds = holds;
  lasts = tt;
}

pub long_first : (first begun : ℤ) (acts : List Act) (line rest : List ℕ) → IsPart line → length line ≡ 8_192 → StopsAtLine first begun acts (line ++ rest) [] (Line 1)
long_first first begun acts line rest part long = record {
  front = [];
  behind = line ++ rest;
  parts = refl;
  gone = none_gone first begun acts;
  whole = refl;
  why = inr (line, rest, refl, inr (part, long), (refl, λ act older may is. no_line _ (subst IsPart is part)));
}
