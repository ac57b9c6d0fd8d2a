-- What taking in lines of a history comes to.
use Rattle.line_work.proofs.Words.{◌≡◌, ◌⊎◌, ◌++◌, ℕ, List, [], Ok, Err, Result, Option, Some, None, refl, ap, subst, ◌∙◌, inl, inr, ℤ, IfSome, IfErr, reader_remaining, reader_capacity, reader_buffer, reader_inner, BufReader, prepend_known, StoreGhosts as Ghosts, Trees, state, Survives, Act, IsHistory, Connected, AreBooks, HoldsBooks, IsClean, LeavesOnly, MayLeave, OfText, IsOfRows, IsApplied, LeavesOneOf, Applied, NotApplied, Fault, fault_of, told_of, IsEndTold, Went, IsUnread, IsTakenIn, IsTextApplied, IsFileApplied, KeepsMore}
use Rattle.applies.specs.Taken.{IsTaken}
use Rattle.command_line.specs.declared.fault.Fault.TheVariants.{Store}

-- a reader that has read nothing has what its inner one has
behind_none : (x : Option (List ℕ)) → prepend_known [] x ≡ x
behind_none None = refl
behind_none (Some text) = refl

pub unread : {T A : Type 0} (remaining : T → Option (List ℕ)) (r : BufReader T A) (inner : T) → reader_capacity r ≡ 8192 → reader_buffer r ≡ [] → reader_inner r ≡ inner
    → reader_remaining remaining r ≡ remaining inner
unread remaining r inner capacity empty is = rw capacity (rw empty (behind_none (remaining (reader_inner r)) ∙ ap remaining is))

-- the bytes of a file that was named, where these are known
of_named : (known from : Option (List ℕ)) (Is : List ℕ → Type 0) → IfSome known (λ t. from ≡ Some t) → OfText from Is → OfText known Is
of_named None from Is has h = (h.0, tt, h.2)
of_named (Some t) from Is has h = subst (λ f. OfText f Is) has h

if_named : (known from : Option (List ℕ)) (Is : List ℕ → Type 0) → IfSome known (λ t. from ≡ Some t) → IfSome from Is → IfSome known Is
if_named None from Is has h = tt
if_named (Some t) from Is has h = subst (λ f. IfSome f Is) has h

module _ {S : Type 0} (g : Ghosts S) (first : ℤ) (acts : List Act) where
  went_too : (known from : Option (List ℕ)) (end : Result Applied NotApplied) (books : Connected S) → IfSome known (λ t. from ≡ Some t) → Went g first acts from end books → Went g first acts known end books
  went_too known from end books has w = record {
    applied = of_named known from (λ text. IsApplied g first acts text end books) has w.applied;
    every = if_named known from (λ text. IsTaken g first acts text end books) has w.every;
    foreign = w.foreign;
    leaves = λ trees left. left_too trees (w.leaves trees left);
  }
    where
      left_too : (trees : Trees) → AreBooks first acts trees ⊎ OfText from (λ text. LeavesOneOf first acts text trees) → AreBooks first acts trees ⊎ OfText known (λ text. LeavesOneOf first acts text trees)
      left_too trees (inl same) = inl same
      left_too trees (inr one) = inr (of_named known from (λ text. LeavesOneOf first acts text trees) has one)

  pub named : (known from : Option (List ℕ)) (end : Result Unit Fault) (books : Connected S) (old new : Option (List ℕ)) → IfSome known (λ t. from ≡ Some t)
      → IsTextApplied g first acts from end books old new → IsFileApplied g first acts known end books old new
  named known from end books old new has (inl h) = inl (inl (h.0, went_too known from h.0 books has h.1, h.2))
  named known from end books old new has (inr h) = inl (inr h)

  -- the lines of a reader that has read nothing
  pub went_on : (read from : Option (List ℕ)) (was books : Connected S) (end : Result Applied NotApplied) → read ≡ from → IsClean g books → IsHistory first acts → HoldsBooks g first acts was
      → LeavesOnly first acts (state g was.conn) → OfText read (λ text. IsApplied g first acts text end books)
      → IfSome read (λ text. IsTaken g first acts text end books)
      → IfErr end (IsOfRows g books)
      → Survives (state g was.conn) (state g books.conn) (λ trees. (f : ℤ) (a : List Act) → IsHistory f a → HoldsBooks g f a was → OfText read (λ text. LeavesOneOf f a text trees)) → Went g first acts from end books
  went_on read from was books end same clean history holds only applied every foreign survives =
      subst (λ r. Went g first acts r end books) same (record { applied = applied; every = every; foreign = foreign; leaves = λ trees left. by trees (survives.crash clean trees left) })
    where
      by : (trees : Trees) → MayLeave g was trees ⊎ ((f : ℤ) (a : List Act) → IsHistory f a → HoldsBooks g f a was → OfText read (λ text. LeavesOneOf f a text trees))
          → AreBooks first acts trees ⊎ OfText read (λ text. LeavesOneOf first acts text trees)
      by trees (inl left) = inl (only trees left)
      by trees (inr one) = inr (one first acts history holds)

  -- a fault is told, and nothing was printed
  pub fault_told : (from : Option (List ℕ)) (fault : Fault) (books : Connected S) (out : Option (List ℕ)) → IsTakenIn g first acts from (Err fault) books → IsTextApplied g first acts from (Err fault) books out out
  fault_told from fault books out (inl h) = by h.0 h.1 h.2
    where
      by : (end : Result Applied NotApplied) → Went g first acts from end books → Err fault ≡ told_of end → IsTextApplied g first acts from (Err fault) books out out
      by (Ok told) went is = absurd (let it = is in cc)
      by (Err why) went is = inl (Err why, went, (let same : fault ≡ fault_of why = cc in ap Err same, refl))
  fault_told from fault books out (inr h) = let same : fault ≡ Store = cc in inr (ap Err same, refl, h.1)

  -- what was printed of lines that were all taken in
  pub tally_told : (from : Option (List ℕ)) (told : Applied) (books : Connected S) (end : Result Unit Fault) (old new : Option (List ℕ)) → IsTakenIn g first acts from (Ok told) books → IsEndTold (Ok told) old new end
      → IsTextApplied g first acts from end books old new
  tally_told from told books end old new (inl h) printed = by h.0 h.1 h.2
    where
      by : (went : Result Applied NotApplied) → Went g first acts from went books → Ok told ≡ told_of went → IsTextApplied g first acts from end books old new
      by (Ok t) went is = inl (Ok t, went, (let same : told ≡ t = cc in subst (λ x. IsEndTold (Ok x) old new end) same printed))
      by (Err why) went is = absurd (let it = is in cc)
  tally_told from told books end old new (inr h) printed = absurd (let it = h.0 in cc)

  -- the books are those of the acts and of newer ones
  pub keeps_more : (from : Option (List ℕ)) (old new : Option (List ℕ)) (end : Result Unit Fault) (books : Connected S) → IsHistory first acts → IsFileApplied g first acts from end books old new
      → KeepsMore g first acts books.conn
  keeps_more from old new end books history h = elim h [
    | inl (inl w) ↦ went w.0 w.1
    | inl (inr n) ↦ none n.2
    | inr n ↦ none n.2
  ]
    where
      none : IsUnread g first acts books → KeepsMore g first acts books.conn
      none u = record { newer = []; history = history; keeps = u.holds.keeps; leaves = λ trees left. ([], history, u.leaves trees left) }

      some : (trees : Trees) → AreBooks first acts trees ⊎ OfText from (λ text. LeavesOneOf first acts text trees) → (later : List Act) × IsHistory first (later ++ acts) × AreBooks first (later ++ acts) trees
      some trees (inl same) = ([], history, same)
      some trees (inr one) = let it = (one.2).2 in (it.newer, it.history, it.books)

      went : (e : Result Applied NotApplied) → Went g first acts from e books → KeepsMore g first acts books.conn
      went e w =
          let it = ((w.applied).2).2 in
          record { newer = it.newer; history = it.history; keeps = it.holds.keeps; leaves = λ trees left. some trees (w.leaves trees left) }
