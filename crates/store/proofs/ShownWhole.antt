-- A look at the books within a transaction, which is then rolled back.
use Rattle.store.proofs.Words.{◌≡◌, true, List, Ok, Err, Result, IsTrue, sym, ap, subst, arith, ℤ, Option, Some, None, Refusal, State, HasCleanDisk, KeepsCommit, IsRolledBack, Survives, IsReady, kept_undone, kept_then, inside_then, Act, IsHistory, IsBooksOf, KeepsBooks, whole, IsShownAs, IsShownOn, told_whole, Fault, Refused, Store, Foreign}
use Rattle.store.proofs.ActsWhole.{KeepsInside, books_begun, begun_commit, undone_whole}
use Rattle.store.proofs.HandedOn.{Stays, settled_back}

-- what is promised of a look on every history of which P holds
abbrev pub ShownWhole : {V : Type 0} → (ℤ → List Act → Type 0) → (ℤ → List Act → Result V Refusal) → Result V Fault → State → State → Type 0
ShownWhole P shown r old new =
    HasCleanDisk new → (first : ℤ) (acts : List Act) → IsHistory first acts → KeepsBooks first acts old → P first acts → IsShownOn first acts (shown first acts) r new

-- a stop in it leaves what was there before
pub look_survives : (old begun last new : State) → begun ≡ record old { in_transaction = true } → Survives begun last (λ _. ⊥) → Survives last new (λ _. ⊥) → Survives old new (λ _. ⊥)
look_survives old begun last new is before ends =
    let first = rw is at before in
    let one : Survives old last (λ _. ⊥) = record { clean = first.clean; shield = first.shield; counts = first.counts; limit = first.limit; closes = first.closes; crash = first.crash } in
    inside_then old last new one ends

module _ (old begun last new : State) (is : begun ≡ record old { in_transaction = true }) (keeps : KeepsInside begun last)
    (ends : Survives last new (λ _. ⊥)) (undone : HasCleanDisk new → IsRolledBack last new) where
  left : HasCleanDisk new → (first : ℤ) (acts : List Act) → KeepsBooks first acts old → KeepsBooks first acts new
  left clean first acts held =
      let was : HasCleanDisk last = omega (arith, clean, ends.clean) in
      let kept : KeepsCommit begun last = keeps was (λ up. (books_begun first acts old begun is held up).ready) in
      undone_whole first acts old begun is held last new kept (undone clean)

  -- nothing is committed, on tables of whatever origin
  pub look_stays : Stays old new
  look_stays clean at =
      let was : HasCleanDisk last = omega (arith, clean, ends.clean) in
      let kept : KeepsCommit old last = kept_then old begun last (begun_commit old begun is) (keeps was (λ up. subst IsReady (sym (ap (λ (s : State). s.now) is)) (at.ready (subst (λ b. IsTrue b) (ap (λ (s : State). s.is_open) is) up)))) in
      (kept_then old last new kept (kept_undone last new (undone clean)), settled_back old last new at kept (undone clean))

  module _ {X V : Type 0} (P : ℤ → List Act → Type 0) (shown : ℤ → List Act → Result V Refusal) (IsRead : ℤ → List Act → X → Type 0) where
    -- what was read is shown
    pub found_shown : (found : X) (r : Result V Fault)
        → (HasCleanDisk last → (first : ℤ) (acts : List Act) → IsHistory first acts → (IsTrue begun.is_open → IsBooksOf first acts begun.now) → IsRead first acts found)
        → ((first : ℤ) (acts : List Act) → IsHistory first acts → P first acts → IsRead first acts found → IsShownAs (shown first acts) r) → ShownWhole P shown r old new
    found_shown found r read view clean first acts history held p =
        let was : HasCleanDisk last = omega (arith, clean, ends.clean) in
        (view first acts history p (read was first acts history (books_begun first acts old begun is held)), left clean first acts held)

-- a view that is shown whole
pub whole_shown : {V : Type 0} (shown : Result V Refusal) (r : Result (Option V) Fault) → IsShownAs (whole shown) r → IsShownAs shown (told_whole r)
whole_shown {V} (Ok v) (Ok (Some view)) is = let same : v ≡ view = cc in ap (λ x. let r : Result V Refusal = Ok x in r) same
whole_shown (Ok v) (Ok None) is = absurd (let it = is in cc)
whole_shown (Ok v) (Err (Refused why)) is = absurd (let it = is in cc)
whole_shown (Ok v) (Err Store) is = tt
whole_shown (Ok v) (Err Foreign) is = is
whole_shown (Err w) (Ok (Some view)) is = absurd (let it = is in cc)
whole_shown (Err w) (Ok None) is = absurd (let it = is in cc)
whole_shown {V} (Err w) (Err (Refused why)) is = let same : w ≡ why = cc in ap (λ x. let r : Result V Refusal = Err x in r) same
whole_shown (Err w) (Err Store) is = tt
whole_shown (Err w) (Err Foreign) is = is
