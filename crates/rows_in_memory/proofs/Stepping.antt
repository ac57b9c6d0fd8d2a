-- What came and what went, row by row.
use Rattle.rows_in_memory.proofs.Words.{◌≡◌, ℕ, Bool, true, false, not, ◌&&◌, List, [], ◌∷◌, refl, ap, sym, ◌∙◌, ◌||◌, list_any, same_text, Entries, holds, Gains, Loses, Keeps, same_text_is}
use Rattle.rows_in_memory.proofs.Truths.{or_grouped, or_first, and_false}

module _ {X : Type 0} (test : X → List ℕ → List ℕ → Bool) where
  abbrev any : List X → List ℕ → List ℕ → Bool
  any xs g o = list_any (λ x. test x g o) xs

  -- with those that are left to come it will be what all of them make of what was before
  abbrev pub Gaining : List X → List X → Entries → Entries → Type 0
  Gaining all rest old mid = (g o : List ℕ) → holds mid g o || any rest g o ≡ holds old g o || any all g o

  abbrev pub Losing : List X → List X → Entries → Entries → Type 0
  Losing all rest old mid = (g o : List ℕ) → holds mid g o && not (any rest g o) ≡ holds old g o && not (any all g o)

  pub gaining_more : (all left rest : List X) (x : X) (old mid new : Entries) → left ≡ x ∷ rest → Gains (test x) mid new → Gaining all left old mid → Gaining all rest old new
  gaining_more all left rest x old mid new is came so_far g o =
      ap (λ b. b || any rest g o) (came g o) ∙ or_grouped (holds mid g o) (test x g o) (any rest g o) ∙ ap (λ (l : List X). holds mid g o || any l g o) (sym is) ∙ so_far g o

  pub lost : (all : List X) (old new : Entries) → Losing all [] old new → Loses (any all) old new
  lost all old new so_far g o = sym (every (holds new g o)) ∙ so_far g o
    where
      every : (a : Bool) → a && true ≡ a
      every true = refl
      every false = refl

-- what stood stands

pub keeps_gained : (came : List ℕ → List ℕ → Bool) (old mid new : Entries) → Gains came mid new → Keeps old mid → Keeps old new
keeps_gained came old mid new gains keeps g o h = gains g o ∙ or_first (holds mid g o) (came g o) (keeps g o h)

-- a part that each test has in common

pub any_and_first : {X : Type 0} (b : Bool) (p : X → Bool) (xs : List X) → list_any (λ x. b && p x) xs ≡ b && list_any p xs
any_and_first true p xs = refl
any_and_first false p [] = refl
any_and_first false p (x ∷ xs) = any_and_first false p xs

pub any_and_last : {X : Type 0} (b : Bool) (p : X → Bool) (xs : List X) → list_any (λ x. p x && b) xs ≡ list_any p xs && b
any_and_last b p [] = refl
any_and_last b p (x ∷ xs) = ap (λ c. (p x && b) || c) (any_and_last b p xs) ∙ joined (p x) (list_any p xs) b
  where
    joined : (a c d : Bool) → (a && d) || (c && d) ≡ (a || c) && d
    joined true c true = refl
    joined true c false = and_false c
    joined false c d = refl

-- a line of another order

pub other_line : (order owner item : List ℕ) (g o : List ℕ) → same_text order owner ≡ false → same_text o order && (same_text o owner && same_text g item) ≡ false
other_line order owner item g o e =
    elim (same_text o order) as (λ b. same_text o order ≡ b → b && (same_text o owner && same_text g item) ≡ false) [
      | true ↦ λ is. ap (λ b. b && same_text g item) (ap (λ (x : List ℕ). same_text x owner) (same_text_is o order is) ∙ e)
      | false ↦ λ is. refl
    ] refl

pub own_line : (order owner item : List ℕ) (g o : List ℕ) → same_text order owner ≡ true → same_text o order && (same_text o owner && same_text g item) ≡ same_text o order && same_text g item
own_line order owner item g o e =
    elim (same_text o order) as (λ b. same_text o order ≡ b → b && (same_text o owner && same_text g item) ≡ b && same_text g item) [
      | true ↦ λ is. ap (λ b. b && same_text g item) (ap (λ (x : List ℕ). same_text x owner) (same_text_is o order is) ∙ e)
      | false ↦ λ is. refl
    ] refl

-- nothing went
pub none_lost : (went : List ℕ → List ℕ → Bool) (old new : Entries) → new ≡ old → ((g o : List ℕ) → went g o ≡ false) → Loses went old new
none_lost went old new is none g o = ap (λ e. holds e g o) is ∙ sym (ap (λ b. holds old g o && not b) (none g o) ∙ every (holds old g o))
  where
    every : (a : Bool) → a && true ≡ a
    every true = refl
    every false = refl

pub loses_as : (p q : List ℕ → List ℕ → Bool) (old new : Entries) → ((g o : List ℕ) → q g o ≡ p g o) → Loses p old new → Loses q old new
loses_as p q old new same loses g o = loses g o ∙ ap (λ b. holds old g o && not b) (sym (same g o))
