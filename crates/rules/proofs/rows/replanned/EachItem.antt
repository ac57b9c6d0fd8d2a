-- An act that plans and touches several items: rows that tell the demands and supplies of each after the act tell which reserved rows differ.
use Rattle.rules.proofs.Words.{◌≡◌, ℕ, true, false, List, [], ◌∷◌, ap, sym, ◌∙◌, ◌||◌, ℤ, flat_map, list_any, same_text, LotId, ReservedRow, Act, of_item, least_expiry, reserved, IsHistory, tables_of, is_touched, no_two, IsSlice, plans, earliest_seen, is_share_of, Slice, or_later, same_text_refl, Each, Rows, replanned_to}
use Rattle.rules.proofs.rows.TableSteps.{IsNamed, AreNamed}
use Rattle.rules.proofs.rows.ItemsNamed.{AllOf, items_named, items_once}
use Rattle.rules.proofs.rows.DemandsTold.{TellsDemands}
use Rattle.rules.proofs.rows.SuppliesTold.{TellsSupplies}
use Rattle.rules.proofs.rows.replanned.Changed.{own_named, none_named, all_put_of, puts_once}

module _ {X : Type 0} (item : X → List ℕ) (first : ℤ) (acts : List Act) (act : Act) (s : Slice) (slice : IsSlice first act acts (tables_of first acts) s) (planned : plans act.command ≡ true) (next : IsHistory first (act ∷ acts))
    (all : List X) (apart : no_two (λ x y. same_text (item x) (item y)) all ≡ true) (touched_are : (g : List ℕ) → list_any (λ x. same_text g (item x)) all ≡ is_touched first act acts g)
    (day : ℤ) (rows : Rows) (from : (g : List ℕ) → is_touched first act acts g ≡ true → earliest_seen day rows.least g ≡ least_expiry first (act ∷ acts) g)
    (demands : (g : List ℕ) → is_touched first act acts g ≡ true → TellsDemands first (act ∷ acts) g rows) (supplies : (g : List ℕ) → is_touched first act acts g ≡ true → TellsSupplies first (act ∷ acts) g rows) where
  abbrev after : List Act
  after = act ∷ acts

  abbrev puts_of : List ℕ → List ReservedRow
  puts_of g = (replanned_to s day rows g).put

  abbrev drops_of : List ℕ → List ReservedRow
  drops_of g = (replanned_to s day rows g).dropped

  abbrev pub puts : List X → List ReservedRow
  puts xs = flat_map (λ x. puts_of (item x)) xs

  abbrev pub drops : List X → List ReservedRow
  drops xs = flat_map (λ x. drops_of (item x)) xs

  module _ (g : List ℕ) (touched : is_touched first act acts g ≡ true) where
    own_of : (q : List ℕ) (l : LotId) → of_item g l ≡ true → IsNamed q l (reserved first acts q l) (reserved first after q l) (puts_of g) (drops_of g)
    own_of = own_named first acts act s slice planned next g touched day rows (from g touched) (demands g touched) (supplies g touched)

    none_of : (q : List ℕ) (l : LotId) → of_item g l ≡ false → IsNamed q l 0 0 (puts_of g) (drops_of g)
    none_of = none_named first acts act s slice planned next g touched day rows (from g touched) (demands g touched) (supplies g touched)

    all_of : AllOf g (puts_of g)
    all_of = all_put_of first acts act s slice planned next g touched day rows (from g touched) (demands g touched) (supplies g touched)

    once_of : no_two is_share_of (puts_of g) ≡ true
    once_of = puts_once first acts act s slice planned next g touched day rows (from g touched) (demands g touched) (supplies g touched)

  abbrev IsTouched : X → Type 0
  IsTouched x = is_touched first act acts (item x) ≡ true

  all_touched : (xs : List X) → ((g : List ℕ) → list_any (λ x. same_text g (item x)) xs ≡ true → is_touched first act acts g ≡ true) → Each IsTouched xs
  all_touched [] h = tt
  all_touched (x ∷ xs) h = (h (item x) (ap (λ b. b || list_any (λ y. same_text (item x) (item y)) xs) (same_text_refl (item x))), all_touched xs (λ g e. h g (or_later (same_text g (item x)) _ e)))

  are_touched : Each IsTouched all
  are_touched = all_touched all (λ g e. sym (touched_are g) ∙ e)

  -- each reservation is named where it changes
  pub items_replanned : AreNamed first act acts (puts all) (drops all)
  items_replanned =
      items_named item first acts act IsTouched (λ x. puts_of (item x)) (λ x. drops_of (item x)) (λ x t. own_of (item x) t) (λ x t. none_of (item x) t) all are_touched apart touched_are next

  -- no row is put twice
  pub items_put_once : no_two is_share_of (puts all) ≡ true
  items_put_once =
      items_once item first acts act IsTouched (λ x. puts_of (item x)) (λ x. drops_of (item x)) (λ x t. own_of (item x) t) (λ x t. none_of (item x) t)
      (λ x t. all_of (item x) t) (λ x t. once_of (item x) t) all are_touched apart
