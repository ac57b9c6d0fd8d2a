-- The file of the acts that a line names. `Holds` says what is known of its bytes.
use Rattle.std.proofs.Common.{◌≡◌, ◌∙◌, true, false, Bool, ap, sym, subst, Option, Some, None, List, ℕ, [], ◌∷◌, cond, inl, inr}
use Rattle.std.specs.Prelude.{is_some}
use Rattle.sqlite_disk.specs.History.{MayLeave}
use Rattle.sqlite_disk.specs.Events.{Event, replay, settled}

module _ {A : Type 0} (Holds : A → Type 0) where
  abbrev holds_if : Option A → Type 0
  holds_if (Some file) = Holds file
  holds_if None = Unit {0}

  same_file : (file other : A) → Holds file → Some file ≡ Some other → Holds other
  same_file file other is same = subst holds_if same is

  pub found_beside : (named : Bool) (found : Option A) → named ≡ true → (file : A) × (found ≡ Some file) × Holds file → (is_some found ≡ named) × ((file : A) → found ≡ Some file → Holds file)
  found_beside named found is there = (ap is_some there.1 ∙ sym is, λ file one. same_file there.0 file there.2 (sym there.1 ∙ one))

  pub found_none : (named : Bool) (found : Option A) → found ≡ None → named ≡ false → (is_some found ≡ named) × ((file : A) → found ≡ Some file → Holds file)
  found_none named found none is = (ap is_some none ∙ sym is, λ file one. absurd (let no = sym none ∙ one in cc))

-- of a file that was settled, and nothing more, a stop leaves what it held
abbrev Left : Bool → List ℕ → List Event → List ℕ → Type 0
Left mixes start history c = let m = replay start history in MayLeave mixes m.seen m.synced m.steps c

pub only_held : (mixes : Bool) (log db : List ℕ) (is_log : Bool) (key : ℕ) (history : List Event) → is_log ≡ false → history ≡ settled key ∷ [] → (c : List ℕ) → Left mixes (cond is_log log db) history c → c ≡ db
only_held mixes log db is_log key history second fresh c may =
    elim (subst (λ start. Left mixes start (settled key ∷ []) c) (ap (λ b. cond b log db) second) (subst (λ h. Left mixes (cond is_log log db) h c) fresh may)) [ inl same ↦ same | inr same ↦ same ]
