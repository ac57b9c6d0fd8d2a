-- The days that items ask for: none before the item is known, none without a Least, and never too many.
use Rattle.machine.proofs.Words.{◌≡◌, ℕ, Bool, true, false, List, [], ◌∷◌, refl, ap, sym, ◌∙◌, find, if◌then◌else◌, Some, is_some, ℤ, same_text, is_gtin, is_least_days, is_sound, Key, NewItem, Command, Item, Least, Act, gathered, item_named, has_item, least_in, days_asked, least_days, IsHistory}
use Rattle.machine.proofs.Tests.{same_text_is, and_both}
use Rattle.machine.proofs.histories.Accepted.{least_accepted}

has_not : (b : Bool) → b ≡ true → b ≡ false → ⊥
has_not b e f = let g : true ≡ false = sym e ∙ f in cc

-- a command that is no Least asks for nothing more
module _ (key : Key) (before : List Act) (g : List ℕ) where
  abbrev done : Command → Act
  done c = record { key = key; command = c }

  still_unknown : (i : NewItem) → has_item (done (Item i) ∷ before) g ≡ false → has_item before g ≡ false
  still_unknown i = elim (same_text g i.gtin) as (λ b. is_some (if b then Some i else item_named before g) ≡ false → has_item before g ≡ false) [
    | true ↦ λ e. let f : true ≡ false = e in cc
    | false ↦ λ e. e
  ]

  none_asked : (first : ℤ) → (c : Command) → IsHistory first (done c ∷ before) → (has_item before g ≡ false → least_days before g ≡ 0) → has_item (done c ∷ before) g ≡ false → least_days (done c ∷ before) g ≡ 0
  none_asked first (Least l) h k e =
      elim (same_text g l.gtin) as (λ b. same_text g l.gtin ≡ b → days_asked (if b then Some l else find (λ x. same_text g x.gtin) (gathered least_in before)) ≡ 0) [
        | true ↦ λ t. absurd (has_not (has_item before g) (ap (has_item before) (same_text_is g l.gtin t) ∙ least_accepted first before l h.1.passes) e)
        | false ↦ λ t. k e
      ] refl
  none_asked first (Item i) h k e = k (still_unknown i e)
  none_asked first _ h k e = k e

-- an item that is not known asks for no days
pub unknown_item_asks_none : (first : ℤ) (acts : List Act) (g : List ℕ) → IsHistory first acts → has_item acts g ≡ false → least_days acts g ≡ 0
unknown_item_asks_none first [] g h e = refl
unknown_item_asks_none first (act ∷ before) g h e = none_asked act.key before g first act.command h (unknown_item_asks_none first before g h.0) e

-- no item asks for more than the most
still_sound : (key : Key) (before : List Act) (g : List ℕ) (c : Command) → is_least_days (least_days before g) ≡ true → is_sound c ≡ true → is_least_days (least_days (record { key = key; command = c } ∷ before) g) ≡ true
still_sound key before g (Least l) e s = elim (same_text g l.gtin) as (λ b. is_least_days (days_asked (if b then Some l else find (λ x. same_text g x.gtin) (gathered least_in before))) ≡ true) [
  | true ↦ (and_both (is_gtin l.gtin) (is_least_days l.days) s).1
  | false ↦ e
]
still_sound key before g _ e s = e

pub least_days_sound : (first : ℤ) (acts : List Act) (g : List ℕ) → IsHistory first acts → is_least_days (least_days acts g) ≡ true
least_days_sound first [] g h = refl
least_days_sound first (act ∷ before) g h = still_sound act.key before g act.command (least_days_sound first before g h.0) h.1.sound.command
