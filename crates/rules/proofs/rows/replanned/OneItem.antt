-- An act that plans and touches one item: rows that tell its demands and supplies after the act tell which reserved rows differ.
use Rattle.rules.proofs.Words.{◌≡◌, ℕ, true, false, List, ◌∷◌, refl, ◌∙◌, ℤ, same_text, ReservedRow, Act, of_item, least_expiry, reserved, IsHistory, tables_of, is_touched, no_two, IsSlice, plans, earliest_seen, is_share_of, Slice, same_text_refl, other_items_are_left_alone, Rows, replanned_to}
use Rattle.rules.proofs.rows.TableSteps.{AreNamed, IsNamed, nothing_named}
use Rattle.rules.proofs.rows.DemandsTold.{TellsDemands}
use Rattle.rules.proofs.rows.SuppliesTold.{TellsSupplies}
use Rattle.rules.proofs.rows.replanned.Changed.{own_named, none_named, puts_once}

module _ (first : ℤ) (acts : List Act) (act : Act) (s : Slice) (slice : IsSlice first act acts (tables_of first acts) s) (planned : plans act.command ≡ true) (next : IsHistory first (act ∷ acts)) (g : List ℕ) where
  -- the act touches this item and no other
  pub record TouchesOnly : Type 0 where
    pub own : is_touched first act acts g ≡ true
    pub others : (h : List ℕ) → same_text g h ≡ false → is_touched first act acts h ≡ false

  module _ (only : TouchesOnly) (day : ℤ) (rows : Rows) (from : earliest_seen day rows.least g ≡ least_expiry first (act ∷ acts) g)
      (demands : TellsDemands first (act ∷ acts) g rows) (supplies : TellsSupplies first (act ∷ acts) g rows) where
    abbrev after : List Act
    after = act ∷ acts

    abbrev puts : List ReservedRow
    puts = (replanned_to s day rows g).put

    abbrev drops : List ReservedRow
    drops = (replanned_to s day rows g).dropped

    -- the rows put and dropped are those that differ
    pub replanned : AreNamed first act acts puts drops
    replanned o l = elim (of_item g l) as (λ b. of_item g l ≡ b → IsNamed o l (reserved first acts o l) (reserved first after o l) puts drops) [
      | true ↦ λ e. own_named first acts act s slice planned next g only.own day rows from demands supplies o l e
      | false ↦ λ e.
          let none = none_named first acts act s slice planned next g only.own day rows from demands supplies o l e in
          let same = nothing_named o l (reserved first acts o l) (reserved first after o l) ((other_items_are_left_alone first act acts l.gtin next (only.others l.gtin e)).reserved o l (same_text_refl l.gtin)) in
          record { put = none.put ∙ same.put; dropped = none.dropped ∙ same.dropped }
    ] refl

    -- no row is put twice
    pub replanned_once : no_two is_share_of puts ≡ true
    replanned_once = puts_once first acts act s slice planned next g only.own day rows from demands supplies
