-- An act by which one lot stops being shippable: what was staged of it is in the bin RETURNS then, and all else is where it was.
use Rattle.machine.proofs.Words.{◌≡◌, ℕ, ◌+◌, ◌≤◌, Bool, true, false, ◌&&◌, not, List, ◌∷◌, ◌++◌, refl, ap, sym, subst, ◌∙◌, arith, eq-eqb, ◌==◌, if◌then◌else◌, find, flat_map, option_map, ℤ, list_any, list_all, same_text, LotId, total, Open, Done, Cancelled, CardRow, Act, gathered, next_number, Place, InBin, Stage, Posting, balance, is_bin, is_lot, is_stage, is_shipped_to, is_shipment, of_item, KnownLot, Placed, RETURNS, bins, lots, is_shippable, orders, lines_placed, has_line, cancel_in, returned, made_unshippable, postings, postings_of, in_bin, staged_of_lot, shipped_of, is_open, is_open_state, cards, card_lines, units_returned, IsHistory, if_any, order_row, line_row, shipline_row, card_row, same_cell}
use Rattle.machine.proofs.Tests.{is_zero, is_lot_is, is_lot_refl, is_lot_turned, same_text_refl}
use Rattle.machine.proofs.histories.Cells.{Cells, IsPart, Inner, Legal, without, into, out_of, into-append, out_of-append, holds, holds_split, never_overdrawn}
use Rattle.machine.proofs.histories.ItemBalances.{balance-of_item}
use Rattle.machine.proofs.histories.LegalHistories.{legal_history}
use Rattle.machine.proofs.histories.Lots.{found_lot}
use Rattle.machine.proofs.histories.Staging.{IsStaging, none_returned}
use Rattle.machine.proofs.histories.StagedLots.{staged_lots_are_shippable}
use Rattle.machine.proofs.histories.ReturnedUnits.{returned_kept, units_taken, returned_has_no_line}
use Rattle.machine.proofs.histories.RowSums.{cell_at, holds_nothing}
use Rattle.machine.proofs.histories.PlaceRows.{stage_cells, and_turned}

own_gone : (a : Bool) → a && not a ≡ false
own_gone true = refl
own_gone false = refl

and_true : (a : Bool) → a && true ≡ a
and_true true = refl
and_true false = refl

and_false : (a b : Bool) → b ≡ false → a && b ≡ false
and_false true b e = e
and_false false b e = refl

-- all stages of the lot
abbrev pub stages_of : LotId → Cells
stages_of l = stage_cells (λ m o. is_lot l m)

-- and the bin RETURNS with them
abbrev pub is_returns_or_stage : Place → Bool
is_returns_or_stage (InBin b) = same_text RETURNS b
is_returns_or_stage (Stage o) = true
is_returns_or_stage _ = false

module _ (l : LotId) where
  abbrev pub both : Cells
  both p m = is_returns_or_stage p && is_lot l m

  pub inner_stages : Inner (stages_of l)
  inner_stages = record { supplier = λ m. refl; write_off = λ m. refl }

  inner_both : Inner both
  inner_both = record { supplier = λ m. refl; write_off = λ m. refl }

  stages_inside : IsPart (stages_of l) both
  stages_inside (Stage o) m e = e
  stages_inside (InBin b) m e = let f : false ≡ true = e in cc
  stages_inside _ m e = e

  rest_is : (p : Place) (m : LotId) → without both (stages_of l) p m ≡ (is_bin RETURNS p && is_lot l m)
  rest_is (InBin b) m = and_true (same_text RETURNS b && is_lot l m)
  rest_is (Stage o) m = own_gone (is_lot l m)
  rest_is _ m = refl

  pub both_hold : (qs : List Posting) → Legal qs → holds both qs ≡ holds (stages_of l) qs + balance (is_bin RETURNS) (is_lot l) qs
  both_hold qs legal = holds_split qs legal (stages_of l) both inner_stages inner_both stages_inside ∙ (λ i. holds (stages_of l) qs + holds (λ p m. rest_is p m i) qs)

module _ (first : ℤ) (acts : List Act) (act : Act) (l : LotId) where
  -- the act makes this lot unshippable, and no other; and it makes no order or bin, and cancels none
  pub record MakesUnshippable : Type 0 where
    pub posts : postings_of first act acts ≡ returned (next_number acts) (made_unshippable first act acts) (orders acts) (postings first acts)
    pub itself : (k : KnownLot) → is_lot l k.lot ≡ true → is_shippable first (act ∷ acts) k ≡ false
    pub others : (k : KnownLot) → is_lot l k.lot ≡ false → is_shippable first (act ∷ acts) k ≡ is_shippable first acts k
    pub same_orders : orders acts ≡ orders (act ∷ acts)
    pub same_cancels : gathered cancel_in acts ≡ gathered cancel_in (act ∷ acts)
    pub same_bins : bins acts ≡ bins (act ∷ acts)

  module _ (makes : MakesUnshippable) (next : IsHistory first (act ∷ acts)) where
    abbrev after : List Act
    after = act ∷ acts

    abbrev n : ℕ
    n = next_number acts

    abbrev ps : List Posting
    ps = postings first acts

    abbrev gone : KnownLot → Bool
    gone k = is_shippable first acts k && not (is_shippable first after k)

    only_this : (k : KnownLot) → gone k ≡ true → k.lot ≡ l
    only_this k e = elim (is_lot l k.lot) as (λ b. is_lot l k.lot ≡ b → k.lot ≡ l) [
      | true ↦ λ t. sym (is_lot_is l k.lot t)
      | false ↦ λ t. let f : false ≡ true = sym (own_gone (is_shippable first acts k)) ∙ ap (λ b. is_shippable first acts k && not b) (sym (makes.others k t)) ∙ e in cc
    ] refl

    -- a set of cells that has all stages of the lot, if it has RETURNS, and else none, holds what it held
    pub kept : (w : Cells) → ((o : List ℕ) → w (InBin RETURNS) l ≡ w (Stage o) l) → holds w (postings first after) ≡ holds w (postings first acts)
    kept w e =
        ap (λ qs. holds w (qs ++ ps)) makes.posts
        ∙ returned_kept n (orders acts) ps w gone (lots acts) (λ k t o. ap (w (InBin RETURNS)) (only_this k t) ∙ e o ∙ sym (ap (w (Stage o)) (only_this k t)))

    -- Stages

    pub unstaged : (o : List ℕ) → staged_of_lot first after o l ≡ 0
    unstaged o = elim (staged_of_lot first after o l == 0) as (λ b. (staged_of_lot first after o l == 0) ≡ b → staged_of_lot first after o l ≡ 0) [
      | true ↦ λ e. is_zero _ e
      | false ↦ λ e.
          let h = staged_lots_are_shippable first after o l next (λ z. let f : true ≡ false = sym (eq-eqb _ 0 z) ∙ e in cc) in
          let own : is_lot l h.0.lot ≡ true = ap (is_lot l) (sym (found_lot l (lots after) h.0 h.1)) ∙ is_lot_refl l in
          let f : false ≡ true = sym (makes.itself h.0 own) ∙ h.2 in
          cc
    ] refl

    pub staged_still : (o : List ℕ) (m : LotId) → is_lot l m ≡ false → staged_of_lot first after o m ≡ staged_of_lot first acts o m
    staged_still o m e = kept (λ p k. is_stage o p && is_lot m k) (λ u. sym (and_false (same_text o u) (is_lot m l) (is_lot_turned m l ∙ e)))

    stages_empty : holds (stages_of l) (postings first after) ≡ 0
    stages_empty = holds_nothing (postings first after) (legal_history first after next) (stages_of l) (inner_stages l) (λ s o m. refl) empty
      where
        empty : (p : Place) (m : LotId) → stages_of l p m ≡ true → holds (cell_at p m) (postings first after) ≡ 0
        empty (Stage o) m e = ap (λ (x : LotId). staged_of_lot first after o x) (sym (is_lot_is l m e)) ∙ unstaged o
        empty _ m e = let f : false ≡ true = e in cc

    -- Bins

    pub in_bin_still : (c : List ℕ) (m : LotId) → same_cell (m, c) (l, RETURNS) ≡ false → in_bin first after c m ≡ in_bin first acts c m
    in_bin_still c m e = kept (λ p k. is_bin c p && is_lot m k) (λ u. and_turned (same_text c RETURNS) (is_lot m l) ∙ e)

    pub in_returns : in_bin first after RETURNS l ≡ in_bin first acts RETURNS l + holds (stages_of l) (postings first acts)
    in_returns =
        let same = kept (both l) (λ o. ap (λ b. b && is_lot l l) (same_text_refl RETURNS)) in
        omega (arith, same, both_hold l (postings first after) (legal_history first after next), both_hold l ps (legal_history first acts next.0), stages_empty)

    -- the reply tells what was staged
    pub all_returned : units_returned first act acts ≡ holds (stages_of l) (postings first acts)
    all_returned =
        let qs = returned n (made_unshippable first act acts) (orders acts) ps in
        let taken : total (λ (p : Posting). p.qty) qs ≡ out_of (stages_of l) qs =
        units_taken n (orders acts) ps (stages_of l) gone (λ k t o. ap (is_lot l) (only_this k t) ∙ is_lot_refl l) (lots acts) in
        let none = none_returned (stages_of l) staging n ps (orders acts) (made_unshippable first act acts) in
        let low : out_of (stages_of l) (qs ++ ps) ≤ into (stages_of l) (qs ++ ps) = low_after in
        let empty : holds (stages_of l) (qs ++ ps) ≡ 0 = ap (λ xs. holds (stages_of l) (xs ++ ps)) (sym makes.posts) ∙ stages_empty in
        ap (total (λ (p : Posting). p.qty)) makes.posts ∙ omega (arith, taken, none, low, empty, into-append (stages_of l) qs ps, out_of-append (stages_of l) qs ps)
      where
        staging : IsStaging (stages_of l)
        staging = record { bins = λ b m. refl; write_off = λ m. refl; shipped = λ s o m e. never (stages_of l (Stage o) m) e }
          where
            never : (b : Bool) → false ≡ true → b ≡ true
            never b e = cc

        low_after : out_of (stages_of l) (returned n (made_unshippable first act acts) (orders acts) ps ++ ps) ≤ into (stages_of l) (returned n (made_unshippable first act acts) (orders acts) ps ++ ps)
        low_after = subst (λ xs. out_of (stages_of l) (xs ++ ps) ≤ into (stages_of l) (xs ++ ps)) makes.posts (never_overdrawn (postings first after) (legal_history first after next) (stages_of l) (inner_stages l))

    -- Shipments, orders and cards

    pub shipped_still : (o g : List ℕ) → shipped_of first acts o g ≡ shipped_of first after o g
    shipped_still o g =
        balance-of_item (is_shipped_to o) g (of_item g) (λ m e. e) ps ∙ sym (kept (λ p m. is_shipped_to o p && of_item g m) (λ u. refl)) ∙ sym (balance-of_item (is_shipped_to o) g (of_item g) (λ m e. e) (postings first after))

    pub open_still : (o : List ℕ) → is_open first acts o ≡ is_open first after o
    open_still o = λ i. is_open_state (if list_any (same_text o) (makes.same_cancels i) then Cancelled else (if list_all (λ x. shipped_still o x.gtin i == x.qty) (lines_placed (find (λ p. same_text o p.order) (makes.same_orders i))) then Done else Open))

    pub line_still : (o g : List ℕ) → has_line acts o g ≡ has_line after o g
    line_still o g = λ i. list_any (λ x. same_text g x.gtin) (lines_placed (find (λ p. same_text o p.order) (makes.same_orders i)))

    pub order_row_still : (o : List ℕ) → order_row first acts o ≡ order_row first after o
    order_row_still o = λ i. option_map (λ (p : Placed). record {
      order = p.order;
      act = p.act;
      customer = p.customer;
      state = if list_any (same_text p.order) (makes.same_cancels i) then Cancelled
          else (if list_all (λ x. shipped_still p.order x.gtin i == x.qty) (lines_placed (find (λ q. same_text p.order q.order) (makes.same_orders i))) then Done else Open);
    }) (find (λ p. same_text o p.order) (makes.same_orders i))

    pub line_row_still : (o g : List ℕ) → line_row first acts o g ≡ line_row first after o g
    line_row_still o g = λ i. option_map (λ x. record { order = o; gtin = g; ordered = x.qty; shipped = shipped_still o g i }) (find (λ x. same_text g x.gtin) (lines_placed (find (λ p. same_text o p.order) (makes.same_orders i))))

    pub shipline_row_still : (s : ℕ) (m : LotId) → shipline_row first acts s m ≡ shipline_row first after s m
    shipline_row_still s m = ap (λ q. if_any q (record { number = s; lot = m; qty = q })) (sym (kept (λ p k. is_shipment s p && is_lot m k) (λ u. refl)))

    pub card_row_still : (m : LotId) (s : ℕ) → card_row first acts m s ≡ card_row first after m s
    card_row_still m s = ap (find (λ (c : CardRow). is_lot m c.lot && (s == c.act))) (sym no_lines)
      where
        no_lines : cards first after ≡ cards first acts
        no_lines =
            ap (λ xs. flat_map (λ p. card_lines first act acts p p.from p.to) xs ++ cards first acts) makes.posts
            ∙ ap (λ xs. xs ++ cards first acts) (returned_has_no_line n (orders acts) ps first act acts (made_unshippable first act acts))
