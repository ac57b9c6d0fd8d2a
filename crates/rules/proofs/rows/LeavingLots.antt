-- An act by which lots stop being shippable: what was staged of them is in the bin RETURNS then, and all else is where it was.
use Rattle.rules.proofs.Words.{◌≡◌, ℕ, ◌+◌, ◌≤◌, Bool, true, false, ◌&&◌, List, ◌∷◌, ◌++◌, refl, ap, sym, subst, ◌∙◌, arith, eq-eqb, ◌==◌, if◌then◌else◌, Some, find, filter, flat_map, option_map, ℤ, list_any, list_all, same_text, LotId, total, Open, Done, Cancelled, CardRow, Act, gathered, next_number, Place, Supplier, InBin, Stage, Shipped, WriteOff, Posting, is_bin, is_lot, is_stage, is_shipped_to, is_shipment, of_item, KnownLot, Placed, RETURNS, lots, lot_known, is_shippable, orders, lines_placed, has_line, cancel_in, returned, postings, postings_of, in_bin, staged_of_lot, shipped_of, is_open, is_open_state, cards, card_lines, units_returned, IsHistory, if_any, order_row, line_row, shipline_row, card_row, and_false, is_zero, is_lot_is, same_text_refl, Cells, into, out_of, into-append, out_of-append, holds, never_overdrawn, balance-of_item, legal_history, IsStaging, none_returned, staged_lots_are_shippable, returned_kept, units_taken, returned_has_no_line, cell_at, holds_nothing, stage_cells, stages_of, both, both_hold, inner_stages}
use Rattle.machine.specs.Standing.{bins}

module _ (first : ℤ) (acts : List Act) (act : Act) (gone : LotId → Bool) where
  -- no lot under these names is shippable after the act, and the act returns only such lots; it makes no order or bin, and
  -- cancels none
  pub record MakesThemUnshippable : Type 0 where
    pub out : KnownLot → Bool
    pub out_gone : (k : KnownLot) → out k ≡ true → gone k.lot ≡ true
    pub posts : postings_of first act acts ≡ returned (next_number acts) (filter out (lots acts)) (orders acts) (postings first acts)
    pub unshippable : (l : LotId) (k : KnownLot) → gone l ≡ true → lot_known (act ∷ acts) l ≡ Some k → is_shippable first (act ∷ acts) k ≡ false
    pub same_orders : orders acts ≡ orders (act ∷ acts)
    pub same_cancels : gathered cancel_in acts ≡ gathered cancel_in (act ∷ acts)
    pub same_bins : bins acts ≡ bins (act ∷ acts)

  -- all stages of these lots
  abbrev pub stages_gone : Cells
  stages_gone = stage_cells (λ m o. gone m)

  module _ (makes : MakesThemUnshippable) (next : IsHistory first (act ∷ acts)) where
    abbrev after : List Act
    after = act ∷ acts

    abbrev n : ℕ
    n = next_number acts

    abbrev ps : List Posting
    ps = postings first acts

    abbrev qs : List Posting
    qs = returned n (filter makes.out (lots acts)) (orders acts) ps

    -- a set of cells that has all stages of each such lot, if it has RETURNS of it, and else none, holds what it held
    pub kept : (w : Cells) → ((l : LotId) → gone l ≡ true → (o : List ℕ) → w (InBin RETURNS) l ≡ w (Stage o) l) → holds w (postings first after) ≡ holds w (postings first acts)
    kept w e = ap (λ xs. holds w (xs ++ ps)) makes.posts ∙ returned_kept n (orders acts) ps w makes.out (lots acts) (λ k t o. e k.lot (makes.out_gone k t) o)

    other_lot : (l m : LotId) → gone l ≡ true → gone m ≡ false → is_lot m l ≡ false
    other_lot l m e f = elim (is_lot m l) as (λ b. is_lot m l ≡ b → b ≡ false) [
      | true ↦ λ t. let g : true ≡ false = sym e ∙ ap gone (sym (is_lot_is m l t)) ∙ f in cc
      | false ↦ λ t. refl
    ] refl

    -- Stages

    pub unstaged : (o : List ℕ) (l : LotId) → gone l ≡ true → staged_of_lot first after o l ≡ 0
    unstaged o l g = elim (staged_of_lot first after o l == 0) as (λ b. (staged_of_lot first after o l == 0) ≡ b → staged_of_lot first after o l ≡ 0) [
      | true ↦ λ e. is_zero _ e
      | false ↦ λ e.
          let h = staged_lots_are_shippable first after o l next (λ z. let f : true ≡ false = sym (eq-eqb _ 0 z) ∙ e in cc) in
          let f : false ≡ true = sym (makes.unshippable l h.0 g h.1) ∙ h.2 in
          cc
    ] refl

    pub staged_still : (o : List ℕ) (m : LotId) → gone m ≡ false → staged_of_lot first after o m ≡ staged_of_lot first acts o m
    staged_still o m e = kept (λ p k. is_stage o p && is_lot m k) (λ l t u. sym (ap (λ b. same_text o u && b) (other_lot l m t e) ∙ and_false (same_text o u)))

    stages_empty : holds stages_gone (postings first after) ≡ 0
    stages_empty = holds_nothing (postings first after) (legal_history first after next) stages_gone (record { supplier = λ m. refl; write_off = λ m. refl }) (λ s o m. refl) empty
      where
        empty : (p : Place) (m : LotId) → stages_gone p m ≡ true → holds (cell_at p m) (postings first after) ≡ 0
        empty (Stage o) m e = unstaged o m e
        empty (InBin b) m e = let f : false ≡ true = e in cc
        empty Supplier m e = let f : false ≡ true = e in cc
        empty WriteOff m e = let f : false ≡ true = e in cc
        empty (Shipped s o) m e = let f : false ≡ true = e in cc

    lot_stages_empty : (l : LotId) → gone l ≡ true → holds (stages_of l) (postings first after) ≡ 0
    lot_stages_empty l g = holds_nothing (postings first after) (legal_history first after next) (stages_of l) (inner_stages l) (λ s o m. refl) empty
      where
        empty : (p : Place) (m : LotId) → stages_of l p m ≡ true → holds (cell_at p m) (postings first after) ≡ 0
        empty (Stage o) m e = unstaged o m (ap gone (sym (is_lot_is l m e)) ∙ g)
        empty (InBin b) m e = let f : false ≡ true = e in cc
        empty Supplier m e = let f : false ≡ true = e in cc
        empty WriteOff m e = let f : false ≡ true = e in cc
        empty (Shipped s o) m e = let f : false ≡ true = e in cc

    -- Bins

    pub in_bin_still : (c : List ℕ) (m : LotId) → same_text c RETURNS && gone m ≡ false → in_bin first after c m ≡ in_bin first acts c m
    in_bin_still c m e = kept (λ p k. is_bin c p && is_lot m k) (λ l t u. none l t)
      where
        none : (l : LotId) → gone l ≡ true → same_text c RETURNS && is_lot m l ≡ false
        none l t = elim (is_lot m l) as (λ b. is_lot m l ≡ b → same_text c RETURNS && b ≡ false) [
          | true ↦ λ f. ap (λ b. same_text c RETURNS && b) (sym (ap gone (is_lot_is m l f) ∙ t)) ∙ e
          | false ↦ λ f. and_false (same_text c RETURNS)
        ] refl

    pub in_returns : (l : LotId) → gone l ≡ true → in_bin first after RETURNS l ≡ in_bin first acts RETURNS l + holds (stages_of l) (postings first acts)
    in_returns l g =
        let same = kept (both l) (λ m t o. ap (λ b. b && is_lot l m) (same_text_refl RETURNS)) in
        omega (arith, same, both_hold l (postings first after) (legal_history first after next), both_hold l ps (legal_history first acts next.0), lot_stages_empty l g)

    -- the reply tells what was staged
    pub all_returned : units_returned first act acts ≡ holds stages_gone (postings first acts)
    all_returned =
        let taken : total (λ (p : Posting). p.qty) qs ≡ out_of stages_gone qs =
        units_taken n (orders acts) ps stages_gone makes.out (λ k t o. makes.out_gone k t) (lots acts) in
        let none = none_returned stages_gone staging n ps (orders acts) (filter makes.out (lots acts)) in
        let low : out_of stages_gone (qs ++ ps) ≤ into stages_gone (qs ++ ps) = low_after in
        let empty : holds stages_gone (qs ++ ps) ≡ 0 = ap (λ xs. holds stages_gone (xs ++ ps)) (sym makes.posts) ∙ stages_empty in
        ap (total (λ (p : Posting). p.qty)) makes.posts ∙ omega (arith, taken, none, low, empty, into-append stages_gone qs ps, out_of-append stages_gone qs ps)
      where
        staging : IsStaging stages_gone
        staging = record { bins = λ b m. refl; write_off = λ m. refl; shipped = λ s o m e. never (stages_gone (Stage o) m) e }
          where
            never : (b : Bool) → false ≡ true → b ≡ true
            never b e = cc

        low_after : out_of stages_gone (qs ++ ps) ≤ into stages_gone (qs ++ ps)
        low_after = subst (λ xs. out_of stages_gone (xs ++ ps) ≤ into stages_gone (xs ++ ps)) makes.posts (never_overdrawn (postings first after) (legal_history first after next) stages_gone (record { supplier = λ m. refl; write_off = λ m. refl }))

    -- Shipments, orders and cards

    shipped_still : (o g : List ℕ) → shipped_of first acts o g ≡ shipped_of first after o g
    shipped_still o g =
        balance-of_item (is_shipped_to o) g (of_item g) (λ m e. e) ps ∙ sym (kept (λ p m. is_shipped_to o p && of_item g m) (λ l t u. refl)) ∙ sym (balance-of_item (is_shipped_to o) g (of_item g) (λ m e. e) (postings first after))

    pub open_still : (o : List ℕ) → is_open first acts o ≡ is_open first after o
    open_still o = λ i. is_open_state (if list_any (same_text o) (makes.same_cancels i) then Cancelled else (if list_all (λ x. shipped_still o x.gtin i == x.qty) (lines_placed (find (λ p. same_text o p.order) (makes.same_orders i))) then Done else Open))

    pub line_still : (o g : List ℕ) → has_line acts o g ≡ has_line after o g
    line_still o g = λ i. list_any (λ x. same_text g x.gtin) (lines_placed (find (λ p. same_text o p.order) (makes.same_orders i)))

    pub order_row_still : (o : List ℕ) → order_row first acts o ≡ order_row first after o
    order_row_still o = λ i. option_map (λ (p : Placed). record {
      order = p.order;
      act = p.act;
      customer = p.customer;
      state = if list_any (same_text p.order) (makes.same_cancels i) then Cancelled
          else (if list_all (λ x. shipped_still p.order x.gtin i == x.qty) (lines_placed (find (λ q. same_text p.order q.order) (makes.same_orders i))) then Done else Open);
    }) (find (λ p. same_text o p.order) (makes.same_orders i))

    pub line_row_still : (o g : List ℕ) → line_row first acts o g ≡ line_row first after o g
    line_row_still o g = λ i. option_map (λ x. record { order = o; gtin = g; ordered = x.qty; shipped = shipped_still o g i }) (find (λ x. same_text g x.gtin) (lines_placed (find (λ p. same_text o p.order) (makes.same_orders i))))

    pub shipline_row_still : (s : ℕ) (m : LotId) → shipline_row first acts s m ≡ shipline_row first after s m
    shipline_row_still s m = ap (λ q. if_any q (record { number = s; lot = m; qty = q })) (sym (kept (λ p k. is_shipment s p && is_lot m k) (λ l t u. refl)))

    pub card_row_still : (m : LotId) (s : ℕ) → card_row first acts m s ≡ card_row first after m s
    card_row_still m s = ap (find (λ (c : CardRow). is_lot m c.lot && (s == c.act))) (sym no_lines)
      where
        no_lines : cards first after ≡ cards first acts
        no_lines =
            ap (λ xs. flat_map (λ p. card_lines first act acts p p.from p.to) xs ++ cards first acts) makes.posts
            ∙ ap (λ xs. xs ++ cards first acts) (returned_has_no_line n (orders acts) ps first act acts (filter makes.out (lots acts)))
