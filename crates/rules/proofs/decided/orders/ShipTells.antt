-- The rows that the shipping of an order puts and drops: its staged rows, its lines and its own row.
use Rattle.rules.proofs.Words.{◌≡◌, ℕ, ◌+◌, ◌<◌, Bool, true, false, ◌&&◌, List, [], ◌∷◌, refl, ap, sym, subst, ◌∙◌, arith, ◌||◌, if◌then◌else◌, length, find, Option, Some, None, option_map, is_some, ℤ, nat_tests, same_text, LotId, ACTS_MAX, Key, OrderLine, Ship, LineRow, StagedRow, Act, next_number, balance, is_lot, is_stage, of_item, postings, has_line, lines_of, shipments_so_far, staged_of_lot, shipped_of, IsHistory, tables_of, meta_row, if_any, line_row, staged_row, is_touched, AreRows, OrderLot, same_share, IsSlice, names_order, changed, unless_put, unless_emptied, capped, number_seen, staged_seen, lines_seen, shipment_seen, meta_shipped, line_shipped, lines_shipped, Slice, and_both, same_text_is, same_text_refl, same_text_turned, is_lot_is, any_found, room_for_acts, legal_history, unknown_line_is_unstaged, served_is, served_within_ordered, ordered_within_limit, shipments_within_acts, stage_after, shipped_after, of_postings}
use Rattle.rules.proofs.rows.FoundRows.{found_passes, found_own, same_finds, find_never, find_kept, find_mapped}
use Rattle.rules.proofs.rows.OrderTold.{found_line_row}
use Rattle.rules.proofs.rows.DemandsTold.{staged_same}
use Rattle.rules.proofs.rows.SliceDemands.{slice_tells_stages}
use Rattle.rules.proofs.decided.Decisions.{day_seen, shipments_seen, number_same}

twice : (a b : Bool) → a && (a && b) ≡ a && b
twice true b = refl
twice false b = refl

put_over_same : {X Y : Type 0} (f h : X → Y) (x : Option X) → unless_put (option_map f x) false (option_map h x) ≡ option_map f x
put_over_same f h None = refl
put_over_same f h (Some x) = refl

-- rows of one order are not those of another
not_both : (o u r : List ℕ) (b : Bool) → same_text u o ≡ false → same_text o r && (same_text u r && b) ≡ false
not_both o u r b e =
    elim (same_text o r) as (λ c. same_text o r ≡ c → c && (same_text u r && b) ≡ false) [
      | true ↦ λ t. ap (λ (x : List ℕ). same_text u x && b) (sym (same_text_is o r t)) ∙ ap (λ c. c && b) e
      | false ↦ λ t. refl
    ] refl

module _ (first : ℤ) (acts : List Act) (key : Key) (o : List ℕ) (s : Slice) (slice : IsSlice first (record { key = key; command = Ship o }) acts (tables_of first acts) s)
    (next : IsHistory first (record { key = key; command = Ship o } ∷ acts)) where
  abbrev act : Act
  act = record { key = key; command = Ship o }

  abbrev after : List Act
  after = act ∷ acts

  abbrev pub number : ℕ
  number = shipments_so_far first acts + 1

  -- Numbers

  pub number_is : number_seen s ≡ next_number acts
  number_is = number_same first acts act s slice (room_for_acts first acts (Ship o) next.1.passes)

  pub shipment_is : shipment_seen s ≡ number
  shipment_is =
      let room = room_for_acts first acts (Ship o) next.1.passes in
      let full : length acts < ACTS_MAX = grind (arith, nat_tests, room) in
      ap (λ n. capped (n + 1)) (shipments_seen first acts act s slice) ∙ omega (arith, shipments_within_acts first acts)

  pub meta_is : meta_shipped s ≡ meta_row first after
  meta_is = λ i. record { day = day_seen first acts act s slice i; acts = (number_is ∙ one_more) i; shipments = (shipment_is ∙ last) i }
    where
      one_more : next_number acts ≡ length after
      one_more = omega arith

      last : number ≡ shipments_so_far first after
      last = omega arith

  -- Staged rows

  staged_are : AreRows same_share (λ (r : StagedRow). (r.order, r.lot)) (λ (k : OrderLot). is_touched first act acts k.1.gtin) (λ (k : OrderLot). names_order act.command k.0 || is_touched first act acts k.1.gtin) (λ k. staged_row first acts k.0 k.1) s.rows.staged
  unfolding tables_of
  staged_are = slice.staged

  pub unstaged : (l : LotId) → has_line acts o l.gtin ≡ false → staged_row first acts o l ≡ None
  unstaged l e = ap (λ q. if_any q (record { order = o; lot = l; qty = q })) (unknown_line_is_unstaged first acts next.0 o l e)

  abbrev staged_test : LotId → StagedRow → Bool
  staged_test l r = same_text o r.order && is_lot l r.lot

  -- the slice has all that is staged for the order
  pub found_staged : (l : LotId) → find (staged_test l) s.rows.staged ≡ staged_row first acts o l
  found_staged l =
      elim (has_line acts o l.gtin) as (λ b. has_line acts o l.gtin ≡ b → find (staged_test l) s.rows.staged ≡ staged_row first acts o l) [
        | true ↦ λ e. staged_are.found (o, l) e
        | false ↦ λ e. by_find e (find (staged_test l) s.rows.staged) refl
      ] refl
    where
      by_find : has_line acts o l.gtin ≡ false → (x : Option StagedRow) → find (staged_test l) s.rows.staged ≡ x → x ≡ staged_row first acts o l
      by_find e None f = sym (unstaged l e)
      by_find e (Some r) f =
          let two = and_both (same_text o r.order) (is_lot l r.lot) (found_passes (staged_test l) s.rows.staged r f) in
          let own : staged_row first acts r.order r.lot ≡ Some r = found_own (λ (r : StagedRow). (r.order, r.lot)) (λ (k : OrderLot). names_order act.command k.0 || is_touched first act acts k.1.gtin) (λ k. staged_row first acts k.0 k.1) (staged_test l) s.rows.staged staged_are.own r f in
          sym own ∙ (λ i. staged_row first acts (sym (same_text_is o r.order two.0) i) (sym (is_lot_is l r.lot two.1) i))

  -- and its stage is empty after the act
  pub staged_at : (u : List ℕ) (l : LotId) → unless_emptied (Some o) u (staged_row first acts u l) ≡ staged_row first after u l
  staged_at u l =
      ap (λ b. if b then None else staged_row first acts u l) (same_text_turned o u)
      ∙ elim (same_text u o) as (λ b. same_text u o ≡ b → (if b then None else staged_row first acts u l) ≡ staged_row first after u l) [
        | true ↦ λ e. sym (units_after e)
        | false ↦ λ e. sym (units_after e)
      ] refl
    where
      units_after : {b : Bool} → same_text u o ≡ b → staged_row first after u l ≡ if_any (if b then 0 else staged_of_lot first acts u l) (record { order = u; lot = l; qty = if b then 0 else staged_of_lot first acts u l })
      units_after e = ap (λ q. if_any q (record { order = u; lot = l; qty = q })) (stage_after first acts key o next u l ∙ ap (λ b. if b then 0 else staged_of_lot first acts u l) e)

  -- Lines

  -- of another order no more is shipped
  pub shipped_same : (u g : List ℕ) → same_text u o ≡ false → shipped_of first acts u g ≡ shipped_of first after u g
  shipped_same u g e = omega (arith, shipped_after first acts key o next u g, ap (λ b. if b then balance (is_stage u) (of_item g) (postings first acts) else 0) e)

  -- of this one what was staged, and no more than is ordered
  pub line_units : (g : List ℕ) → has_line acts o g ≡ true → capped (shipped_of first acts o g + capped (staged_seen g o s.rows.staged)) ≡ shipped_of first after o g
  line_units g has =
      let staged_is = staged_same first acts next.0 g s.rows.staged (slice_tells_stages first acts act s slice g has refl) o ∙ of_postings first acts key o next o g acts in
      let more = shipped_after first acts key o next o g ∙ ap (λ b. shipped_of first acts o g + (if b then balance (is_stage o) (of_item g) (postings first acts) else 0)) (same_text_refl o) in
      let served = served_is first after (legal_history first after next) o g in
      omega (arith, staged_is, more, served, served_within_ordered first after next o g, ordered_within_limit first after next o g)

  abbrev line_before : List ℕ → OrderLine → LineRow
  line_before g l = record { order = o; gtin = g; ordered = l.qty; shipped = shipped_of first acts o g }

  abbrev line_after : List ℕ → OrderLine → LineRow
  line_after g l = record { order = o; gtin = g; ordered = l.qty; shipped = shipped_of first after o g }

  abbrev pub line_placed : List ℕ → Option OrderLine
  line_placed g = find (λ l. same_text g l.gtin) (lines_of acts o)

  pub has_placed : (g : List ℕ) (l : OrderLine) → line_placed g ≡ Some l → has_line acts o g ≡ true
  has_placed g l e = sym (any_found (λ (m : OrderLine). same_text g m.gtin) (lines_of acts o)) ∙ ap is_some e

  shipped_line : (g : List ℕ) (x : Option OrderLine) → line_placed g ≡ x → option_map (line_shipped s.rows.staged) (option_map (line_before g) x) ≡ option_map (line_after g) x
  shipped_line g None e = refl
  shipped_line g (Some l) e = λ i. Some (record { order = o; gtin = g; ordered = l.qty; shipped = line_units g (has_placed g l e) i })

  abbrev pub line_test : List ℕ → LineRow → Bool
  line_test g r = same_text o r.order && same_text g r.gtin

  pub found_shipped : (g : List ℕ) → find (line_test g) (lines_shipped s o) ≡ line_row first after o g
  found_shipped g =
      find_mapped (line_shipped s.rows.staged) (line_test g) (lines_seen s o)
      ∙ ap (option_map (line_shipped s.rows.staged))
      (find_kept (line_test g) (λ (r : LineRow). same_text o r.order) s.rows.lines ∙ same_finds (λ r. same_text o r.order && line_test g r) (line_test g) (λ r. twice (same_text o r.order) (same_text g r.gtin)) s.rows.lines
      ∙ found_line_row first acts act s slice o (same_text_refl o) g refl)
      ∙ shipped_line g (line_placed g) refl

  pub line_at : (u g : List ℕ) → changed (λ (r : LineRow). same_text u r.order && same_text g r.gtin) (lines_shipped s o) [] (line_row first acts u g) ≡ line_row first after u g
  line_at u g =
      elim (same_text u o) as (λ b. same_text u o ≡ b → unless_put (find (λ (r : LineRow). same_text u r.order && same_text g r.gtin) (lines_shipped s o)) false (line_row first acts u g) ≡ line_row first after u g) [
        | true ↦ λ e.
            subst (λ (x : List ℕ). unless_put (find (λ (r : LineRow). same_text x r.order && same_text g r.gtin) (lines_shipped s o)) false (line_row first acts x g) ≡ line_row first after x g) (sym (same_text_is u o e))
            (ap (λ x. unless_put x false (line_row first acts o g)) (found_shipped g) ∙ put_over_same (line_after g) (line_before g) (line_placed g))
        | false ↦ λ e.
            ap (λ x. unless_put x false (line_row first acts u g))
            (find_mapped (line_shipped s.rows.staged) (λ (r : LineRow). same_text u r.order && same_text g r.gtin) (lines_seen s o)
            ∙ ap (option_map (line_shipped s.rows.staged)) (find_kept (λ (r : LineRow). same_text u r.order && same_text g r.gtin) (λ r. same_text o r.order) s.rows.lines ∙ find_never _ (λ (r : LineRow). not_both o u r.order (same_text g r.gtin) e) s.rows.lines))
            ∙ (λ i. option_map (λ (l : OrderLine). record { order = u; gtin = g; ordered = l.qty; shipped = shipped_same u g e i }) (find (λ l. same_text g l.gtin) (lines_of acts u)))
      ] refl
