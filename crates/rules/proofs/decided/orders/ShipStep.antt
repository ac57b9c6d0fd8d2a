-- The change of a shipping takes the tables to those with the act: its shipment, and the card lines of what is shipped.
use Rattle.rules.proofs.Words.{◌≡◌, ℕ, ◌+◌, ◌-◌, Bool, true, false, ◌&&◌, List, [], ◌∷◌, ◌++◌, refl, ap, sym, ◌∙◌, arith, eq-eqb, ◌==◌, ◌||◌, if◌then◌else◌, min, find, map, flat_map, Option, Some, None, is_some, option_map, ℤ, pos, neg_ℤ, decimal, list_any, eqb-true, same_text, LotId, UNITS_MAX, Key, Ship, Shipment, StockRow, StagedRow, ShipmentRow, ShiplineRow, CardRow, Act, next_number, Stage, Shipped, Posting, balance, is_lot, is_stage, is_shipment, of_item, shipped_off, postings, KnownLot, lots, has_line, today, shipments, shipments_so_far, staged_of_lot, reserved, cards, card_lines, lot_units_in_house, IsHistory, tables_of, if_any, stock_row, staged_row, shipment_row, shipline_row, card_row, is_touched, AreRows, LotBin, same_cell, IsSlice, applied, tables_but_repeats, changed, unless_put, on_named_stage, number_seen, lot_units, shipment_seen, rows_shipped, shipment_put, shipline, ship_card, ship_changes, Slice, or_none, and_false, is_lot_is, is_lot_item, is_lot_refl, same_text_refl, same_text_turned, AreApart, any_found, same_known, lots_apart, unknown_line_is_unstaged, unknown_shipment_is_empty, shipments_apart, bin_after, shipment_after, house_after, unknown_unstaged, reserved_after, and_turned}
use Rattle.rules.proofs.rows.AddedRows.{find_appended, put_over_none}
use Rattle.rules.proofs.rows.FoundRows.{same_finds, find_never, find_kept, find_mapped}
use Rattle.rules.proofs.rows.LotUnits.{lot_units_told, lot_within_limit}
use Rattle.rules.proofs.rows.SliceDemands.{slice_tells_stages}
use Rattle.rules.proofs.rows.TableSteps.{AreNamed, nothing_named, reserved_changed}
use Rattle.rules.proofs.decided.Decisions.{day_seen}
use Rattle.rules.proofs.decided.orders.ShipTells.{number_is, shipment_is, meta_is, unstaged, found_staged, staged_at, line_at}
use Rattle.rules.proofs.decided.orders.ShipCloses.{order_at}

put_first : {X : Type 0} (b : Bool) (new : X) (rest : Option X) → unless_put (if b then Some new else None) false rest ≡ (if b then Some new else rest)
put_first true new rest = refl
put_first false new rest = refl

-- The card lines of lots that are shipped
module _ (n s : ℕ) (o : List ℕ) (ps : List Posting) (first : ℤ) (act : Act) (acts : List Act) (l : LotId) (m : ℕ) where
  abbrev staged_units : LotId → ℕ
  staged_units k = balance (is_stage o) (is_lot k) ps

  abbrev pub card_of : LotId → CardRow
  card_of k = record { lot = k; act = n; day = today first (act ∷ acts); kind = Shipment; note = decimal s; qty = neg_ℤ (pos (staged_units k)); rest = lot_units_in_house first (act ∷ acts) k }

  abbrev lines : List KnownLot → List CardRow
  lines ks = flat_map (λ p. card_lines first act acts p p.from p.to) (shipped_off n s o ks ps)

  abbrev card_test : CardRow → Bool
  card_test c = is_lot l c.lot && (m == c.act)

  one_line : (ks : List KnownLot) (k : LotId) → is_lot l k && (m == n) ≡ false → find card_test (flat_map (λ p. card_lines first act acts p p.from p.to) ((if staged_units k == 0 then [] else record { act = n; lot = k; from = Stage o; to = Shipped s o; qty = staged_units k } ∷ []) ++ shipped_off n s o ks ps)) ≡ find card_test (lines ks)
  one_line ks k e = elim (staged_units k == 0) as (λ b. find card_test (flat_map (λ p. card_lines first act acts p p.from p.to) ((if b then [] else record { act = n; lot = k; from = Stage o; to = Shipped s o; qty = staged_units k } ∷ []) ++ shipped_off n s o ks ps)) ≡ find card_test (lines ks)) [
    | true ↦ refl
    | false ↦ ap (λ b. if b then Some (card_of k) else find card_test (lines ks)) e
  ]

  no_line : (ks : List KnownLot) → list_any (λ k. is_lot l k.lot) ks ≡ false → find card_test (lines ks) ≡ None
  no_line [] e = refl
  no_line (k ∷ ks) e =
      let two = or_none (is_lot l k.lot) (list_any (λ k. is_lot l k.lot) ks) e in
      one_line ks k.lot (ap (λ b. b && (m == n)) two.0) ∙ no_line ks two.1

  own_line : (ks : List KnownLot) (k : LotId) → l ≡ k → list_any (λ k. is_lot l k.lot) ks ≡ false → (m == n) ≡ true
      → find card_test (flat_map (λ p. card_lines first act acts p p.from p.to) ((if staged_units k == 0 then [] else record { act = n; lot = k; from = Stage o; to = Shipped s o; qty = staged_units k } ∷ []) ++ shipped_off n s o ks ps)) ≡ if_any (staged_units k) (card_of k)
  own_line ks k own none e = elim (staged_units k == 0) as (λ b. find card_test (flat_map (λ p. card_lines first act acts p p.from p.to) ((if b then [] else record { act = n; lot = k; from = Stage o; to = Shipped s o; qty = staged_units k } ∷ []) ++ shipped_off n s o ks ps)) ≡ (if b then None else Some (card_of k))) [
    | true ↦ no_line ks none
    | false ↦ (λ i. if is_own i && e i then Some (card_of k) else find card_test (lines ks))
  ]
    where
      is_own : is_lot l k ≡ true
      is_own = ap (λ (x : LotId). is_lot x k) own ∙ is_lot_refl k

  line_of_lot : (ks : List KnownLot) → AreApart same_known ks → (m == n) ≡ true → find card_test (lines ks) ≡ (if list_any (λ k. is_lot l k.lot) ks then if_any (staged_units l) (card_of l) else None)
  line_of_lot [] apart e = refl
  line_of_lot (k ∷ ks) apart e =
      elim (is_lot l k.lot) as (λ b. is_lot l k.lot ≡ b → find card_test (lines (k ∷ ks)) ≡ (if b || list_any (λ k. is_lot l k.lot) ks then if_any (staged_units l) (card_of l) else None)) [
        | true ↦ λ t.
            let own : l ≡ k.lot = is_lot_is l k.lot t in
            let none : list_any (λ (x : KnownLot). is_lot l x.lot) ks ≡ false = ap (λ (y : LotId). list_any (λ (x : KnownLot). is_lot y x.lot) ks) own ∙ apart.0 in
            own_line ks k.lot own none e ∙ (λ i. if_any (staged_units (sym own i)) (card_of (sym own i)))
        | false ↦ λ t. one_line ks k.lot (ap (λ b. b && (m == n)) t) ∙ line_of_lot ks apart.1 e
      ] refl

  never_line : (ks : List KnownLot) → (m == n) ≡ false → find card_test (lines ks) ≡ None
  never_line [] e = refl
  never_line (k ∷ ks) e = one_line ks k.lot (ap (λ b. is_lot l k.lot && b) e ∙ and_false (is_lot l k.lot)) ∙ never_line ks e

  -- what is found under a lot and an act among them
  pub found_line : (ks : List KnownLot) → AreApart same_known ks → (list_any (λ k. is_lot l k.lot) ks ≡ false → staged_units l ≡ 0) → find card_test (lines ks) ≡ (if m == n then if_any (staged_units l) (card_of l) else None)
  found_line ks apart unknown =
      elim (m == n) as (λ b. (m == n) ≡ b → find card_test (lines ks) ≡ (if b then if_any (staged_units l) (card_of l) else None)) [
        | true ↦ λ e. line_of_lot ks apart e ∙ by_known (list_any (λ k. is_lot l k.lot) ks) refl
        | false ↦ λ e. never_line ks e
      ] refl
    where
      by_known : (b : Bool) → list_any (λ k. is_lot l k.lot) ks ≡ b → (if b then if_any (staged_units l) (card_of l) else None) ≡ if_any (staged_units l) (card_of l)
      by_known true e = refl
      by_known false e = sym (ap (λ q. if_any q (card_of l)) (unknown e))

module _ (first : ℤ) (acts : List Act) (key : Key) (o : List ℕ) (s : Slice) (slice : IsSlice first (record { key = key; command = Ship o }) acts (tables_of first acts) s)
    (next : IsHistory first (record { key = key; command = Ship o } ∷ acts)) where
  abbrev act : Act
  act = record { key = key; command = Ship o }

  abbrev after : List Act
  after = act ∷ acts

  abbrev number : ℕ
  number = shipments_so_far first acts + 1

  abbrev units : LotId → ℕ
  units l = staged_of_lot first acts o l

  -- The shipment

  shipment_at : (n : ℕ) → changed (λ (r : ShipmentRow). n == r.number) (shipment_put s o ∷ []) [] (shipment_row first acts n) ≡ shipment_row first after n
  shipment_at n =
      (λ i. changed (λ (r : ShipmentRow). n == r.number) (record { number = shipment_is first acts key o s slice next i; act = number_is first acts key o s slice next i; day = day_seen first acts act s slice i; order = o } ∷ []) [] (shipment_row first acts n))
      ∙ put_first (n == number) (record { number = number; act = next_number acts; day = today first acts; order = o }) (shipment_row first acts n)

  -- the number is new
  new_shipment : (l : LotId) → balance (is_shipment number) (is_lot l) (postings first acts) ≡ 0
  new_shipment l = unknown_shipment_is_empty first acts next.0 number (is_lot l) (any_found (λ (x : ShipmentRow). number == x.number) (shipments first acts) ∙ (shipments_apart first after).0)

  found_if : (l : LotId) (b : Bool) → find (λ (r : StagedRow). same_text o r.order && (b && is_lot l r.lot)) s.rows.staged ≡ (if b then staged_row first acts o l else None)
  found_if l true = found_staged first acts key o s slice next l
  found_if l false = find_never _ (λ (r : StagedRow). and_false (same_text o r.order)) s.rows.staged

  abbrev line_of : ℕ → LotId → ℕ → ShiplineRow
  line_of n l q = record { number = n; lot = l; qty = q }

  shown_line : (l : LotId) (b : Bool) → option_map (shipline number) (if b then staged_row first acts o l else None) ≡ (if b then if_any (units l) (line_of number l (units l)) else None)
  shown_line l true = elim (units l == 0) as (λ b. option_map (shipline number) (if b then None else Some (record { order = o; lot = l; qty = units l })) ≡ (if b then None else Some (line_of number l (units l)))) [ true ↦ refl | false ↦ refl ]
  shown_line l false = refl

  lines_put : (n : ℕ) (l : LotId) → find (λ (r : ShiplineRow). (n == r.number) && is_lot l r.lot) (map (shipline (shipment_seen s)) (rows_shipped o s.rows.staged)) ≡ (if n == number then if_any (units l) (line_of number l (units l)) else None)
  lines_put n l =
      find_mapped (shipline (shipment_seen s)) (λ (r : ShiplineRow). (n == r.number) && is_lot l r.lot) (rows_shipped o s.rows.staged)
      ∙ ap (option_map (shipline (shipment_seen s))) (find_kept (λ (r : StagedRow). (n == shipment_seen s) && is_lot l r.lot) (λ r. same_text o r.order) s.rows.staged ∙ found_if l (n == shipment_seen s))
      ∙ (λ i. option_map (shipline (shipment_is first acts key o s slice next i)) (if n == shipment_is first acts key o s slice next i then staged_row first acts o l else None))
      ∙ shown_line l (n == number)

  shipline_at : (n : ℕ) (l : LotId) → changed (λ (r : ShiplineRow). (n == r.number) && is_lot l r.lot) (map (shipline (shipment_seen s)) (rows_shipped o s.rows.staged)) [] (shipline_row first acts n l) ≡ shipline_row first after n l
  shipline_at n l =
      ap (λ x. unless_put x false (shipline_row first acts n l)) (lines_put n l)
      ∙ elim (n == number) as (λ b. (n == number) ≡ b → unless_put (if b then if_any (units l) (line_of number l (units l)) else None) false (shipline_row first acts n l) ≡ shipline_row first after n l) [
        | true ↦ λ e.
            let own : n ≡ number = eqb-true n number e in
            let more : units l ≡ balance (is_shipment number) (is_lot l) (postings first after) =
            omega (arith, shipment_after first acts key o next number l, new_shipment l, ap (λ b. if b then units l else 0) (eq-eqb number number refl)) in
            let none : shipline_row first acts number l ≡ None = ap (λ q. if_any q (line_of number l q)) (new_shipment l) in
            (λ i. unless_put (if_any (units l) (line_of number l (units l))) false (shipline_row first acts (own i) l))
            ∙ ap (λ x. unless_put (if_any (units l) (line_of number l (units l))) false x) none ∙ put_over_none (if_any (units l) (line_of number l (units l)))
            ∙ ap (λ q. if_any q (line_of number l q)) more ∙ (λ i. shipline_row first after (sym own i) l)
        | false ↦ λ e.
            let same : balance (is_shipment n) (is_lot l) (postings first acts) ≡ balance (is_shipment n) (is_lot l) (postings first after) =
            omega (arith, shipment_after first acts key o next n l, ap (λ b. if b then units l else 0) e) in
            ap (λ q. if_any q (line_of n l q)) same
      ] refl

  -- Cards

  abbrev card : LotId → CardRow
  card l = record { lot = l; act = next_number acts; day = today first after; kind = Shipment; note = decimal number; qty = neg_ℤ (pos (units l)); rest = lot_units_in_house first after l }

  -- the slice has the stock of the lots that are staged for the order
  stock_are : AreRows same_cell (λ (r : StockRow). (r.lot, r.bin)) (λ (k : LotBin). is_touched first act acts k.0.gtin && on_named_stage act.command s.rows k.0) (λ (k : LotBin). is_touched first act acts k.0.gtin) (λ k. stock_row first acts k.0 k.1) s.rows.stock
  unfolding tables_of
  stock_are = slice.stock

  any_turned : (l : LotId) (rows : List StagedRow) → list_any (λ (r : StagedRow). same_text r.order o && is_lot l r.lot) rows ≡ list_any (λ (r : StagedRow). same_text o r.order && is_lot l r.lot) rows
  any_turned l [] = refl
  any_turned l (r ∷ rs) = λ i. (same_text_turned r.order o i && is_lot l r.lot) || any_turned l rs i

  staged_here : (l : LotId) → (units l == 0) ≡ false → on_named_stage act.command s.rows l ≡ true
  staged_here l e =
      any_turned l s.rows.staged ∙ sym (any_found (λ (r : StagedRow). same_text o r.order && is_lot l r.lot) s.rows.staged)
      ∙ ap is_some (found_staged first acts key o s slice next l ∙ ap (λ b. if b then None else Some (record { order = o; lot = l; qty = units l })) e)

  card_same : (l : LotId) → has_line acts o l.gtin ≡ true → on_named_stage act.command s.rows l ≡ true → ship_card s (record { order = o; lot = l; qty = units l }) ≡ card l
  card_same l has staged =
      let told : lot_units l s.rows.stock s.rows.staged ≡ lot_units_in_house first acts l =
      lot_units_told first acts next.0 l.gtin l (same_text_refl l.gtin) s.rows.stock s.rows.staged (λ k. is_touched first act acts k.0.gtin && on_named_stage act.command s.rows k.0) (λ k. is_touched first act acts k.0.gtin) (λ k. of_item l.gtin k.1) (λ k. true)
      stock_are (slice_tells_stages first acts act s slice l.gtin has refl)
      (λ m b e. ap (λ (x : LotId). is_touched first act acts x.gtin && on_named_stage act.command s.rows x) (sym (is_lot_is l m e)) ∙ (λ i. has i && staged i)) (λ m u e. is_lot_item l m e) in
      let house : lot_units_in_house first after l + units l ≡ lot_units_in_house first acts l = house_after first acts key o next l in
      let few : min (units l) UNITS_MAX ≡ units l = omega (arith, house, lot_within_limit first acts next.0 l.gtin l (same_text_refl l.gtin)) in
      let rest : lot_units l s.rows.stock s.rows.staged - units l ≡ lot_units_in_house first after l = omega (arith, told, house) in
      λ i. record {
        lot = l;
        act = number_is first acts key o s slice next i;
        day = day_seen first acts act s slice i;
        kind = Shipment;
        note = decimal (shipment_is first acts key o s slice next i);
        qty = neg_ℤ (pos (few i));
        rest = rest i;
      }

  shown_card : (l : LotId) → option_map (ship_card s) (staged_row first acts o l) ≡ if_any (units l) (card l)
  shown_card l =
      elim (has_line acts o l.gtin) as (λ b. has_line acts o l.gtin ≡ b → option_map (ship_card s) (staged_row first acts o l) ≡ if_any (units l) (card l)) [
        | true ↦ λ e. elim (units l == 0) as (λ b. (units l == 0) ≡ b → option_map (ship_card s) (if b then None else Some (record { order = o; lot = l; qty = units l })) ≡ (if b then None else Some (card l))) [
          | true ↦ λ z. refl
          | false ↦ λ z. ap (λ (c : CardRow). Some c) (card_same l e (staged_here l z))
        ] refl
        | false ↦ λ e. ap (option_map (ship_card s)) (unstaged first acts key o s slice next l e) ∙ sym (ap (λ q. if_any q (card l)) (unknown_line_is_unstaged first acts next.0 o l e))
      ] refl

  by_act : (l : LotId) (b : Bool) → option_map (ship_card s) (if b then staged_row first acts o l else None) ≡ (if b then if_any (units l) (card l) else None)
  by_act l true = shown_card l
  by_act l false = refl

  cards_put : (l : LotId) (m : ℕ) → find (λ (c : CardRow). is_lot l c.lot && (m == c.act)) (map (ship_card s) (rows_shipped o s.rows.staged)) ≡ (if m == next_number acts then if_any (units l) (card l) else None)
  cards_put l m =
      find_mapped (ship_card s) (λ (c : CardRow). is_lot l c.lot && (m == c.act)) (rows_shipped o s.rows.staged)
      ∙ ap (option_map (ship_card s))
      (find_kept (λ (r : StagedRow). is_lot l r.lot && (m == number_seen s)) (λ r. same_text o r.order) s.rows.staged
      ∙ same_finds (λ (r : StagedRow). same_text o r.order && (is_lot l r.lot && (m == number_seen s))) (λ r. same_text o r.order && ((m == number_seen s) && is_lot l r.lot)) (λ r. ap (λ b. same_text o r.order && b) (and_turned (is_lot l r.lot) (m == number_seen s))) s.rows.staged
      ∙ found_if l (m == number_seen s))
      ∙ (λ i. option_map (ship_card s) (if m == number_is first acts key o s slice next i then staged_row first acts o l else None))
      ∙ by_act l (m == next_number acts)

  card_at : (l : LotId) (m : ℕ) → changed (λ (c : CardRow). is_lot l c.lot && (m == c.act)) (map (ship_card s) (rows_shipped o s.rows.staged)) [] (card_row first acts l m) ≡ card_row first after l m
  card_at l m =
      ap (λ x. unless_put x false (card_row first acts l m))
      (cards_put l m ∙ sym (found_line (next_number acts) number o (postings first acts) first act acts l m (lots acts) (lots_apart acts) (unknown_unstaged first acts key o next l)))
      ∙ sym (find_appended (λ (c : CardRow). is_lot l c.lot && (m == c.act)) (flat_map (λ p. card_lines first act acts p p.from p.to) (shipped_off (next_number acts) number o (lots acts) (postings first acts))) (cards first acts))

  -- All tables

  stock_at : (l : LotId) (b : List ℕ) → stock_row first acts l b ≡ stock_row first after l b
  stock_at l b = ap (λ q. if_any q (record { lot = l; bin = b; qty = q })) (sym (bin_after first acts key o next b l))

  -- no reserved row is named, as none has changed
  pub none_named : AreNamed first act acts [] []
  none_named u l = nothing_named u l (reserved first acts u l) (reserved first after u l) (reserved_after first acts key o next u l)

  pub ship_step : applied (ship_changes s o) (tables_of first acts) ≡ tables_but_repeats first act acts
  unfolding applied tables_of
  ship_step =
      λ i. record (applied (ship_changes s o) (tables_of first acts)) {
        meta = Some (meta_is first acts key o s slice next i);
        stock = λ l b. stock_at l b i;
        order = λ u. order_at first acts key o s slice next u i;
        line = λ u g. line_at first acts key o s slice next u g i;
        staged = λ u l. staged_at first acts key o s slice next u l i;
        reserved = λ u l. reserved_changed first act acts [] [] none_named u l i;
        shipment = λ n. shipment_at n i;
        shipline = λ n l. shipline_at n l i;
        card = λ l n. card_at l n i;
      }
