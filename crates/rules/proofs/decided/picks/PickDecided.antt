-- Pickings are decided as the machine decides them.
use Rattle.rules.proofs.Words.{◌≡◌, ℕ, ◌+◌, ◌-◌, ◌≤◌, ◌<◌, Bool, true, false, ◌&&◌, List, [], ◌∷◌, refl, ap, sym, subst, ◌∙◌, arith, ◌==◌, ◌||◌, if◌then◌else◌, ℤ, Result, same_text, is_name, is_qty, LotId, is_lot_id, Key, Picking, Pick, ReservedRow, StockRow, StagedRow, Act, next_number, InBin, Stage, is_lot, posting, in_bin, staged_of_lot, reserved, IsHistory, tables_of, stock_row, staged_row, LotBin, OrderLot, same_cell, same_share, IsSlice, no_facts, staged_after, reserved_found, reserved_put, reserved_gone, pick_seen, pick_told, pick_changes, reserved_left, own_lowered, Slice, Change, RuleFault, bins, stages, and_both, or_first, same_text_is, same_text_refl, is_lot_is, is_lot_refl, is_lot_item, room_for_acts, pick_disturbs_none, at_least_one}
use Rattle.rules.specs.declared.posting.Place.TheVariants as told
use Rattle.rules.proofs.rows.AfterRows.{loosened}
use Rattle.rules.proofs.rows.SameKeys.{same_cell_refl, same_share_refl}
use Rattle.rules.proofs.rows.StageTold.{found_reserved, reserved_told}
use Rattle.rules.proofs.rows.ReservedLowered.{own_lowered as own_share_lowered, others_kept, lowered_once}
use Rattle.rules.proofs.rows.TableSteps.{AreNamed, IsNamed, share_row}
use Rattle.rules.proofs.rows.PostedRows.{puts_none}
use Rattle.rules.proofs.rows.Following.{NamesNeeded, Tells, are_bins, are_stages}
use Rattle.rules.proofs.decided.Decisions.{AreRight, IsChange, plain_same}
use Rattle.rules.proofs.decided.Posted.{IsPosted, AreFacts, no_line, posted_once, posted_changed}
use Rattle.rules.proofs.decided.picks.PickJudged.{pick_judged}

module _ (first : ℤ) (acts : List Act) (key : Key) (p : Picking) (s : Slice) (slice : IsSlice first (record { key = key; command = Pick p }) acts (tables_of first acts) s)
    (next : IsHistory first (record { key = key; command = Pick p } ∷ acts)) where
  abbrev act : Act
  act = record { key = key; command = Pick p }

  abbrev after : List Act
  after = act ∷ acts

  own : same_text p.order p.order && is_lot p.lot p.lot ≡ true
  own = λ i. same_text_refl p.order i && is_lot_refl p.lot i

  -- The units, which are those of the rows that a pick asks for

  posted : IsPosted first acts act (pick_told p)
  posted =
      posted_once first acts act next p.lot (told.InBin p.bin) (told.Stage p.order) p.qty refl refl refl
      (record { items = refl; bins = refl; recalls = refl; orders = refl; cancels = refl; shipments = refl; day = refl; asked = refl })

  cell_asked : (k : LotBin) → same_cell k (p.lot, p.bin) ≡ true → same_text k.0.gtin p.lot.gtin && ((is_lot k.0 p.lot && same_text k.1 p.bin) || false) ≡ true
  cell_asked k e = let two = and_both (is_lot k.0 p.lot) (same_text k.1 p.bin) e in (λ i. is_lot_item k.0 p.lot two.0 i && or_first (is_lot k.0 p.lot && same_text k.1 p.bin) false e i)

  stock_before : Tells bins are_bins (λ k. same_cell k (p.lot, p.bin)) (λ k. in_bin first acts k.1 k.0) s.rows.stock
  unfolding tables_of
  stock_before = loosened same_cell (λ (r : StockRow). (r.lot, r.bin)) _ (λ k. same_cell k (p.lot, p.bin)) _ (λ k. true) (λ k. stock_row first acts k.0 k.1) (λ k. stock_row first acts k.0 k.1) s.rows.stock cell_asked (λ k e. refl) (λ k. refl) slice.stock

  share_asked : (k : OrderLot) → same_share k (p.order, p.lot) ≡ true → (same_text k.0 p.order && is_lot k.1 p.lot) && same_text k.1.gtin p.lot.gtin ≡ true
  share_asked k e = let two = and_both (same_text k.0 p.order) (is_lot k.1 p.lot) e in (λ i. e i && is_lot_item k.1 p.lot two.1 i)

  staged_before : Tells stages are_stages (λ k. same_share k (p.order, p.lot)) (λ k. staged_of_lot first acts k.0 k.1) s.rows.staged
  unfolding tables_of
  staged_before = loosened same_share (λ (r : StagedRow). (r.order, r.lot)) _ (λ k. same_share k (p.order, p.lot)) _ (λ k. true) (λ k. staged_row first acts k.0 k.1) (λ k. staged_row first acts k.0 k.1) s.rows.staged share_asked (λ k e. refl) (λ k. refl) slice.staged

  bins_named : NamesNeeded bins (λ k. same_cell k (p.lot, p.bin)) (posting (next_number acts) p.lot (InBin p.bin) (Stage p.order) p.qty)
  bins_named = elim (p.qty == 0) as (λ t. NamesNeeded bins (λ k. same_cell k (p.lot, p.bin)) (if t then [] else record { act = next_number acts; lot = p.lot; from = InBin p.bin; to = Stage p.order; qty = p.qty } ∷ [])) [
    | true ↦ tt
    | false ↦ ((λ k e. let n : (p.lot, p.bin) ≡ k = cc in subst (λ (x : LotBin). same_cell x (p.lot, p.bin) ≡ true) n (same_cell_refl (p.lot, p.bin))), (λ k e. cc), tt)
  ]

  stages_named : NamesNeeded stages (λ k. same_share k (p.order, p.lot)) (posting (next_number acts) p.lot (InBin p.bin) (Stage p.order) p.qty)
  stages_named = elim (p.qty == 0) as (λ t. NamesNeeded stages (λ k. same_share k (p.order, p.lot)) (if t then [] else record { act = next_number acts; lot = p.lot; from = InBin p.bin; to = Stage p.order; qty = p.qty } ∷ [])) [
    | true ↦ tt
    | false ↦ ((λ k e. cc), (λ k e. let n : (p.order, p.lot) ≡ k = cc in subst (λ (x : OrderLot). same_share x (p.order, p.lot) ≡ true) n (same_share_refl (p.order, p.lot))), tt)
  ]

  facts : AreFacts first acts act (no_facts s)
  facts = record {
    lots = puts_none acts act refl refl;
    cards = no_line first act acts (next_number acts) p.lot (InBin p.bin) (Stage p.order) p.qty refl;
    cards_once = refl;
    text = plain_same first acts act s slice (room_for_acts first acts (Pick p) next.1.passes) refl;
  }

  -- The reservation is lowered by what is picked, and no other changes

  some : 1 ≤ p.qty
  some = at_least_one p.qty (and_both (is_name p.order && is_lot_id p.lot && is_name p.bin) (is_qty p.qty) next.1.sound.command).1

  abbrev units_before : ℕ
  units_before = reserved first acts p.order p.lot

  abbrev units_left : ℕ
  units_left = reserved_left s p

  taken : (o : List ℕ) (l : LotId) → reserved first acts o l ≡ reserved first after o l + (if same_text o p.order && is_lot l p.lot then p.qty else 0)
  taken o l = pick_disturbs_none first acts key p o l next

  own_taken : units_before ≡ reserved first after p.order p.lot + p.qty
  own_taken = taken p.order p.lot ∙ (λ i. reserved first after p.order p.lot + (if same_text_refl p.order i && is_lot_refl p.lot i then p.qty else 0))

  left_told : units_left ≡ units_before - p.qty
  left_told = ap (λ n. n - p.qty) (reserved_told first acts act s slice p.order p.lot own)

  left_is : reserved first after p.order p.lot ≡ units_left
  left_is = omega (arith, own_taken, left_told)

  less : units_left < units_before
  less = omega (arith, own_taken, left_told, some)

  found : reserved_found s.rows.reserved p.order p.lot ≡ share_row p.order p.lot units_before
  found = found_reserved first acts act s slice p.order p.lot own

  abbrev put : List ReservedRow
  put = reserved_put p.order p.lot units_left

  abbrev dropped : List ReservedRow
  dropped = reserved_gone s.rows.reserved p.order p.lot units_left

  named_at : (o : List ℕ) (l : LotId) (own : Bool) → same_text o p.order && is_lot l p.lot ≡ own → reserved first acts o l ≡ reserved first after o l + (if own then p.qty else 0)
      → IsNamed o l (reserved first acts o l) (reserved first after o l) put dropped
  named_at o l true e h =
      let two = and_both (same_text o p.order) (is_lot l p.lot) e in
      let order : p.order ≡ o = sym (same_text_is o p.order two.0) in
      let lot : p.lot ≡ l = sym (is_lot_is l p.lot two.1) in
      subst (λ (x : List ℕ). IsNamed x l (reserved first acts x l) (reserved first after x l) put dropped) order
      (subst (λ (y : LotId). IsNamed p.order y (reserved first acts p.order y) (reserved first after p.order y) put dropped) lot
      (subst (λ n. IsNamed p.order p.lot units_before n put dropped) (sym left_is) (own_share_lowered p.order p.lot units_before units_left s.rows.reserved found less)))
  named_at o l false e h =
      others_kept p.order p.lot units_before units_left s.rows.reserved found less o l e (reserved first acts o l) (reserved first after o l) (omega (arith, h))

  named : AreNamed first act acts put dropped
  named o l = named_at o l (same_text o p.order && is_lot l p.lot) refl (taken o l)

  pick_changed : IsChange first act acts (pick_changes s p)
  pick_changed =
      posted_changed first acts act s slice next (pick_told p) posted (λ k. same_cell k (p.lot, p.bin)) bins_named stock_before (staged_after s (pick_told p)) refl (λ k. same_share k (p.order, p.lot)) stages_named staged_before
      (own_lowered s p) named (no_facts s) facts (lowered_once p.order p.lot units_left)

pub picks_right : (key : Key) (s : Slice) (result : Result Change RuleFault) (p : Picking) → AreRight key s result (Pick p) (pick_seen s p) (pick_changes s p)
picks_right key s result p first acts history slice = record { judged = pick_judged first acts key p s slice history; changed = λ ok next. pick_changed first acts key p s slice next }
