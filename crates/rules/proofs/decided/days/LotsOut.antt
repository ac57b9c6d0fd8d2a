-- An act that says from which expiry on lots ship: which lots it makes unshippable, and which items it touches, by the rows of its slice.
use Rattle.rules.proofs.Words.{◌≡◌, ℕ, Bool, true, false, ◌&&◌, not, List, [], ◌∷◌, ◌++◌, refl, ap, sym, ◌∙◌, ◌||◌, if◌then◌else◌, ℤ, Option, Some, None, find, filter, map, option_map, is_some, list_any, same_text, LotId, ItemRow, LeastRow, LotRow, StagedRow, Act, gathered, next_number, InBin, Stage, Posting, is_lot, RETURNS, KnownLot, Placed, lots, lot_known, hold_in, is_held, recall_in, is_recalled, is_expired, is_shippable, has_item, orders, cancel_in, least_expiry, says_held, posting, lot_returned, returned, made_unshippable, postings, postings_of, staged_of_lot, tables_of, lot_row, item_row, is_touched, AreRows, AreOwn, no_two, IsSlice, ships, picks, plans, names_order, names_lot, in_bins, on_stages, lot_seen, staged_qty, is_past_row, earliest_seen, is_out, gtins_seen, Slice, or_first, or_later, or_none, and_later_false, same_text_is, is_lot_is, AllFound, any_found, same_known, lots_found}
use Rattle.machine.specs.Standing.{bins}
use Rattle.rules.proofs.rows.FoundRows.{found_passes, found_own}
use Rattle.rules.proofs.rows.Planned.{no_shipment, no_pick, asked_if_planned}
use Rattle.rules.proofs.rows.StageTold.{on_stage_told}
use Rattle.rules.proofs.rows.SliceTells.{item_told}
use Rattle.rules.proofs.rows.LeavingLots.{MakesThemUnshippable}

-- a row that is found has an allowed key
found_allowed : {K R : Type 0} (key : R → K) (allowed : K → Bool) (row : K → Option R) (test : R → Bool) (rows : List R) → AreOwn key allowed row rows → (r : R) → find test rows ≡ Some r → allowed (key r) ≡ true
found_allowed key allowed row test [] h r e = cc
found_allowed {R = R} key allowed row test (q ∷ qs) h r e =
    elim (test q) as (λ b. (if b then Some q else find test qs) ≡ Some r → allowed (key r) ≡ true) [
      | true ↦ λ f. let own : q ≡ r = cc in ap (λ (x : R). allowed (key x)) (sym own) ∙ h.0
      | false ↦ λ f. found_allowed key allowed row test qs h.2 r f
    ] e

-- an element that is found is among those kept by a test that it passes
pub any_in : {X : Type 0} (sought test keep : X → Bool) (xs : List X) (x : X) → find sought xs ≡ Some x → keep x ≡ true → test x ≡ true → list_any test (filter keep xs) ≡ true
any_in sought test keep [] x e k t = cc
any_in {X = X} sought test keep (y ∷ ys) x e k t =
    elim (sought y) as (λ b. (if b then Some y else find sought ys) ≡ Some x → list_any test (if keep y then y ∷ filter keep ys else filter keep ys) ≡ true) [
      | true ↦ λ f.
          let own : y ≡ x = cc in
          ap (λ b. list_any test (if b then y ∷ filter keep ys else filter keep ys)) (ap keep own ∙ k) ∙ ap (λ b. b || list_any test (filter keep ys)) (ap test own ∙ t)
      | false ↦ λ f. behind (keep y) (any_in sought test keep ys x f k t)
    ] e
  where
    behind : (b : Bool) → list_any test (filter keep ys) ≡ true → list_any test (if b then y ∷ filter keep ys else filter keep ys) ≡ true
    behind true h = or_later (test y) _ h
    behind false h = h

-- what was shippable, and is not for a or_later expiry alone, expires before it
expired_since : (held recalled past now : Bool) → (held && recalled && past) && not (held && recalled && not now) ≡ true → now ≡ true
expired_since true true true true e = refl
expired_since true true true false e = let f : false ≡ true = e in cc
expired_since true true false now e = let f : false ≡ true = e in cc
expired_since true false past now e = let f : false ≡ true = e in cc
expired_since false recalled past now e = let f : false ≡ true = e in cc

never_shippable : (held recalled now : Bool) → now ≡ true → held && recalled && not now ≡ false
never_shippable true true true e = refl
never_shippable true true false e = sym e
never_shippable true false now e = refl
never_shippable false recalled now e = refl

-- an act that makes nothing known but from which expiry on lots ship, and returns what is staged of those that stop being shippable
pub record SaysWhenLotsShip (first : ℤ) (act : Act) (acts : List Act) : Type 0 where
  pub planned : plans act.command ≡ true
  pub posts : postings_of first act acts ≡ returned (next_number acts) (made_unshippable first act acts) (orders acts) (postings first acts)
  pub same_lots : lots acts ≡ lots (act ∷ acts)
  pub same_holds : gathered hold_in acts ≡ gathered hold_in (act ∷ acts)
  pub same_recalls : gathered recall_in acts ≡ gathered recall_in (act ∷ acts)
  pub same_orders : orders acts ≡ orders (act ∷ acts)
  pub same_cancels : gathered cancel_in acts ≡ gathered cancel_in (act ∷ acts)
  pub same_bins : bins acts ≡ bins (act ∷ acts)
  -- each item that it touches is known, and it touches those of the lots that stop being shippable
  pub item_known : (g : List ℕ) → is_touched first act acts g ≡ true → has_item acts g ≡ true
  pub lot_touched : (k : KnownLot) → lot_known acts k.lot ≡ Some k → is_shippable first acts k && not (is_shippable first (act ∷ acts) k) ≡ true → is_touched first act acts k.lot.gtin ≡ true

-- the day, with the days that these rows ask for, tells from which expiry on the lots of each item that it touches ship
abbrev pub TellsWhenLotsShip : ℤ → Act → List Act → ℤ → List LeastRow → Type 0
TellsWhenLotsShip first act acts day least = (g : List ℕ) → is_touched first act acts g ≡ true → earliest_seen day least g ≡ least_expiry first (act ∷ acts) g

module _ (first : ℤ) (acts : List Act) (act : Act) (s : Slice) (slice : IsSlice first act acts (tables_of first acts) s) (says : SaysWhenLotsShip first act acts)
    (day : ℤ) (least : List LeastRow) (tells : TellsWhenLotsShip first act acts day least) where
  abbrev after : List Act
  after = act ∷ acts

  abbrev gone : LotId → Bool
  gone l = is_out s day least l

  abbrev from : LotId → ℤ
  from l = earliest_seen day least l.gtin

  -- Lots

  lots_own : AreOwn (λ (r : LotRow). r.lot) (λ l. is_touched first act acts l.gtin) (lot_row acts) s.rows.lots
  unfolding tables_of
  lots_own = slice.lots.own

  -- a lot with units on stages
  lot_in : (l : LotId) → is_touched first act acts l.gtin ≡ true → on_stages s.rows l ≡ true → lot_seen s l ≡ lot_row acts l
  unfolding tables_of
  lot_in l t on = slice.lots.found l (λ i. no_shipment act.command says.planned i && t i && asked_if_planned act.command says.planned (names_lot act.command l) (in_bins s.rows l || on_stages s.rows l) (or_later (names_lot act.command l) (in_bins s.rows l || on_stages s.rows l) (or_later (in_bins s.rows l) (on_stages s.rows l) on)) i)

  -- a lot that the slice has is of an item that the act touches
  pub out_touched : (l : LotId) → is_out s day least l ≡ true → is_touched first act acts l.gtin ≡ true
  out_touched l = by_row (lot_seen s l) refl
    where
      by_row : (x : Option LotRow) → lot_seen s l ≡ x → is_past_row x (from l) ≡ true → is_touched first act acts l.gtin ≡ true
      by_row None e f = let g : false ≡ true = f in cc
      by_row (Some r) e f =
          let own : is_lot l r.lot ≡ true = found_passes (λ (k : LotRow). is_lot l k.lot) s.rows.lots r e in
          ap (λ (x : LotId). is_touched first act acts x.gtin) (is_lot_is l r.lot own)
          ∙ found_allowed (λ (k : LotRow). k.lot) (λ m. is_touched first act acts m.gtin) (lot_row acts) (λ k. is_lot l k.lot) s.rows.lots lots_own r e

  past_row : (l : LotId) (k : KnownLot) (day : ℤ) → lot_known acts l ≡ Some k → is_past_row (lot_row acts l) day ≡ is_expired day k.expiry
  past_row l k day e = ap (λ (x : Option KnownLot). is_past_row (option_map (λ (k : KnownLot). record { lot = k.lot; expiry = k.expiry; came = k.came; held = is_held acts k.lot }) x) day) e

  -- a row that the slice has is the lot's
  out_is_past : (l : LotId) (k : KnownLot) → gone l ≡ true → lot_known acts l ≡ Some k → is_expired (from l) k.expiry ≡ true
  out_is_past l k g e = by_row (lot_seen s l) refl g
    where
      by_row : (x : Option LotRow) → lot_seen s l ≡ x → is_past_row x (from l) ≡ true → is_expired (from l) k.expiry ≡ true
      by_row None f h = let z : false ≡ true = h in cc
      by_row (Some r) f h =
          let own : l ≡ r.lot = is_lot_is l r.lot (found_passes (λ (k : LotRow). is_lot l k.lot) s.rows.lots r f) in
          let row : lot_row acts l ≡ Some r = ap (λ (x : LotId). lot_row acts x) own ∙ found_own (λ (k : LotRow). k.lot) (λ m. is_touched first act acts m.gtin) (lot_row acts) (λ k. is_lot l k.lot) s.rows.lots lots_own r f in
          sym (past_row l k (from l) e) ∙ ap (λ (x : Option LotRow). is_past_row x (from l)) row ∙ h

  abbrev was : KnownLot → Bool
  was k = is_shippable first acts k && not (is_shippable first after k)

  abbrev out : KnownLot → Bool
  out k = was k && gone k.lot

  lot_touched : (k : KnownLot) → lot_known acts k.lot ≡ Some k → was k ≡ true → is_touched first act acts k.lot.gtin ≡ true
  lot_touched k found t = says.lot_touched k found t

  -- the lots are held and recalled as they were
  shippable_after : (k : KnownLot) → is_shippable first after k ≡ not (is_held acts k.lot) && not (is_recalled acts k.lot) && not (is_expired (least_expiry first after k.lot.gtin) k.expiry)
  shippable_after k = sym (λ i. not (says_held (find (λ w. is_lot k.lot w.lot) (says.same_holds i))) && not (is_some (find (λ r. is_lot k.lot r.lot) (says.same_recalls i))) && not (is_expired (least_expiry first after k.lot.gtin) k.expiry))

  -- of a lot that becomes unshippable, but is not out by the rows, nothing is staged

  gone_is : (k : KnownLot) → lot_known acts k.lot ≡ Some k → was k ≡ true → on_stages s.rows k.lot ≡ true → gone k.lot ≡ true
  gone_is k found t on =
      ap (λ (x : Option LotRow). is_past_row x (from k.lot)) (lot_in k.lot (lot_touched k found t) on) ∙ past_row k.lot k (from k.lot) found
      ∙ ap (λ day. is_expired day k.expiry) (tells k.lot.gtin (lot_touched k found t))
      ∙ expired_since (not (is_held acts k.lot)) (not (is_recalled acts k.lot)) (not (is_expired (least_expiry first acts k.lot.gtin) k.expiry)) (is_expired (least_expiry first after k.lot.gtin) k.expiry)
      (ap (λ b. is_shippable first acts k && not b) (sym (shippable_after k)) ∙ t)

  not_found : (o : List ℕ) (l : LotId) (rows : List StagedRow) → list_any (λ (r : StagedRow). is_lot l r.lot) rows ≡ false → find (λ (r : StagedRow). same_text o r.order && is_lot l r.lot) rows ≡ None
  not_found o l [] e = refl
  not_found o l (r ∷ rs) e =
      let two = or_none (is_lot l r.lot) (list_any (λ (r : StagedRow). is_lot l r.lot) rs) e in
      ap (λ b. if b then Some r else find (λ (r : StagedRow). same_text o r.order && is_lot l r.lot) rs) (and_later_false (same_text o r.order) (is_lot l r.lot) two.0) ∙ not_found o l rs two.1

  not_staged : (k : KnownLot) → lot_known acts k.lot ≡ Some k → was k ≡ true → gone k.lot ≡ false → (o : List ℕ) → staged_of_lot first acts o k.lot ≡ 0
  not_staged k found t e o = elim (on_stages s.rows k.lot) as (λ b. on_stages s.rows k.lot ≡ b → staged_of_lot first acts o k.lot ≡ 0) [
    | true ↦ λ on. let f : true ≡ false = sym (gone_is k found t on) ∙ e in cc
    | false ↦ λ off. sym (on_stage_told first acts act s slice o k.lot (lot_touched k found t) (or_first (not (picks act.command)) (names_order act.command o && names_lot act.command k.lot) (no_pick act.command says.planned))) ∙ ap staged_qty (not_found o k.lot s.rows.staged off)
  ] refl

  none_returned : (k : KnownLot) → ((o : List ℕ) → staged_of_lot first acts o k.lot ≡ 0) → (ps : List Placed) → lot_returned (next_number acts) ps (postings first acts) k ≡ []
  none_returned k none [] = refl
  none_returned k none (p ∷ ps) =
      ap (λ q. posting (next_number acts) k.lot (Stage p.order) (InBin RETURNS) q ++ lot_returned (next_number acts) ps (postings first acts) k) (none p.order) ∙ none_returned k none ps

  same_returned : (ks : List KnownLot) → AllFound same_known (lots acts) ks
      → returned (next_number acts) (filter was ks) (orders acts) (postings first acts) ≡ returned (next_number acts) (filter out ks) (orders acts) (postings first acts)
  same_returned [] h = refl
  same_returned (k ∷ ks) h =
      elim (was k) as (λ b. was k ≡ b → back (if b then k ∷ filter was ks else filter was ks) ≡ back (if b && gone k.lot then k ∷ filter out ks else filter out ks)) [
        | true ↦ λ t. elim (gone k.lot) as (λ b. gone k.lot ≡ b → of_lot ++ back (filter was ks) ≡ back (if b then k ∷ filter out ks else filter out ks)) [
          | true ↦ λ g. ap (λ xs. of_lot ++ xs) (same_returned ks h.1)
          | false ↦ λ g. ap (λ xs. xs ++ back (filter was ks)) (none_returned k (not_staged k h.0 t g) (orders acts)) ∙ same_returned ks h.1
        ] refl
        | false ↦ λ t. same_returned ks h.1
      ] refl
    where
      back : List KnownLot → List Posting
      back xs = returned (next_number acts) xs (orders acts) (postings first acts)

      of_lot : List Posting
      of_lot = lot_returned (next_number acts) (orders acts) (postings first acts) k

  second : (a b : Bool) → a && b ≡ true → b ≡ true
  second true b e = e
  second false b e = let f : false ≡ true = e in cc

  unshippable : (l : LotId) (k : KnownLot) → gone l ≡ true → lot_known after l ≡ Some k → is_shippable first after k ≡ false
  unshippable l k g e =
      let known : lot_known acts l ≡ Some k = ap (λ ks. find (λ (m : KnownLot). is_lot l m.lot) ks) says.same_lots ∙ e in
      let own : l ≡ k.lot = is_lot_is l k.lot (found_passes (λ (m : KnownLot). is_lot l m.lot) (lots acts) k known) in
      shippable_after k
      ∙ never_shippable (not (is_held acts k.lot)) (not (is_recalled acts k.lot)) (is_expired (least_expiry first after k.lot.gtin) k.expiry)
      (ap (λ (m : LotId). is_expired (least_expiry first after m.gtin) k.expiry) (sym own) ∙ ap (λ day. is_expired day k.expiry) (sym (tells l.gtin (out_touched l g))) ∙ out_is_past l k g known)

  pub makes : MakesThemUnshippable first acts act (λ l. is_out s day least l)
  makes = record {
    out = out;
    out_gone = λ k e. second (was k) (gone k.lot) e;
    posts = says.posts ∙ same_returned (lots acts) (lots_found acts);
    unshippable = unshippable;
    same_orders = says.same_orders;
    same_cancels = says.same_cancels;
    same_bins = says.same_bins;
  }

  -- Items

  items_are : AreRows same_text (λ (r : ItemRow). r.gtin) (λ g. not (ships act.command) && is_touched first act acts g) (is_touched first act acts) (item_row acts) s.rows.items
  unfolding tables_of
  items_are = slice.items

  any_gtin : (g : List ℕ) (rows : List ItemRow) → list_any (same_text g) (map (λ (r : ItemRow). r.gtin) rows) ≡ list_any (λ (r : ItemRow). same_text g r.gtin) rows
  any_gtin g [] = refl
  any_gtin g (r ∷ rs) = ap (λ b. same_text g r.gtin || b) (any_gtin g rs)

  gtins_apart : (rows : List ItemRow) → no_two same_text (map (λ (r : ItemRow). r.gtin) rows) ≡ no_two (λ (r q : ItemRow). same_text r.gtin q.gtin) rows
  gtins_apart [] = refl
  gtins_apart (r ∷ rs) = λ i. not (any_gtin r.gtin rs i) && gtins_apart rs i

  -- the items of the slice are those that the act touches, and none is there twice
  pub items_apart : no_two same_text (gtins_seen s) ≡ true
  items_apart = gtins_apart s.rows.items ∙ items_are.once

  pub items_told : (g : List ℕ) → list_any (same_text g) (gtins_seen s) ≡ is_touched first act acts g
  items_told g =
      any_gtin g s.rows.items ∙ sym (any_found (λ (r : ItemRow). same_text g r.gtin) s.rows.items)
      ∙ elim (is_touched first act acts g) as (λ b. is_touched first act acts g ≡ b → is_some (find (λ (r : ItemRow). same_text g r.gtin) s.rows.items) ≡ b) [
        | true ↦ λ t. item_told first acts act s slice (no_shipment act.command says.planned) g t ∙ says.item_known g t
        | false ↦ λ t. none t (find (λ (r : ItemRow). same_text g r.gtin) s.rows.items) refl
      ] refl
    where
      none : is_touched first act acts g ≡ false → (x : Option ItemRow) → find (λ (r : ItemRow). same_text g r.gtin) s.rows.items ≡ x → is_some x ≡ false
      none t None e = refl
      none t (Some r) e =
          let own : g ≡ r.gtin = same_text_is g r.gtin (found_passes (λ (r : ItemRow). same_text g r.gtin) s.rows.items r e) in
          let f : false ≡ true = sym t ∙ ap (λ (x : List ℕ). is_touched first act acts x) own ∙ found_allowed (λ (r : ItemRow). r.gtin) (is_touched first act acts) (item_row acts) (λ r. same_text g r.gtin) s.rows.items items_are.own r e in
          cc
