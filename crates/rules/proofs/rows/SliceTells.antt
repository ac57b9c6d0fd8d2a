-- What the slice of any command but a shipment tells of the items, bins and lots that it touches.
use Rattle.rules.proofs.Words.{◌≡◌, ℕ, true, false, ◌&&◌, not, List, refl, ap, ◌∙◌, ◌||◌, find, Option, Some, None, option_map, is_some, ℤ, list_any, same_text, LotId, Command, Item, Bin, Receive, Move, Count, Adjust, Order, Cancel, Pick, Unpick, Ship, Hold, Release, Recall, OpenDay, Least, Urgent, Act, is_lot, has_item, item_named, has_bin, bin_named, KnownLot, lot_known, is_held, is_recalled, recalling, tables_of, item_row, bin_row, lot_row, recall_row, is_touched, touches, IsSlice, ships, plans, names_bin, names_lot, in_bins, on_stages, sees_item, sees_bin, lot_seen, sees_recall, expires_otherwise_than, expires_otherwise, Slice, or_first, is_lot_item}

pub some_mapped : {A B : Type 0} (f : A → B) (x : Option A) → is_some (option_map f x) ≡ is_some x
some_mapped f None = refl
some_mapped f (Some a) = refl

-- a command that names a lot touches its item
pub names_touched : (first : ℤ) (act : Act) (acts : List Act) (command : Command) (l : LotId) → names_lot command l ≡ true → touches first act acts command l.gtin ≡ true
names_touched first act acts (Item i) l e = let f : false ≡ true = e in cc
names_touched first act acts (Bin b) l e = let f : false ≡ true = e in cc
names_touched first act acts (Receive r) l e = is_lot_item l r.lot e
names_touched first act acts (Move m) l e = is_lot_item l m.lot e
names_touched first act acts (Count c) l e = is_lot_item l c.lot e
names_touched first act acts (Adjust a) l e = is_lot_item l a.lot e
names_touched first act acts (Order o) l e = let f : false ≡ true = e in cc
names_touched first act acts (Cancel o) l e = let f : false ≡ true = e in cc
names_touched first act acts (Pick p) l e = is_lot_item l p.lot e
names_touched first act acts (Unpick p) l e = is_lot_item l p.lot e
names_touched first act acts (Ship o) l e = let f : false ≡ true = e in cc
names_touched first act acts (Hold k) l e = is_lot_item l k e
names_touched first act acts (Release k) l e = is_lot_item l k e
names_touched first act acts (Recall k) l e = is_lot_item l k e
names_touched first act acts (OpenDay day) l e = let f : false ≡ true = e in cc
names_touched first act acts (Least x) l e = let f : false ≡ true = e in cc
names_touched first act acts (Urgent o) l e = let f : false ≡ true = e in cc

module _ (first : ℤ) (acts : List Act) (act : Act) (s : Slice) (slice : IsSlice first act acts (tables_of first acts) s) (goods : not (ships act.command) ≡ true) where
  found_item : (g : List ℕ) → is_touched first act acts g ≡ true → find (λ r. same_text g r.gtin) s.rows.items ≡ item_row acts g
  unfolding tables_of
  found_item g t = slice.items.found g (λ i. goods i && t i)

  pub item_told : (g : List ℕ) → is_touched first act acts g ≡ true → sees_item s g ≡ has_item acts g
  item_told g t = ap is_some (found_item g t) ∙ some_mapped _ (item_named acts g)

  pub found_bin : (b : List ℕ) → names_bin act.command b ≡ true → find (λ r. same_text b r.name) s.rows.bins ≡ bin_row acts b
  unfolding tables_of
  found_bin b t = slice.bins.found b (or_first (names_bin act.command b) (plans act.command && list_any (λ r. same_text b r.bin) s.rows.stock) t)

  pub bin_told : (b : List ℕ) → names_bin act.command b ≡ true → sees_bin s b ≡ has_bin acts b
  bin_told b t = ap is_some (found_bin b t) ∙ some_mapped _ (bin_named acts b)

  pub named_touched : (l : LotId) → names_lot act.command l ≡ true → is_touched first act acts l.gtin ≡ true
  named_touched l named = names_touched first act acts act.command l named

  -- a lot that the command names
  pub found_lot : (l : LotId) → names_lot act.command l ≡ true → lot_seen s l ≡ lot_row acts l
  unfolding tables_of
  found_lot l named = slice.lots.found l (λ i. goods i && named_touched l named i && or_first (names_lot act.command l) (plans act.command && (in_bins s.rows l || on_stages s.rows l)) named i)

  expiry_same : (k : Option KnownLot) (day : ℤ) → expires_otherwise_than (option_map (λ k. record { lot = k.lot; expiry = k.expiry; came = k.came; held = is_held acts k.lot }) k) day ≡ expires_otherwise k day
  expiry_same None day = refl
  expiry_same (Some k) day = refl

  pub expiry_told : (l : LotId) (day : ℤ) → names_lot act.command l ≡ true → expires_otherwise_than (lot_seen s l) day ≡ expires_otherwise (lot_known acts l) day
  expiry_told l day named = ap (λ k. expires_otherwise_than k day) (found_lot l named) ∙ expiry_same (lot_known acts l) day

  -- the recall of a lot that it names, and of each lot of an item that it plans
  pub found_recall : (l : LotId) → is_touched first act acts l.gtin ≡ true → plans act.command || names_lot act.command l ≡ true → find (λ r. is_lot l r.lot) s.rows.recalls ≡ recall_row acts l
  unfolding tables_of
  found_recall l t asked = slice.recalls.found l (λ i. asked i && t i)

  pub recall_told : (l : LotId) → is_touched first act acts l.gtin ≡ true → plans act.command || names_lot act.command l ≡ true → sees_recall s l ≡ is_recalled acts l
  recall_told l t asked = ap is_some (found_recall l t asked) ∙ some_mapped _ (recalling acts l)
