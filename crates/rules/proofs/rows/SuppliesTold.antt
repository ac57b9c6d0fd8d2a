-- The lot rows, stock rows, bins and recalls of an item tell its supplies. Of lots without stock rows no lot row is needed.
use Rattle.rules.proofs.Words.{◌≡◌, ℕ, ◌+◌, ◌≤◌, Bool, true, false, ◌&&◌, not, List, [], ◌∷◌, refl, ap, sym, subst, ◌∙◌, arith, ◌==◌, ◌||◌, nat_lt, if◌then◌else◌, ℤ, int_lt, Option, Some, None, find, filter, map, option_map, is_some, list_any, eqb-true, ints, ltb-false, same_text, LotId, total, NewBin, BinRow, LotRow, RecallRow, StockRow, UNITS_MAX, plan_total, supply_total, Supply, offered, IsOrder, AllAfter, IsRising, same_non_zero, non_zero, Act, Posting, Place, Supplier, InBin, Stage, Shipped, WriteOff, is_lot, of_item, in_house, KnownLot, lots, lots_of, lot_known, bin_named, is_store_bin, is_store_row, is_held, recalling, is_expired, least_expiry, is_shippable, postings, item_postings, in_store, store_units, goes_before, shippable_lots, supplies, IsHistory, lot_row, recall_row, stock_row, bin_row, AreRows, AreOwn, no_two, same_cell, capped, has_recall, may_ship, is_store_found, store_seen, is_usable, goes_first, usable_lots, supply_seen, IsEarlier, never_itself, goes_on, none_of, both_either, ranks_order, total_kept, unequal_above, and_both, or_none, not_true, same_text_refl, same_text_is, is_lot_is, is_lot_refl, is_lot_turned, or_later, AllFound, any_found, AllBelow, AreFalling, Cells, holds, holds_split, balance-of_item, legal_history, same_known, lots_apart, lots_found, lots_numbered, receipt_names_lot, units_within_limit, stock_holds, bin_cells, Rows, supplies_in}
use Rattle.rules.proofs.rows.Telling.{rows_tell, some_of_mapped, totals_swapped, none_picked}
use Rattle.rules.proofs.rows.Ordering.{AllBehind, AreRising, AllOrdered, AreOrdered, rising_inserted, rising_ordered, ordered_kept, total_inserted, total_ordered, total_map}
use Rattle.rules.proofs.rows.SliceTells.{some_mapped}
use Rattle.rules.proofs.rows.DemandsTold.{same_total, either_way}

-- the lot is of the item, and the rows have units of it
abbrev pub in_stock : List ℕ → List StockRow → LotId → Bool
in_stock g rows l = of_item g l && list_any (λ (r : StockRow). is_lot l r.lot) rows

-- the rows of the item
pub record TellsSupplies (first : ℤ) (acts : List Act) (g : List ℕ) (read : Rows) : Type 0 where
  pub lots : AreRows is_lot (λ (r : LotRow). r.lot) (in_stock g read.stock) (λ l. true) (lot_row acts) read.lots
  pub recalls : (l : LotId) → of_item g l ≡ true → find (λ (r : RecallRow). is_lot l r.lot) read.recalls ≡ recall_row acts l
  pub stock : AreRows same_cell (λ (r : StockRow). (r.lot, r.bin)) (λ k. of_item g k.0) (λ k. true) (λ k. stock_row first acts k.0 k.1) read.stock
  pub bins : (b : List ℕ) → list_any (λ (r : StockRow). same_text b r.bin) read.stock ≡ true → find (λ (r : BinRow). same_text b r.name) read.bins ≡ bin_row acts b

either_first : (a b c : Bool) → a && b && c ≡ b && a && c
either_first true true c = refl
either_first true false c = refl
either_first false true c = refl
either_first false false c = refl

-- Ranks: by expiry, then by number

pub record Rank : Type 0 where
  pub expiry : ℤ
  pub came : ℕ

pub record Lot : Type 0 where
  pub rank : Rank
  pub avail : ℕ

abbrev ranks_before : Rank → Rank → Bool
ranks_before a b = int_lt a.expiry b.expiry || (not (int_lt b.expiry a.expiry) && nat_lt a.came b.came)

abbrev ranks_same : Rank → Rank → Bool
ranks_same a b = not (ranks_before a b) && not (ranks_before b a)

neither_lt : (a b : ℤ) → int_lt a b ≡ false → int_lt b a ≡ false → a ≡ b
neither_lt a b e f = grind (arith, ints)

either_numbers : (a b : ℕ) → nat_lt a b ≡ false → nat_lt b a ≡ false → a ≡ b
either_numbers a b e f = let h = ltb-false a b e in let k = ltb-false b a f in omega arith

ranks : IsEarlier ranks_before
ranks = ranks_order (λ (a : Rank). a.expiry) (λ (a : Rank). a.came)

rank_further : (a b c : Rank) → ranks_before a b ≡ true → ranks_before b c ≡ true → ranks_before a c ≡ true
rank_further = goes_on ranks_before ranks

rank_order : IsOrder ranks_before ranks_same
rank_order = record {
  own = λ a. itself a;
  apart = λ a b h. ap (λ t. not t && not (ranks_before b a)) h;
  apart_back = λ a b h. turned (ranks_before b a) (ranks_before a b) h;
  further = rank_further;
  one = λ a b h k. one a b (none_of _ _ _ h) (none_of _ _ _ k);
}
  where
    itself : (a : Rank) → ranks_same a a ≡ true
    itself a = let none = never_itself ranks_before ranks a in (λ i. not (none i) && not (none i))

    turned : (x y : Bool) → y ≡ true → not x && not y ≡ false
    turned true y e = refl
    turned false y e = ap not e

    one : (a b : Rank) → (int_lt a.expiry b.expiry ≡ false) × (int_lt b.expiry a.expiry ≡ false → nat_lt a.came b.came ≡ false)
        → (int_lt b.expiry a.expiry ≡ false) × (int_lt a.expiry b.expiry ≡ false → nat_lt b.came a.came ≡ false) → a ≡ b
    one a b h k =
        let e = neither_lt a.expiry b.expiry h.0 k.0 in
        let n = either_numbers a.came b.came (h.1 k.0) (k.1 h.0) in
        λ i. record { expiry = e i; came = n i }

either_rank : (a b : Rank) → (a.came == b.came) ≡ false → (ranks_before a b ≡ false → ranks_before b a ≡ true) × (ranks_before b a ≡ false → ranks_before a b ≡ true)
either_rank a b e = both_either (λ (x y : Rank). int_lt x.expiry y.expiry) (λ (x y : Rank). nat_lt x.came y.came) a b (λ _ _. either_way a.came b.came e)

-- Lists of ranked lots

abbrev out : Lot → Supply
out x = record { lot = x.rank.came; avail = x.avail }

abbrev RisingLots : List Lot → Type 0
RisingLots xs = IsRising ranks_before ranks_same (λ (x : Lot). x.rank) (λ (x : Lot). x.avail) xs

abbrev AfterLots : Rank → List Lot → Type 0
AfterLots r xs = AllAfter ranks_before ranks_same (λ (x : Lot). x.rank) (λ (x : Lot). x.avail) r xs

abbrev some_lots : List Lot → List Lot
some_lots xs = non_zero ranks_before ranks_same (λ (x : Lot). x.rank) (λ (x : Lot). x.avail) xs

offered_out : (xs : List Lot) → offered (map out xs) ≡ map out (some_lots xs)
offered_out [] = refl
offered_out (x ∷ xs) = elim (x.avail == 0) as (λ b. (if not b then out x ∷ offered (map out xs) else offered (map out xs)) ≡ map out (if not b then x ∷ some_lots xs else some_lots xs)) [
  | true ↦ offered_out xs
  | false ↦ ap (λ ys. out x ∷ ys) (offered_out xs)
]

map_twice : {X Y Z : Type 0} (f : Y → Z) (g : X → Y) (xs : List X) → map f (map g xs) ≡ map (λ x. f (g x)) xs
map_twice f g [] = refl
map_twice f g (x ∷ xs) = ap (λ ys. f (g x) ∷ ys) (map_twice f g xs)

module _ {X : Type 0} (rank : X → Rank) (avail : X → ℕ) where
  abbrev as_lot : X → Lot
  as_lot x = record { rank = rank x; avail = avail x }

  abbrev by_rank : X → X → Bool
  by_rank x y = ranks_before (rank x) (rank y)

  lots_after : (x : X) (xs : List X) → AllBehind by_rank x xs → AfterLots (rank x) (map as_lot xs)
  lots_after x [] h = tt
  lots_after x (y ∷ ys) h = (h.0, lots_after x ys h.1)

  lots_rise : (xs : List X) → AreRising by_rank xs → RisingLots (map as_lot xs)
  lots_rise [] h = tt
  lots_rise (x ∷ xs) h = (lots_after x xs h.0, lots_rise xs h.1)

split_if : (a b : Bool) (q : ℕ) → (if a then (if b then q else 0) else 0) ≡ (if a && b then q else 0)
split_if true b q = refl
split_if false b q = refl

module _ (first : ℤ) (acts : List Act) (history : IsHistory first acts) (g : List ℕ) (read : Rows) (tells : TellsSupplies first acts g read) where
  abbrev ips : List Posting
  ips = item_postings first acts g

  abbrev ps : List Posting
  ps = postings first acts

  abbrev show : KnownLot → LotRow
  show k = record { lot = k.lot; expiry = k.expiry; came = k.came; held = is_held acts k.lot }

  -- Units in STORE bins

  abbrev pick : LotId → LotId → List ℕ → Bool
  pick l m b = is_store_bin acts b && is_lot l m

  cells_same : (l : LotId) (p : Place) (m : LotId) → in_store acts p && is_lot l m ≡ bin_cells (pick l) p m
  cells_same l (InBin b) m = refl
  cells_same l Supplier m = refl
  cells_same l WriteOff m = refl
  cells_same l (Stage o) m = refl
  cells_same l (Shipped n o) m = refl

  of_lot : (l m : LotId) → of_item g l ≡ true → is_lot l m ≡ true → of_item g m ≡ true
  of_lot l m e f = ap (λ (x : LotId). of_item g x) (sym (is_lot_is l m f)) ∙ e

  in_the_house : (l : LotId) → of_item g l ≡ true → (p : Place) (m : LotId) → in_store acts p && is_lot l m ≡ true → in_house p && of_item g m ≡ true
  in_the_house l e (InBin b) m f = of_lot l m e (and_both (is_store_bin acts b) (is_lot l m) f).1
  in_the_house l e Supplier m f = f
  in_the_house l e WriteOff m f = f
  in_the_house l e (Stage o) m f = let h : false ≡ true = f in cc
  in_the_house l e (Shipped n o) m f = f

  store_of_row : (b : List ℕ) → list_any (λ (r : StockRow). same_text b r.bin) read.stock ≡ true → is_store_found (find (λ (r : BinRow). same_text b r.name) read.bins) ≡ is_store_bin acts b
  store_of_row b e = ap is_store_found (tells.bins b e) ∙ kind_of (bin_named acts b)
    where
      kind_of : (x : Option NewBin) → is_store_found (option_map (λ (x : NewBin). record { name = x.bin; kind = x.kind }) x) ≡ is_store_row x
      kind_of None = refl
      kind_of (Some x) = refl

  and_turned : (a b : Bool) → a && b ≡ b && a
  and_turned true true = refl
  and_turned true false = refl
  and_turned false true = refl
  and_turned false false = refl

  seen_store : (l : LotId) (rows : List StockRow) → ((b : List ℕ) → list_any (λ (r : StockRow). same_text b r.bin) rows ≡ true → list_any (λ (r : StockRow). same_text b r.bin) read.stock ≡ true)
      → store_seen read.bins rows l ≡ total (λ (r : StockRow). if pick l r.lot r.bin then r.qty else 0) rows
  seen_store l [] h = refl
  seen_store l (r ∷ rs) h =
      let own : list_any (λ (q : StockRow). same_text r.bin q.bin) (r ∷ rs) ≡ true = ap (λ t. t || list_any (λ (q : StockRow). same_text r.bin q.bin) rs) (same_text_refl r.bin) in
      (λ i. (if is_lot l r.lot && store_of_row r.bin (h r.bin own) i then r.qty else 0) + seen_store l rs (λ b e. h b (or_later (same_text b r.bin) _ e)) i)
      ∙ ap (λ t. (if t then r.qty else 0) + total (λ (r : StockRow). if pick l r.lot r.bin then r.qty else 0) rs) (and_turned (is_lot l r.lot) (is_store_bin acts r.bin))

  store_told : (l : LotId) → of_item g l ≡ true → store_seen read.bins read.stock l ≡ store_units acts ips l
  store_told l e =
      let legal = legal_history first acts history in
      let cells : Cells = λ p m. in_store acts p && is_lot l m in
      seen_store l read.stock (λ b h. h)
      ∙ sym (stock_holds first acts legal (pick l) (λ k. of_item g k.0) (λ k. true) read.stock tells.stock (λ m b f. of_lot l m e (and_both (is_store_bin acts b) (is_lot l m) f).1))
      ∙ sym (λ i. holds (λ p m. cells_same l p m i) ps)
      ∙ sym (balance-of_item (in_store acts) g (is_lot l) (other l e) ps)
    where
      other : (l : LotId) → of_item g l ≡ true → (m : LotId) → of_item g m ≡ false → is_lot l m ≡ false
      other l e m f = elim (is_lot l m) as (λ b. is_lot l m ≡ b → b ≡ false) [ true ↦ λ t. let h = of_lot l m e t in cc | false ↦ λ t. refl ] refl

  -- a lot without stock rows has no units in STORE bins

  none_seen : (l : LotId) (rows : List StockRow) → list_any (λ (r : StockRow). is_lot l r.lot) rows ≡ false → store_seen read.bins rows l ≡ 0
  none_seen l [] e = refl
  none_seen l (r ∷ rs) e =
      let two = or_none (is_lot l r.lot) (list_any (λ (r : StockRow). is_lot l r.lot) rs) e in
      (λ i. (if two.0 i && is_store_found (find (λ (b : BinRow). same_text r.bin b.name) read.bins) then r.qty else 0) + none_seen l rs two.1 i)

  pub none_in_store : (l : LotId) → of_item g l ≡ true → in_stock g read.stock l ≡ false → store_units acts ips l ≡ 0
  none_in_store l own e = sym (store_told l own) ∙ none_seen l read.stock (ap (λ b. b && list_any (λ (r : StockRow). is_lot l r.lot) read.stock) (sym own) ∙ e)

  store_within : (l : LotId) → of_item g l ≡ true → store_units acts ips l ≤ UNITS_MAX
  store_within l e =
      let legal = legal_history first acts history in
      let cells : Cells = λ p m. in_store acts p && is_lot l m in
      let all : store_units acts ips l ≡ holds cells ps = balance-of_item (in_store acts) g (is_lot l) (other l e) ps in
      let house = holds_split ps legal cells (λ p m. in_house p && of_item g m) (record { supplier = λ m. refl; write_off = λ m. refl }) (record { supplier = λ m. refl; write_off = λ m. refl }) (in_the_house l e) in
      omega (arith, all, house, units_within_limit first acts history g)
    where
      other : (l : LotId) → of_item g l ≡ true → (m : LotId) → of_item g m ≡ false → is_lot l m ≡ false
      other l e m f = elim (is_lot l m) as (λ b. is_lot l m ≡ b → b ≡ false) [ true ↦ λ t. let h = of_lot l m e t in cc | false ↦ λ t. refl ] refl

  avail_told : (l : LotId) → of_item g l ≡ true → capped (store_seen read.bins read.stock l) ≡ store_units acts ips l
  avail_told l e = omega (arith, store_told l e, store_within l e)

  -- Which lots

  abbrev from : ℤ
  from = least_expiry first acts g

  usable_told : (k : KnownLot) → is_usable g from read.recalls (show k) ≡ of_item g k.lot && is_shippable first acts k
  usable_told k =
      elim (of_item g k.lot) as (λ b. of_item g k.lot ≡ b → b && may_ship from read.recalls (show k) ≡ b && is_shippable first acts k) [
        | true ↦ λ e.
            let recalled = sym (any_found (λ (r : RecallRow). is_lot k.lot r.lot) read.recalls) ∙ ap is_some (tells.recalls k.lot e) ∙ some_mapped _ (recalling acts k.lot) in
            either_first (not (has_recall read.recalls k.lot)) (not (is_held acts k.lot)) (not (is_expired from k.expiry))
            ∙ (λ i. not (is_held acts k.lot) && not (recalled i) && not (is_expired (least_expiry first acts (same_text_is g k.lot.gtin e i)) k.expiry))
        | false ↦ λ e. refl
      ] refl

  module _ (r : Rank) where
    -- what a lot has under the rank
    abbrev under : KnownLot → ℕ
    under k = if of_item g k.lot && is_shippable first acts k then (if ranks_same r (record { expiry = k.expiry; came = k.came }) then store_units acts ips k.lot else 0) else 0

    abbrev under_known : Option KnownLot → ℕ
    under_known None = 0
    under_known (Some k) = under k

    abbrev weight : LotId → ℕ
    weight l = under_known (lot_known acts l)

    abbrev seen_under : LotRow → ℕ
    seen_under k = if is_usable g from read.recalls k then (if ranks_same r (record { expiry = k.expiry; came = k.came }) then capped (store_seen read.bins read.stock k.lot) else 0) else 0

    shown_under : (k : KnownLot) → seen_under (show k) ≡ under k
    shown_under k =
        ap (λ b. if b then (if ranks_same r (record { expiry = k.expiry; came = k.came }) then capped (store_seen read.bins read.stock k.lot) else 0) else 0) (usable_told k)
        ∙ elim (of_item g k.lot) as (λ b. of_item g k.lot ≡ b → (if b && is_shippable first acts k then (if ranks_same r (record { expiry = k.expiry; came = k.came }) then capped (store_seen read.bins read.stock k.lot) else 0) else 0)
        ≡ (if b && is_shippable first acts k then (if ranks_same r (record { expiry = k.expiry; came = k.came }) then store_units acts ips k.lot else 0) else 0)) [
          | true ↦ λ e. ap (λ n. if is_shippable first acts k then (if ranks_same r (record { expiry = k.expiry; came = k.came }) then n else 0) else 0) (avail_told k.lot e)
          | false ↦ λ e. refl
        ] refl

    row_under : (k : LotRow) → lot_row acts k.lot ≡ Some k → seen_under k ≡ weight k.lot
    row_under k e =
        let m = some_of_mapped show (lot_known acts k.lot) k e in
        let P : LotRow → Type 0 = λ x. seen_under x ≡ weight x.lot in
        subst P m.2 (shown_under m.0 ∙ sym (ap under_known (ap (λ (x : LotRow). lot_known acts x.lot) m.2 ∙ m.1)))

    rows_under : (rows : List LotRow) → AreOwn (λ (r : LotRow). r.lot) (λ l. true) (lot_row acts) rows → total seen_under rows ≡ total (λ (k : LotRow). weight k.lot) rows
    rows_under [] h = refl
    rows_under (k ∷ ks) h = λ i. row_under k h.1 i + rows_under ks h.2 i

    each_known : (ks : List KnownLot) → AllFound same_known (lots acts) ks → total (λ (k : KnownLot). weight k.lot) ks ≡ total under ks
    each_known [] h = refl
    each_known (k ∷ ks) h = λ i. under_known (h.0 i) + each_known ks h.1 i

    -- a lot of which no row is needed has nothing
    none_under : (k : KnownLot) → in_stock g read.stock k.lot ≡ false → under k ≡ 0
    none_under k e =
        elim (of_item g k.lot) as (λ b. of_item g k.lot ≡ b → if_of b ≡ 0) [
          | true ↦ λ own.
              ap (λ n. if is_shippable first acts k then (if ranks_same r (record { expiry = k.expiry; came = k.came }) then n else 0) else 0) (none_in_store k.lot own e)
              ∙ nothing (is_shippable first acts k) (ranks_same r (record { expiry = k.expiry; came = k.came }))
          | false ↦ λ own. refl
        ] refl
      where
        if_of : Bool → ℕ
        if_of b = if b && is_shippable first acts k then (if ranks_same r (record { expiry = k.expiry; came = k.came }) then store_units acts ips k.lot else 0) else 0

        nothing : (a b : Bool) → ◌≡◌ {A = ℕ} (if a then (if b then 0 else 0) else 0) 0
        nothing true true = refl
        nothing true false = refl
        nothing false b = refl

    -- under each rank the rows have what the lots have
    rows_tell_lots : total seen_under read.lots ≡ total under (lots acts)
    rows_tell_lots =
        rows_under read.lots tells.lots.own
        ∙ rows_tell is_lot is_lot_is is_lot_turned (λ (k : KnownLot). k.lot) (λ (k : LotRow). k.lot) show (lots acts) (lots_apart acts) (lots_found acts) weight (in_stock g read.stock) (λ l. true) read.lots
        tells.lots.found tells.lots.own tells.lots.once
        (λ k named e. ap under_known named ∙ none_under k e)
        ∙ each_known (lots acts) (lots_found acts)

  abbrev row_rank : LotRow → Rank
  row_rank k = record { expiry = k.expiry; came = k.came }

  abbrev row_avail : LotRow → ℕ
  row_avail k = capped (store_seen read.bins read.stock k.lot)

  abbrev lot_rank : KnownLot → Rank
  lot_rank k = record { expiry = k.expiry; came = k.came }

  abbrev lot_avail : KnownLot → ℕ
  lot_avail k = store_units acts ips k.lot

  abbrev seen_list : List Lot
  seen_list = map (as_lot row_rank row_avail) (usable_lots g from read.recalls read.lots)

  abbrev told_list : List Lot
  told_list = map (as_lot lot_rank lot_avail) (shippable_lots first acts g)

  split_all : (r : Rank) (ks : List KnownLot) → total (λ (k : KnownLot). if of_item g k.lot then (if is_shippable first acts k then (if ranks_same r (lot_rank k) then lot_avail k else 0) else 0) else 0) ks ≡ total (under r) ks
  split_all r [] = refl
  split_all r (k ∷ ks) = λ i. split_if (of_item g k.lot) (is_shippable first acts k) (if ranks_same r (lot_rank k) then lot_avail k else 0) i + split_all r ks i

  same_at : (r : Rank) → plan_total (λ (x : Lot). if ranks_same r x.rank then x.avail else 0) seen_list ≡ plan_total (λ (x : Lot). if ranks_same r x.rank then x.avail else 0) told_list
  same_at r =
      let f : Lot → ℕ = λ x. if ranks_same r x.rank then x.avail else 0 in
      same_total f seen_list ∙ total_map f (as_lot row_rank row_avail) (usable_lots g from read.recalls read.lots)
      ∙ total_inserted goes_first (λ k. f (as_lot row_rank row_avail k)) [] (filter (is_usable g from read.recalls) read.lots)
      ∙ ap (λ n. 0 + n) (total_kept (λ k. f (as_lot row_rank row_avail k)) (is_usable g from read.recalls) read.lots ∙ rows_tell_lots r ∙ sym (split_all r (lots acts))
      ∙ sym (total_kept (λ (k : KnownLot). if is_shippable first acts k then f (as_lot lot_rank lot_avail k) else 0) (λ k. of_item g k.lot) (lots acts))
      ∙ sym (total_kept (λ (k : KnownLot). f (as_lot lot_rank lot_avail k)) (is_shippable first acts) (lots_of acts g))
      ∙ sym (total_ordered goes_before (λ (k : KnownLot). f (as_lot lot_rank lot_avail k)) (filter (is_shippable first acts) (lots_of acts g)))
      ∙ sym (total_map f (as_lot lot_rank lot_avail) (shippable_lots first acts g)) ∙ sym (same_total f told_list))
      ∙ omega arith

  -- Ranks are apart

  rows_apart : (k m : LotRow) → lot_row acts k.lot ≡ Some k → lot_row acts m.lot ≡ Some m → is_lot k.lot m.lot ≡ false → (k.came == m.came) ≡ false
  rows_apart k m e f other =
      elim (k.came == m.came) as (λ b. (k.came == m.came) ≡ b → b ≡ false) [
        | true ↦ λ t.
            let x = some_of_mapped show (lot_known acts k.lot) k e in
            let y = some_of_mapped show (lot_known acts m.lot) m f in
            let same : x.0.came ≡ y.0.came = ap (λ (z : LotRow). z.came) x.2 ∙ eqb-true k.came m.came t ∙ sym (ap (λ (z : LotRow). z.came) y.2) in
            let one : k.lot ≡ m.lot = receipt_names_lot acts k.lot m.lot x.0 y.0 x.1 y.1 same in
            let yes : is_lot k.lot m.lot ≡ true = ap (is_lot k.lot) (sym one) ∙ is_lot_refl k.lot in
            let no : true ≡ false = sym yes ∙ other in
            cc
        | false ↦ λ t. refl
      ] refl

  row_ordered : (k : LotRow) (rows : List LotRow) → lot_row acts k.lot ≡ Some k → AreOwn (λ (r : LotRow). r.lot) (λ l. true) (lot_row acts) rows
      → list_any (λ (m : LotRow). is_lot k.lot m.lot) rows ≡ false → AllOrdered goes_first k rows
  row_ordered k [] e h f = tt
  row_ordered k (m ∷ ms) e h f =
      let two = or_none (is_lot k.lot m.lot) (list_any (λ (m : LotRow). is_lot k.lot m.lot) ms) f in
      (either_rank (row_rank k) (row_rank m) (rows_apart k m e h.1 two.0), row_ordered k ms e h.2 two.1)

  rows_ordered : (rows : List LotRow) → AreOwn (λ (r : LotRow). r.lot) (λ l. true) (lot_row acts) rows → no_two (λ (k m : LotRow). is_lot k.lot m.lot) rows ≡ true → AreOrdered goes_first rows
  rows_ordered [] h e = tt
  rows_ordered (k ∷ ks) h e =
      let two = and_both (not (list_any (λ (m : LotRow). is_lot k.lot m.lot) ks)) (no_two (λ (k m : LotRow). is_lot k.lot m.lot) ks) e in
      (row_ordered k ks h.1 h.2 (not_true _ two.0), rows_ordered ks h.2 two.1)

  lot_ordered : (k : KnownLot) (ks : List KnownLot) → AllBelow (λ (k : KnownLot). k.came) k.came ks → AllOrdered goes_before k ks
  lot_ordered k [] h = tt
  lot_ordered k (m ∷ ms) h = (either_rank (lot_rank k) (lot_rank m) (unequal_above m.came k.came h.0), lot_ordered k ms h.1)

  lots_ordered : (ks : List KnownLot) → AreFalling (λ (k : KnownLot). k.came) ks → AreOrdered goes_before ks
  lots_ordered [] h = tt
  lots_ordered (k ∷ ks) h = (lot_ordered k ks h.0, lots_ordered ks h.1)

  seen_rises : RisingLots seen_list
  seen_rises =
      lots_rise row_rank row_avail (usable_lots g from read.recalls read.lots)
      (rising_inserted goes_first (λ x y z e f. rank_further (row_rank x) (row_rank y) (row_rank z) e f) (filter (is_usable g from read.recalls) read.lots)
      (ordered_kept goes_first (is_usable g from read.recalls) read.lots (rows_ordered read.lots tells.lots.own tells.lots.once)))

  told_rises : RisingLots told_list
  told_rises =
      lots_rise lot_rank lot_avail (shippable_lots first acts g)
      (rising_ordered goes_before (λ x y z e f. rank_further (lot_rank x) (lot_rank y) (lot_rank z) e f) (filter (is_shippable first acts) (lots_of acts g))
      (ordered_kept goes_before (is_shippable first acts) (lots_of acts g) (ordered_kept goes_before (λ k. of_item g k.lot) (lots acts) (lots_ordered (lots acts) (lots_numbered acts).falling))))

  -- the rows tell the supplies, but for lots of which nothing is there
  pub rows_tell_supplies : offered (supplies_in g from read) ≡ offered (supplies first acts g)
  rows_tell_supplies =
      ap offered (sym (map_twice out (as_lot row_rank row_avail) (usable_lots g from read.recalls read.lots))) ∙ offered_out seen_list
      ∙ ap (map out) (same_non_zero ranks_before ranks_same (λ (x : Lot). x.rank) (λ (x : Lot). x.avail) rank_order (λ x y e f. (λ i. record { rank = e i; avail = f i })) seen_list told_list seen_rises told_rises same_at)
      ∙ sym (offered_out told_list) ∙ ap offered (map_twice out (as_lot lot_rank lot_avail) (shippable_lots first acts g))

  -- All supplies together

  at_most_one : (q : ℕ) (l : LotId) (rows : List LotRow) → no_two (λ (k m : LotRow). is_lot k.lot m.lot) rows ≡ true → total (λ (k : LotRow). if is_lot k.lot l then q else 0) rows ≤ q
  at_most_one q l [] e = omega arith
  at_most_one q l (k ∷ ks) e =
      let two = and_both (not (list_any (λ (m : LotRow). is_lot k.lot m.lot) ks)) (no_two (λ (k m : LotRow). is_lot k.lot m.lot) ks) e in
      elim (is_lot k.lot l) as (λ b. is_lot k.lot l ≡ b → (if b then q else 0) + total (λ (k : LotRow). if is_lot k.lot l then q else 0) ks ≤ q) [
        | true ↦ λ t.
            let own : k.lot ≡ l = is_lot_is k.lot l t in
            let none : list_any (λ (m : LotRow). is_lot m.lot l) ks ≡ false = any_turned ks ∙ ap (λ (x : LotId). list_any (λ (m : LotRow). is_lot x m.lot) ks) (sym own) ∙ not_true _ two.0 in
            omega (arith, none_picked (λ (m : LotRow). is_lot m.lot l) (λ m. q) ks none)
        | false ↦ λ t. omega (arith, at_most_one q l ks two.1)
      ] refl
    where
      any_turned : (ks : List LotRow) → list_any (λ (m : LotRow). is_lot m.lot l) ks ≡ list_any (λ (m : LotRow). is_lot l m.lot) ks
      any_turned [] = refl
      any_turned (m ∷ ms) = λ i. is_lot_turned m.lot l i || any_turned ms i

  abbrev own_qty : StockRow → ℕ
  own_qty r = if of_item g r.lot then r.qty else 0

  store_by_rows : (k : LotRow) → of_item g k.lot ≡ true → (rows : List StockRow) → store_seen read.bins rows k.lot ≤ total (λ (r : StockRow). if is_lot k.lot r.lot then own_qty r else 0) rows
  store_by_rows k e [] = omega arith
  store_by_rows k e (r ∷ rs) = omega (arith, one, store_by_rows k e rs)
    where
      at_most_all : (b : Bool) (q : ℕ) → (if b then q else 0) ≤ q
      at_most_all true q = omega arith
      at_most_all false q = omega arith

      one : (if is_lot k.lot r.lot && is_store_found (find (λ (b : BinRow). same_text r.bin b.name) read.bins) then r.qty else 0) ≤ (if is_lot k.lot r.lot then own_qty r else 0)
      one = elim (is_lot k.lot r.lot) as (λ b. is_lot k.lot r.lot ≡ b → (if b && is_store_found (find (λ (b : BinRow). same_text r.bin b.name) read.bins) then r.qty else 0) ≤ (if b then own_qty r else 0)) [
        | true ↦ λ t.
            let own : own_qty r ≡ r.qty = ap (λ b. if b then r.qty else 0) (of_lot k.lot r.lot e t) in
            omega (arith, own, at_most_all (is_store_found (find (λ (b : BinRow). same_text r.bin b.name) read.bins)) r.qty)
        | false ↦ λ t. omega arith
      ] refl

  avail_by_rows : (ks : List LotRow) → total (λ (k : LotRow). if is_usable g from read.recalls k then row_avail k else 0) ks ≤ total (λ (k : LotRow). total (λ (r : StockRow). if is_lot k.lot r.lot then own_qty r else 0) read.stock) ks
  avail_by_rows [] = omega arith
  avail_by_rows (k ∷ ks) = omega (arith, one, avail_by_rows ks)
    where
      one : (if is_usable g from read.recalls k then row_avail k else 0) ≤ total (λ (r : StockRow). if is_lot k.lot r.lot then own_qty r else 0) read.stock
      one = elim (of_item g k.lot) as (λ b. of_item g k.lot ≡ b → (if b && may_ship from read.recalls k then row_avail k else 0) ≤ total (λ (r : StockRow). if is_lot k.lot r.lot then own_qty r else 0) read.stock) [
        | true ↦ λ e. omega (arith, less (may_ship from read.recalls k) (row_avail k), store_by_rows k e read.stock)
        | false ↦ λ e. omega arith
      ] refl
        where
          less : (b : Bool) (q : ℕ) → (if b then q else 0) ≤ q
          less true q = omega arith
          less false q = omega arith

  each_row_once : (rows : List StockRow) → total (λ (r : StockRow). total (λ (k : LotRow). if is_lot k.lot r.lot then own_qty r else 0) read.lots) rows ≤ total own_qty rows
  each_row_once [] = omega arith
  each_row_once (r ∷ rs) = omega (arith, at_most_one (own_qty r) r.lot read.lots tells.lots.once, each_row_once rs)

  own_within : total own_qty read.stock ≤ UNITS_MAX
  own_within =
      let legal = legal_history first acts history in
      let whole = stock_holds first acts legal (λ m b. of_item g m) (λ k. of_item g k.0) (λ k. true) read.stock tells.stock (λ m b e. e) in
      let house = holds_split ps legal (bin_cells (λ m b. of_item g m)) (λ p m. in_house p && of_item g m) (record { supplier = λ m. refl; write_off = λ m. refl }) (record { supplier = λ m. refl; write_off = λ m. refl }) in_bins in
      omega (arith, whole, house, units_within_limit first acts history g)
    where
      in_bins : (p : Place) (m : LotId) → bin_cells (λ m b. of_item g m) p m ≡ true → in_house p && of_item g m ≡ true
      in_bins (InBin b) m e = e
      in_bins Supplier m e = e
      in_bins WriteOff m e = e
      in_bins (Stage o) m e = let h : false ≡ true = e in cc
      in_bins (Shipped n o) m e = e

  -- the supplies seen are within the limit of a list's sum
  pub supplies_within_limit : supply_total (supplies_in g from read) ≤ UNITS_MAX
  supplies_within_limit =
      omega (
        arith,
        same_total (λ (x : Supply). x.avail) (supplies_in g from read),
        total_map (λ (x : Supply). x.avail) (supply_seen read.bins read.stock) (usable_lots g from read.recalls read.lots),
        total_inserted goes_first row_avail [] (filter (is_usable g from read.recalls) read.lots),
        total_kept row_avail (is_usable g from read.recalls) read.lots,
        avail_by_rows read.lots,
        totals_swapped (λ (k : LotRow) (r : StockRow). if is_lot k.lot r.lot then own_qty r else 0) read.lots read.stock,
        each_row_once read.stock,
        own_within,
      )
