-- An act that posts once at most, and makes nothing known but of lots: the rows put and dropped under the keys that its
-- posting names, with the item planned anew, are the change of the act.
use Rattle.rules.proofs.Words.{◌≡◌, ℕ, ◌≤◌, Bool, true, false, ◌&&◌, List, [], ◌∷◌, ◌++◌, refl, ap, sym, subst, ◌∙◌, arith, ◌==◌, ◌||◌, if◌then◌else◌, length, ℤ, Option, Some, None, find, flat_map, list_any, same_text, LotId, UNITS_MAX, Command, BinRow, LotRow, StockRow, OrderRow, LineRow, StagedRow, CardRow, Act, next_number, Place, Supplier, InBin, Stage, Shipped, WriteOff, Posting, is_lot, of_item, has_line, least_expiry, posting, postings, postings_of, in_bin, staged_of_lot, is_open, card_lines, reply, IsHistory, tables_of, meta_row, if_any, bin_row, lot_row, stock_row, order_row, line_row, staged_row, is_touched, AreRows, LotBin, OrderLot, same_cell, same_line, same_share, no_two, IsSlice, applied, tables_but_repeats, changed, plans, names_bin, names_lot, in_bins, on_stages, earliest_seen, is_share_of, Slice, Change, Replanned, PostingTold, PlaceTold, Facts, Shelf, bins, stages, bin_at, stage_at, taken, brought, rows_posted, keys_posted, rows_put, rows_gone, place_of, listed, keys_of, told_once, stock_after, staged_after, replanned_by, changes_by, and_both, or_first, same_text_refl, same_text_turned, same_text_is, is_lot_is, room_for_acts, Legal, holds, legal_history, Rows, rows_after_posting}
use Rattle.rules.proofs.rows.AfterRows.{loosened}
use Rattle.rules.proofs.rows.DemandsTold.{TellsDemands}
use Rattle.rules.proofs.rows.SuppliesTold.{TellsSupplies, in_stock}
use Rattle.rules.proofs.rows.SliceDemands.{slice_tells_demands}
use Rattle.rules.proofs.rows.SliceSupplies.{slice_tells_supplies, slice_lots, is_wanted}
use Rattle.rules.proofs.rows.LotUnits.{bin_within_limit}
use Rattle.rules.proofs.rows.StageUnits.{stage_within_limit}
use Rattle.rules.proofs.rows.Planned.{no_shipment, asked_if_planned}
use Rattle.rules.proofs.rows.DaysAsked.{earliest_told}
use Rattle.rules.proofs.rows.TableSteps.{AreNamed, names_changed, reserved_changed}
use Rattle.rules.proofs.rows.Following.{NamesNeeded, AreWithin, Tells, AllNeeded, AllWant, any_posted, keys_needed, keys_once, put_once, are_bins, are_stages, bin_cell, stage_cell, stock_follows, stages_follow, bins_stay, stages_stay}
use Rattle.rules.proofs.rows.Changing.{changed_follows}
use Rattle.rules.proofs.rows.PostedRows.{Each, each_once, StaysHome, is_home, MakesNothingKnown, item_at, least_at, bin_at as bin_row_at, PutsLots, recall_at, line_known, open_at, order_at, urgent_at, line_at, shipment_at, shipline_at, card_at, earliest_at}
use Rattle.rules.proofs.rows.replanned.OneItem.{TouchesOnly, replanned, replanned_once}
use Rattle.rules.proofs.decided.Decisions.{IsChange, meta_same}

-- One posting

pub told_is : (n : ℕ) (l : LotId) (from to : PlaceTold) (q : ℕ) → listed n (told_once l from to q) ≡ posting n l (place_of from) (place_of to) q
told_is n l from to q = elim (q == 0) as (λ t. listed n (if t then None else Some (record { lot = l; from = from; to = to; qty = q })) ≡ (if t then [] else record { act = n; lot = l; from = place_of from; to = place_of to; qty = q } ∷ [])) [ true ↦ refl | false ↦ refl ]

-- by whatever number the act has
in_turn : {K R : Type 0} (shelf : Shelf K R) (n : ℕ) (p : Option PostingTold) (rows : List R) → rows_posted shelf (listed 0 p) rows ≡ rows_posted shelf (listed n p) rows
in_turn shelf n None rows = refl
in_turn shelf n (Some p) rows = refl

keys_turned : {K R : Type 0} (shelf : Shelf K R) (n : ℕ) (p : Option PostingTold) → keys_of shelf p ≡ keys_posted shelf (listed n p) []
keys_turned shelf n None = refl
keys_turned shelf n (Some p) = refl

-- units that go neither on to a stage nor off it leave the staged rows as they were
pub stays_staged : (l : LotId) (from to : PlaceTold) (q : ℕ) (rows : List StagedRow) → stage_at (place_of from) l ≡ None → stage_at (place_of to) l ≡ None → rows_posted stages (listed 0 (told_once l from to q)) rows ≡ rows
stays_staged l from to q rows e f = elim (q == 0) as (λ t. rows_posted stages (listed 0 (if t then None else Some (record { lot = l; from = from; to = to; qty = q }))) rows ≡ rows) [
  | true ↦ refl
  | false ↦ λ i. brought stages (f i) q (taken stages (e i) q rows)
]

pub within_once : {K : Type 0} (held : List Posting → K → ℕ) (n : ℕ) (l : LotId) (from to : Place) (q : ℕ) (before : List Posting) → ((k : K) → held (posting n l from to q ++ before) k ≤ UNITS_MAX) → AreWithin held (posting n l from to q) before
within_once {K = K} held n l from to q before h =
    elim (q == 0) as (λ t. ((k : K) → held ((if t then [] else record { act = n; lot = l; from = from; to = to; qty = q } ∷ []) ++ before) k ≤ UNITS_MAX) → AreWithin held (if t then [] else record { act = n; lot = l; from = from; to = to; qty = q } ∷ []) before) [
      | true ↦ λ g. tt
      | false ↦ λ g. ((λ k. omega (arith, g k)), tt)
    ] h

-- what the command names

abbrev pub names_place : Command → Place → Bool
names_place command (InBin b) = names_bin command b
names_place command _ = true

-- a posting of the item, of a lot and of bins that the command names
pub record IsOwn (command : Command) (g : List ℕ) (p : Posting) : Type 0 where
  pub of_own : of_item g p.lot ≡ true
  pub lot : names_lot command p.lot ≡ true
  pub from_named : names_place command p.from ≡ true
  pub to_named : names_place command p.to ≡ true

-- Keys and rows

bin_needed : (g : List ℕ) (p : Place) (l : LotId) → of_item g l ≡ true → (k : LotBin) → bin_at p l ≡ Some k → of_item g k.0 ≡ true
bin_needed g (InBin b) l own k e = let s : (l, b) ≡ k = cc in ap (λ (x : LotBin). of_item g x.0) (sym s) ∙ own
bin_needed g Supplier l own k e = cc
bin_needed g WriteOff l own k e = cc
bin_needed g (Stage o) l own k e = cc
bin_needed g (Shipped n o) l own k e = cc

stage_needed : (g : List ℕ) (p : Place) (l : LotId) → of_item g l ≡ true → (k : OrderLot) → stage_at p l ≡ Some k → of_item g k.1 ≡ true
stage_needed g (Stage o) l own k e = let s : (o, l) ≡ k = cc in ap (λ (x : OrderLot). of_item g x.1) (sym s) ∙ own
stage_needed g Supplier l own k e = cc
stage_needed g WriteOff l own k e = cc
stage_needed g (InBin b) l own k e = cc
stage_needed g (Shipped n o) l own k e = cc

bins_needed : (command : Command) (g : List ℕ) (ps : List Posting) → Each (IsOwn command g) ps → NamesNeeded bins (λ k. of_item g k.0) ps
bins_needed command g [] own = tt
bins_needed command g (p ∷ ps) own = (bin_needed g p.from p.lot own.0.of_own, bin_needed g p.to p.lot own.0.of_own, bins_needed command g ps own.1)

stages_needed : (command : Command) (g : List ℕ) (ps : List Posting) → Each (IsOwn command g) ps → NamesNeeded stages (λ k. of_item g k.1) ps
stages_needed command g [] own = tt
stages_needed command g (p ∷ ps) own = (stage_needed g p.from p.lot own.0.of_own, stage_needed g p.to p.lot own.0.of_own, stages_needed command g ps own.1)

bin_wanted : (command : Command) (b : List ℕ) (p : Place) (l : LotId) → names_place command p ≡ true → (k : LotBin) → bin_at p l ≡ Some k → (q : ℕ) → same_text b k.1 ≡ true → names_bin command b ≡ true
bin_wanted command b (InBin c) l named k e q t = let s : (l, c) ≡ k = cc in ap (λ (x : List ℕ). names_bin command x) (same_text_is b k.1 t) ∙ ap (λ (x : LotBin). names_bin command x.1) (sym s) ∙ named
bin_wanted command b Supplier l named k e q t = cc
bin_wanted command b WriteOff l named k e q t = cc
bin_wanted command b (Stage o) l named k e q t = cc
bin_wanted command b (Shipped n o) l named k e q t = cc

lot_wanted : (command : Command) (m : LotId) (p : Place) (l : LotId) → names_lot command l ≡ true → (k : LotBin) → bin_at p l ≡ Some k → (q : ℕ) → is_lot m k.0 ≡ true → names_lot command m ≡ true
lot_wanted command m (InBin c) l named k e q t = let s : (l, c) ≡ k = cc in ap (λ (x : LotId). names_lot command x) (is_lot_is m k.0 t) ∙ ap (λ (x : LotBin). names_lot command x.0) (sym s) ∙ named
lot_wanted command m Supplier l named k e q t = cc
lot_wanted command m WriteOff l named k e q t = cc
lot_wanted command m (Stage o) l named k e q t = cc
lot_wanted command m (Shipped n o) l named k e q t = cc

bins_wanted : (command : Command) (g : List ℕ) (b : List ℕ) (ps : List Posting) → Each (IsOwn command g) ps → AllWant bins are_bins (λ k. true) (λ (r : StockRow). same_text b r.bin) (names_bin command b) ps
bins_wanted command g b [] own = tt
bins_wanted command g b (p ∷ ps) own = (bin_wanted command b p.from p.lot own.0.from_named, bin_wanted command b p.to p.lot own.0.to_named, bins_wanted command g b ps own.1)

lots_wanted : (command : Command) (g : List ℕ) (m : LotId) (ps : List Posting) → Each (IsOwn command g) ps → AllWant bins are_bins (λ k. true) (λ (r : StockRow). is_lot m r.lot) (names_lot command m) ps
lots_wanted command g m [] own = tt
lots_wanted command g m (p ∷ ps) own = (lot_wanted command m p.from p.lot own.0.lot, lot_wanted command m p.to p.lot own.0.lot, lots_wanted command g m ps own.1)

-- What the act posts, as the code has it
pub record IsPosted (first : ℤ) (acts : List Act) (act : Act) (told : Option PostingTold) : Type 0 where
  pub posts : listed (next_number acts) told ≡ postings_of first act acts
  pub home : Each StaysHome (postings_of first act acts)
  pub bins_within : AreWithin (λ ps k. holds (bin_cell k) ps) (postings_of first act acts) (postings first acts)
  pub stages_within : AreWithin (λ ps k. holds (stage_cell k) ps) (postings_of first act acts) (postings first acts)
  pub known : MakesNothingKnown first act acts

-- an act of one posting
pub posted_once : (first : ℤ) (acts : List Act) (act : Act) (next : IsHistory first (act ∷ acts)) (l : LotId) (from to : PlaceTold) (q : ℕ)
    → postings_of first act acts ≡ posting (next_number acts) l (place_of from) (place_of to) q
    → is_home (place_of from) ≡ true → is_home (place_of to) ≡ true → MakesNothingKnown first act acts
    → IsPosted first acts act (told_once l from to q)
posted_once first acts act next l from to q posts from_home to_home known = record {
  posts = told_is (next_number acts) l from to q ∙ sym posts;
  home = subst (Each StaysHome) (sym posts) (each_once StaysHome (next_number acts) l (place_of from) (place_of to) q (from_home, to_home));
  bins_within = subst (λ ps. AreWithin (λ qs k. holds (bin_cell k) qs) ps (postings first acts)) (sym posts)
      (within_once (λ qs (k : LotBin). holds (bin_cell k) qs) (next_number acts) l (place_of from) (place_of to) q (postings first acts)
      (λ k. subst (λ ps. holds (bin_cell k) (ps ++ postings first acts) ≤ UNITS_MAX) posts (bin_within_limit first (act ∷ acts) next k.0.gtin k.0 (same_text_refl k.0.gtin) k.1)));
  stages_within = subst (λ ps. AreWithin (λ qs k. holds (stage_cell k) qs) ps (postings first acts)) (sym posts)
      (within_once (λ qs (k : OrderLot). holds (stage_cell k) qs) (next_number acts) l (place_of from) (place_of to) q (postings first acts)
      (λ k. subst (λ ps. holds (stage_cell k) (ps ++ postings first acts) ≤ UNITS_MAX) posts (stage_within_limit first (act ∷ acts) next k.0 k.1)));
  known = known;
}

-- What the act makes known beside its posting
pub record AreFacts (first : ℤ) (acts : List Act) (act : Act) (facts : Facts) : Type 0 where
  pub lots : PutsLots acts act facts.lots
  pub cards : flat_map (λ p. card_lines first act acts p p.from p.to) (postings_of first act acts) ≡ facts.cards
  pub cards_once : no_two (λ (q r : CardRow). is_lot q.lot r.lot && (q.act == r.act)) facts.cards ≡ true
  pub text : facts.text ≡ reply first act acts

-- a posting between places that have no card line
pub no_line : (first : ℤ) (act : Act) (acts : List Act) (n : ℕ) (l : LotId) (from to : Place) (q : ℕ) → card_lines first act acts (record { act = n; lot = l; from = from; to = to; qty = q }) from to ≡ []
    → flat_map (λ p. card_lines first act acts p p.from p.to) (posting n l from to q) ≡ []
no_line first act acts n l from to q none = elim (q == 0) as (λ t. flat_map (λ p. card_lines first act acts p p.from p.to) (if t then [] else record { act = n; lot = l; from = from; to = to; qty = q } ∷ []) ≡ []) [ true ↦ refl | false ↦ ap (λ (xs : List CardRow). xs ++ []) none ]

module _ (first : ℤ) (acts : List Act) (act : Act) (s : Slice) (slice : IsSlice first act acts (tables_of first acts) s) (next : IsHistory first (act ∷ acts))
    (told : Option PostingTold) (is : IsPosted first acts act told)
    (needed_bins : LotBin → Bool) (bins_named : NamesNeeded bins needed_bins (postings_of first act acts)) (stock_before : Tells bins are_bins needed_bins (λ k. in_bin first acts k.1 k.0) s.rows.stock)
    (staged : List StagedRow) (unstaged : staged_after s told ≡ staged) (needed_stages : OrderLot → Bool) (stages_named : NamesNeeded stages needed_stages (postings_of first act acts)) (staged_before : Tells stages are_stages needed_stages (λ k. staged_of_lot first acts k.0 k.1) s.rows.staged) where
  abbrev after : List Act
  after = act ∷ acts

  abbrev ps : List Posting
  ps = postings_of first act acts

  legal : Legal (ps ++ postings first acts)
  legal = legal_history first after next

  -- Rows of units after the act

  pub stock_is : stock_after s told ≡ rows_posted bins ps s.rows.stock
  stock_is = in_turn bins (next_number acts) told s.rows.stock ∙ ap (λ qs. rows_posted bins qs s.rows.stock) is.posts

  staged_is : staged ≡ rows_posted stages ps s.rows.staged
  staged_is = sym unstaged ∙ in_turn stages (next_number acts) told s.rows.staged ∙ ap (λ qs. rows_posted stages qs s.rows.staged) is.posts

  abbrev bins_are : (LotBin → ℕ) → List StockRow → Type 0
  bins_are = Tells bins are_bins needed_bins

  abbrev stages_are : (OrderLot → ℕ) → List StagedRow → Type 0
  stages_are = Tells stages are_stages needed_stages

  pub stock_are : bins_are (λ k. in_bin first after k.1 k.0) (stock_after s told)
  stock_are = subst (bins_are (λ k. in_bin first after k.1 k.0)) (sym stock_is)
      (stock_follows ps (postings first acts) legal needed_bins bins_named is.bins_within s.rows.stock stock_before)

  pub staged_are : stages_are (λ k. staged_of_lot first after k.0 k.1) staged
  staged_are = subst (stages_are (λ k. staged_of_lot first after k.0 k.1)) (sym staged_is)
      (stages_follow ps (postings first acts) legal needed_stages stages_named is.stages_within s.rows.staged staged_before)

  bin_keys : keys_of bins told ≡ keys_posted bins ps []
  bin_keys = keys_turned bins (next_number acts) told ∙ ap (λ qs. keys_posted bins qs []) is.posts

  stage_keys : keys_of stages told ≡ keys_posted stages ps []
  stage_keys = keys_turned stages (next_number acts) told ∙ ap (λ qs. keys_posted stages qs []) is.posts

  stock_at : (l : LotId) (b : List ℕ) → changed (λ r. is_lot l r.lot && same_text b r.bin) (rows_put bins (keys_of bins told) (stock_after s told)) (rows_gone bins (keys_of bins told) s.rows.stock (stock_after s told)) (stock_row first acts l b) ≡ stock_row first after l b
  stock_at l b =
      changed_follows bins are_bins needed_bins (λ k. in_bin first acts k.1 k.0) (λ k. in_bin first after k.1 k.0) s.rows.stock (stock_after s told) stock_before stock_are (keys_of bins told)
      (subst (AllNeeded bins are_bins needed_bins) (sym bin_keys) (keys_needed bins are_bins needed_bins ps bins_named))
      (λ m e. ap (λ q. if_any q (record { lot = m.0; bin = m.1; qty = q })) (sym (bins_stay ps (postings first acts) legal m (ap (λ ks. list_any (same_cell m) ks) (sym bin_keys) ∙ e)))) (l, b)

  staged_at : (o : List ℕ) (l : LotId) → changed (λ r. same_text o r.order && is_lot l r.lot) (rows_put stages (keys_of stages told) staged) (rows_gone stages (keys_of stages told) s.rows.staged staged) (staged_row first acts o l) ≡ staged_row first after o l
  staged_at o l =
      changed_follows stages are_stages needed_stages (λ k. staged_of_lot first acts k.0 k.1) (λ k. staged_of_lot first after k.0 k.1) s.rows.staged staged staged_before staged_are (keys_of stages told)
      (subst (AllNeeded stages are_stages needed_stages) (sym stage_keys) (keys_needed stages are_stages needed_stages ps stages_named))
      (λ m e. ap (λ q. if_any q (record { order = m.0; lot = m.1; qty = q })) (sym (stages_stay ps (postings first acts) legal m (ap (λ ks. list_any (same_share m) ks) (sym stage_keys) ∙ e)))) (o, l)

  stock_once : no_two (λ (x y : StockRow). is_lot x.lot y.lot && same_text x.bin y.bin) (rows_put bins (keys_of bins told) (stock_after s told)) ≡ true
  stock_once = put_once bins are_bins (λ k. true) (keys_of bins told) (stock_after s told) (ap (no_two same_cell) bin_keys ∙ keys_once bins are_bins (λ k. true) ps)

  staged_once : no_two (λ (x y : StagedRow). same_text x.order y.order && is_lot x.lot y.lot) (rows_put stages (keys_of stages told) staged) ≡ true
  staged_once = put_once stages are_stages (λ k. true) (keys_of stages told) staged (ap (no_two same_share) stage_keys ∙ keys_once stages are_stages (λ k. true) ps)

  -- The change, with these reserved rows and facts

  module _ (reserved : Replanned) (named : AreNamed first act acts reserved.put reserved.dropped) (facts : Facts) (are : AreFacts first acts act facts) where
    abbrev change : Change
    change = changes_by s told (stock_after s told) staged reserved facts

    posted_step : change.meta ≡ meta_row first after → applied change (tables_of first acts) ≡ tables_but_repeats first act acts
    unfolding applied tables_of
    posted_step meta =
        λ i. record (applied change (tables_of first acts)) {
          meta = Some (meta i);
          item = λ g. item_at first acts act is.known is.home g i;
          least = λ g. least_at first acts act is.known is.home g i;
          bin = λ b. bin_row_at first acts act is.known is.home b i;
          lot = λ l. are.lots.lots l i;
          recall = λ l. recall_at first acts act is.known is.home l i;
          stock = λ l b. stock_at l b i;
          order = λ o. order_at first acts act is.known is.home o i;
          urgent = λ o. urgent_at first acts act is.known is.home o i;
          line = λ o g. line_at first acts act is.known is.home o g i;
          staged = λ o l. staged_at o l i;
          reserved = λ o l. reserved_changed first act acts reserved.put reserved.dropped named o l i;
          shipment = λ n. shipment_at first acts act is.known is.home n i;
          shipline = λ n l. shipline_at first acts act is.known is.home n l i;
          card = λ l n. card_at first acts act is.known is.home facts.cards are.cards l n i;
        }

    pub posted_changed : no_two is_share_of reserved.put ≡ true → IsChange first act acts change
    posted_changed reserved_once = record {
      applies = posted_step (meta_same first acts act s slice (room_for_acts first acts act.command next.1.passes) is.known.day (ap (λ xs. length xs) is.known.shipments));
      text = are.text;
      once = λ i. are.lots.once i && (stock_once i && (staged_once i && (reserved_once i && (are.cards_once i && true))));
      named = names_changed first act acts change named;
    }

-- Where the item of the posting is planned anew
pub record IsPlanned (first : ℤ) (acts : List Act) (act : Act) (g : List ℕ) : Type 0 where
  pub own : Each (IsOwn act.command g) (postings_of first act acts)
  pub planned : plans act.command ≡ true
  pub touches : (h : List ℕ) → is_touched first act acts h ≡ same_text h g

module _ (first : ℤ) (acts : List Act) (act : Act) (s : Slice) (slice : IsSlice first act acts (tables_of first acts) s) (next : IsHistory first (act ∷ acts))
    (told : Option PostingTold) (posted : IsPosted first acts act told) (g : List ℕ) (is : IsPlanned first acts act g) (staged : List StagedRow) (unstaged : staged_after s told ≡ staged) where
  abbrev later : List Act
  later = act ∷ acts

  abbrev news : List Posting
  news = postings_of first act acts

  touched : is_touched first act acts g ≡ true
  touched = is.touches g ∙ same_text_refl g

  demands_before : TellsDemands first acts g s.rows
  demands_before = slice_tells_demands first acts act s slice is.planned g touched

  supplies_before : TellsSupplies first acts g s.rows
  supplies_before = slice_tells_supplies first acts act s slice is.planned g touched

  pub stock_then : Tells bins are_bins (λ k. of_item g k.0) (λ k. in_bin first later k.1 k.0) (stock_after s told)
  stock_then = stock_are first acts act s slice next told posted (λ k. of_item g k.0) (bins_needed act.command g news is.own) supplies_before.stock staged unstaged (λ k. of_item g k.1) (stages_needed act.command g news is.own) demands_before.staged

  pub staged_then : Tells stages are_stages (λ k. of_item g k.1) (λ k. staged_of_lot first later k.0 k.1) staged
  staged_then = staged_are first acts act s slice next told posted (λ k. of_item g k.0) (bins_needed act.command g news is.own) supplies_before.stock staged unstaged (λ k. of_item g k.1) (stages_needed act.command g news is.own) demands_before.staged

  stock_told : stock_after s told ≡ rows_posted bins news s.rows.stock
  stock_told = stock_is first acts act s slice next told posted (λ k. of_item g k.0) (bins_needed act.command g news is.own) supplies_before.stock staged unstaged (λ k. of_item g k.1) (stages_needed act.command g news is.own) demands_before.staged

  -- The rows after the act tell the demands and supplies of the item, these being its lot rows

  abbrev rows_posted_to : List LotRow → Rows
  rows_posted_to lots = rows_after_posting s lots (stock_after s told) staged

  demands_after : (lots : List LotRow) → TellsDemands first later g (rows_posted_to lots)
  demands_after lots =
      let before = demands_before in
      let wanted : (o : List ℕ) → is_open first later o && has_line later o g ≡ true → is_open first acts o && has_line acts o g ≡ true = λ o e. (λ i. open_at first acts act posted.known posted.home o i && line_known first acts act posted.known posted.home o g i) ∙ e in
      record {
        orders = loosened same_text (λ (x : OrderRow). x.order) (λ o. is_open first acts o && has_line acts o g) (λ o. is_open first later o && has_line later o g) (λ o. true) (λ o. true) (order_row first acts) (order_row first later) s.rows.orders
            wanted (λ o e. refl) (order_at first acts act posted.known posted.home) before.orders;
        lines = loosened same_line (λ (x : LineRow). (x.order, x.gtin)) (λ k. is_open first acts k.0 && same_text g k.1) (λ k. is_open first later k.0 && same_text g k.1) (λ k. true) (λ k. true) (λ k. line_row first acts k.0 k.1) (λ k. line_row first later k.0 k.1) s.rows.lines
            (λ k e. ap (λ t. t && same_text g k.1) (open_at first acts act posted.known posted.home k.0) ∙ e) (λ k e. refl) (λ k. line_at first acts act posted.known posted.home k.0 k.1) before.lines;
        staged = staged_then;
        urgents = λ o e. before.urgents o (wanted o e) ∙ urgent_at first acts act posted.known posted.home o;
      }

  bins_after : (b : List ℕ) → list_any (λ (r : StockRow). same_text b r.bin) (stock_after s told) ≡ true → find (λ (x : BinRow). same_text b x.name) s.rows.bins ≡ bin_row later b
  unfolding tables_of
  bins_after b e =
      slice.bins.found b (asked_if_planned act.command is.planned (names_bin act.command b) (list_any (λ (r : StockRow). same_text b r.bin) s.rows.stock)
      (any_posted bins are_bins (λ k. true) (λ (r : StockRow). same_text b r.bin) (names_bin act.command b) news s.rows.stock (bins_wanted act.command g b news is.own) (ap (list_any (λ (r : StockRow). same_text b r.bin)) (sym stock_told) ∙ e)))
      ∙ bin_row_at first acts act posted.known posted.home b

  only : TouchesOnly first acts act s slice is.planned next g
  only = record { own = touched; others = λ h e. is.touches h ∙ same_text_turned h g ∙ e }

  from : earliest_seen s.meta.day s.rows.least g ≡ least_expiry first later g
  from = earliest_told first acts act s slice (no_shipment act.command is.planned) next.0 g touched ∙ earliest_at first acts act posted.known posted.home g

  -- The item planned anew, these being the lot rows after the act

  abbrev pub LotsAfter : List LotRow → Type 0
  LotsAfter = AreRows is_lot (λ (x : LotRow). x.lot) (is_wanted act.command s.rows g) (λ m. true) (lot_row later)

  pub lots_stay : PutsLots acts act [] → LotsAfter s.rows.lots
  lots_stay none = loosened is_lot (λ (x : LotRow). x.lot) (is_wanted act.command s.rows g) (is_wanted act.command s.rows g) (λ m. true) (λ m. true) (lot_row acts) (lot_row later) s.rows.lots (λ m e. e) (λ m e. refl) none.lots (slice_lots first acts act s slice is.planned g touched)

  still_wanted : (m : LotId) → in_stock g (stock_after s told) m ≡ true → is_wanted act.command s.rows g m ≡ true
  still_wanted m e =
      let two = and_both (of_item g m) (list_any (λ (r : StockRow). is_lot m r.lot) (stock_after s told)) e in
      let few = any_posted bins are_bins (λ k. true) (λ (r : StockRow). is_lot m r.lot) (names_lot act.command m) news s.rows.stock (lots_wanted act.command g m news is.own) (ap (list_any (λ (r : StockRow). is_lot m r.lot)) (sym stock_told) ∙ two.1) in
      λ i. two.0 i && or_first (names_lot act.command m || in_bins s.rows m) (on_stages s.rows m) few i

  module _ (lots : List LotRow) (lots_are : LotsAfter lots) where
    supplies_after : TellsSupplies first later g (rows_posted_to lots)
    supplies_after = record {
      lots = loosened is_lot (λ (x : LotRow). x.lot) (is_wanted act.command s.rows g) (in_stock g (stock_after s told)) (λ m. true) (λ m. true) (lot_row later) (lot_row later) lots still_wanted (λ m e. e) (λ m. refl) lots_are;
      recalls = λ m e. supplies_before.recalls m e ∙ recall_at first acts act posted.known posted.home m;
      stock = stock_then;
      bins = bins_after;
    }

    abbrev again : Replanned
    again = replanned_by s g lots (stock_after s told) staged

    are_named : AreNamed first act acts again.put again.dropped
    are_named = replanned first acts act s slice is.planned next g only s.meta.day (rows_posted_to lots) from (demands_after lots) supplies_after

    reserved_once : no_two is_share_of again.put ≡ true
    reserved_once = replanned_once first acts act s slice is.planned next g only s.meta.day (rows_posted_to lots) from (demands_after lots) supplies_after

    pub planned_changed : (facts : Facts) → AreFacts first acts act facts → IsChange first act acts (changes_by s told (stock_after s told) staged again facts)
    planned_changed facts are =
        posted_changed first acts act s slice next told posted (λ k. of_item g k.0) (bins_needed act.command g news is.own) supplies_before.stock staged unstaged (λ k. of_item g k.1) (stages_needed act.command g news is.own) demands_before.staged
        again are_named facts are reserved_once
