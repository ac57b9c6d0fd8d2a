-- Rows that tell the balances before postings tell those after them: of any shelf, then of bins and of stages.
use Rattle.rules.proofs.rows.AfterRows.{loosened, rows_after}
use Rattle.rules.proofs.rows.WithoutRows.{rows_without}
use Rattle.rules.proofs.rows.SameKeys.{same_cell_is, same_cell_refl, same_cell_turned, same_share_is, same_share_refl, same_share_turned}
use Rattle.rules.proofs.Words.{◌≡◌, ℕ, ◌+◌, ◌-◌, ◌≤◌, Bool, true, false, ◌&&◌, not, List, [], ◌∷◌, ◌++◌, refl, ap, sym, subst, ◌∙◌, arith, ◌==◌, ◌||◌, if◌then◌else◌, Option, Some, None, filter, eqb-true, list_any, LotId, StockRow, StagedRow, Place, Supplier, InBin, Stage, Shipped, WriteOff, Posting, is_bin, is_stage, is_lot, if_any, AreRows, LotBin, OrderLot, same_cell, same_share, Cells, into, out_of, holds, Inner, CanTake, Legal, never_overdrawn, taken_from, and_turned, CAP, capped, Shelf, bins, stages, units_of, units_at, rows_put, rows_with_units, taken, brought, one_posted, rows_posted, with_key, keys_posted, no_two, and_both, not_true, or_later, or_none}
use Rattle.rules.proofs.rows.StockChanged.{any_kept}

-- what a shelf's keys and rows keep
pub record IsShelf {K R : Type 0} (shelf : Shelf K R) : Type 0 where
  pub same_is : (a b : K) → shelf.same a b ≡ true → a ≡ b
  pub itself : (a : K) → shelf.same a a ≡ true
  pub turned : (a b : K) → shelf.same a b ≡ shelf.same b a
  pub key_is : (k : K) (q : ℕ) → shelf.key (shelf.row k q) ≡ k
  pub units_is : (k : K) (q : ℕ) → shelf.units (shelf.row k q) ≡ q

-- the keys that the postings name are among those needed
abbrev pub NamesNeeded : {K R : Type 0} → Shelf K R → (K → Bool) → List Posting → Type 0
NamesNeeded shelf needed [] = Unit {0}
NamesNeeded shelf needed (p ∷ ps) =
    ((k : _) → shelf.at p.from p.lot ≡ Some k → needed k ≡ true) × ((k : _) → shelf.at p.to p.lot ≡ Some k → needed k ≡ true) × NamesNeeded shelf needed ps

-- no balance on the way is above what a sum is held at
abbrev pub AreWithin : {K : Type 0} → (List Posting → K → ℕ) → List Posting → List Posting → Type 0
AreWithin held [] before = Unit {0}
AreWithin held (p ∷ ps) before = ((k : _) → held (p ∷ ps ++ before) k ≤ CAP) × AreWithin held ps before

module _ {K R : Type 0} (shelf : Shelf K R) (is : IsShelf shelf) (needed : K → Bool) where
  -- the look-up where so many units are under each key
  abbrev pub look : (K → ℕ) → K → Option R
  look f k = if_any (f k) (shelf.row k (f k))

  abbrev pub Tells : (K → ℕ) → List R → Type 0
  Tells f rows = AreRows shelf.same shelf.key needed (λ k. true) (look f) rows

  -- other units under one key
  abbrev pub set : (K → ℕ) → K → ℕ → K → ℕ
  set f k n m = if shelf.same m k then n else f m

  pub set_tells : (f : K → ℕ) (k : K) (n : ℕ) (rows : List R) → Tells f rows → Tells (set f k n) (rows_with_units shelf k n rows)
  set_tells f k n rows are =
      loosened shelf.same shelf.key needed needed (λ k. true) (λ k. true) (λ m. if shelf.same m k then if_any n (shelf.row k n) else look f m) (look (set f k n)) (rows_with_units shelf k n rows) (λ m e. e) (λ m e. e) at_each
      (elim (n == 0) as (λ t. AreRows shelf.same shelf.key needed (λ k. true) (λ m. if shelf.same m k then if t then None else Some (shelf.row k n) else look f m) ((if t then [] else shelf.row k n ∷ []) ++ filter (λ r. not (shelf.same k (shelf.key r))) rows)) [
        | true ↦ subst (λ (x : K). AreRows shelf.same shelf.key needed (λ k. true) (λ m. if shelf.same m x then None else look f m) (filter (λ r. not (shelf.same x (shelf.key r))) rows)) (is.key_is k n)
            (rows_without shelf.same is.same_is is.itself is.turned shelf.key needed (look f) (shelf.row k n) rows are)
        | false ↦ subst (λ (x : K). AreRows shelf.same shelf.key needed (λ k. true) (λ m. if shelf.same m x then Some (shelf.row k n) else look f m) (shelf.row k n ∷ filter (λ r. not (shelf.same x (shelf.key r))) rows)) (is.key_is k n)
            (rows_after shelf.same is.same_is is.itself is.turned shelf.key needed (look f) (shelf.row k n) rows are)
      ])
    where
      at_each : (m : K) → (if shelf.same m k then if_any n (shelf.row k n) else look f m) ≡ look (set f k n) m
      at_each m = elim (shelf.same m k) as (λ t. shelf.same m k ≡ t → (if t then if_any n (shelf.row k n) else look f m) ≡ if_any (if t then n else f m) (shelf.row m (if t then n else f m))) [
        | true ↦ λ e. ap (λ (x : K). if_any n (shelf.row x n)) (sym (is.same_is m k e))
        | false ↦ λ e. refl
      ] refl

  pub units_told : (f : K → ℕ) (rows : List R) → Tells f rows → (k : K) → needed k ≡ true → units_at shelf k rows ≡ f k
  units_told f rows are k e = ap (units_of shelf) (are.found k e) ∙ known (f k)
    where
      known : (n : ℕ) → units_of shelf (if_any n (shelf.row k n)) ≡ n
      known n = elim (n == 0) as (λ b. (n == 0) ≡ b → units_of shelf (if b then None else Some (shelf.row k n)) ≡ n) [ true ↦ λ t. sym (eqb-true n 0 t) | false ↦ λ t. is.units_is k n ] refl

  -- A posting: units are taken from under a key, and brought under another, where there are such keys

  abbrev pub less : (K → ℕ) → Option K → ℕ → K → ℕ
  less f None q = f
  less f (Some k) q = set f k (f k - q)

  abbrev pub more : (K → ℕ) → Option K → ℕ → K → ℕ
  more f None q = f
  more f (Some k) q = set f k (capped (f k + q))

  taken_tells : (f : K → ℕ) (end : Option K) (q : ℕ) (rows : List R) → ((k : K) → end ≡ Some k → needed k ≡ true) → Tells f rows → Tells (less f end q) (taken shelf end q rows)
  taken_tells f None q rows names are = are
  taken_tells f (Some k) q rows names are =
      subst (λ n. Tells (set f k (f k - q)) (rows_with_units shelf k (n - q) rows)) (sym (units_told f rows are k (names k refl))) (set_tells f k (f k - q) rows are)

  brought_tells : (f : K → ℕ) (end : Option K) (q : ℕ) (rows : List R) → ((k : K) → end ≡ Some k → needed k ≡ true) → Tells f rows → Tells (more f end q) (brought shelf end q rows)
  brought_tells f None q rows names are = are
  brought_tells f (Some k) q rows names are =
      subst (λ n. Tells (set f k (capped (f k + q))) (rows_with_units shelf k (capped (n + q)) rows)) (sym (units_told f rows are k (names k refl))) (set_tells f k (capped (f k + q)) rows are)

  -- whether the end is the key
  abbrev pub is_end : K → Option K → Bool
  is_end m None = false
  is_end m (Some k) = shelf.same m k

  lowered : (f h : K → ℕ) (k m : K) (q : ℕ) → h m + (if shelf.same m k then q else 0) ≡ f m → q ≤ f k → (if shelf.same m k then f k - q else f m) ≡ h m
  lowered f h k m q moved can = elim (shelf.same m k) as (λ t. shelf.same m k ≡ t → h m + (if t then q else 0) ≡ f m → (if t then f k - q else f m) ≡ h m) [
    | true ↦ λ e g. let s : f m ≡ f k = ap f (is.same_is m k e) in omega (arith, g, s, can)
    | false ↦ λ e g. omega (arith, g)
  ] refl moved

  -- what is taken at one end and brought at the other makes these units of those
  by_ends : (from to : Option K) (f h : K → ℕ) (q : ℕ) → ((m : K) → h m + (if is_end m from then q else 0) ≡ f m + (if is_end m to then q else 0))
      → ((k : K) → from ≡ Some k → q ≤ f k) → ((k : K) → h k ≤ CAP) → (m : K) → more (less f from q) to q m ≡ h m
  by_ends None None f h q moved can within m = let g = moved m in omega (arith, g)
  by_ends (Some k) None f h q moved can within m = let g = moved m in lowered f h k m q (omega (arith, g)) (can k refl)
  by_ends None (Some j) f h q moved can within m =
      elim (shelf.same m j) as (λ t. shelf.same m j ≡ t → h m + 0 ≡ f m + (if t then q else 0) → (if t then capped (f j + q) else f m) ≡ h m) [
        | true ↦ λ e g. let s : f m ≡ f j = ap f (is.same_is m j e) in let w = within m in omega (arith, g, s, w)
        | false ↦ λ e g. omega (arith, g)
      ] refl (moved m)
  by_ends (Some k) (Some j) f h q moved can within m =
      elim (shelf.same m j) as (λ t. shelf.same m j ≡ t → h m + (if shelf.same m k then q else 0) ≡ f m + (if t then q else 0) → (if t then capped (set f k (f k - q) j + q) else set f k (f k - q) m) ≡ h m) [
        | true ↦ λ e g.
            let one : m ≡ j = is.same_is m j e in
            subst (λ (x : K). capped (set f k (f k - q) x + q) ≡ h m) one (own g)
        | false ↦ λ e g. lowered f h k m q (omega (arith, g)) (can k refl)
      ] refl (moved m)
    where
      own : h m + (if shelf.same m k then q else 0) ≡ f m + q → capped (set f k (f k - q) m + q) ≡ h m
      own = elim (shelf.same m k) as (λ t. shelf.same m k ≡ t → h m + (if t then q else 0) ≡ f m + q → capped ((if t then f k - q else f m) + q) ≡ h m) [
        | true ↦ λ e g. let s : f m ≡ f k = ap f (is.same_is m k e) in let w = within m in let c = can k refl in omega (arith, g, s, w, c)
        | false ↦ λ e g. let w = within m in omega (arith, g, w)
      ] refl

  -- Keys

  abbrev pub AllNeeded : List K → Type 0
  AllNeeded [] = Unit {0}
  AllNeeded (k ∷ ks) = (needed k ≡ true) × AllNeeded ks

  with_needed : (end : Option K) (ks : List K) → ((k : K) → end ≡ Some k → needed k ≡ true) → AllNeeded ks → AllNeeded (with_key shelf end ks)
  with_needed None ks h all = all
  with_needed (Some k) ks h all = elim (list_any (shelf.same k) ks) as (λ t. AllNeeded (if t then ks else k ∷ ks)) [ true ↦ all | false ↦ (h k refl, all) ]

  pub keys_needed : (ps : List Posting) → NamesNeeded shelf needed ps → AllNeeded (keys_posted shelf ps [])
  keys_needed [] h = tt
  keys_needed (p ∷ ps) h = with_needed (shelf.at p.from p.lot) (with_key shelf (shelf.at p.to p.lot) (keys_posted shelf ps [])) h.0 (with_needed (shelf.at p.to p.lot) (keys_posted shelf ps []) h.1 (keys_needed ps h.2))

  with_once : (end : Option K) (ks : List K) → no_two shelf.same ks ≡ true → no_two shelf.same (with_key shelf end ks) ≡ true
  with_once None ks e = e
  with_once (Some k) ks e = elim (list_any (shelf.same k) ks) as (λ t. list_any (shelf.same k) ks ≡ t → no_two shelf.same (if t then ks else k ∷ ks) ≡ true) [ true ↦ λ t. e | false ↦ λ t i. not (t i) && e i ] refl

  pub keys_once : (ps : List Posting) → no_two shelf.same (keys_posted shelf ps []) ≡ true
  keys_once [] = refl
  keys_once (p ∷ ps) = with_once (shelf.at p.from p.lot) (with_key shelf (shelf.at p.to p.lot) (keys_posted shelf ps [])) (with_once (shelf.at p.to p.lot) (keys_posted shelf ps []) (keys_once ps))

  none_put : (m : K) (ks : List K) (after : List R) → list_any (shelf.same m) ks ≡ false → list_any (λ r. shelf.same m (shelf.key r)) (rows_put shelf ks after) ≡ false
  none_put m [] after e = refl
  none_put m (k ∷ ks) after e =
      let two = or_none (shelf.same m k) (list_any (shelf.same m) ks) e in
      let n = units_at shelf k after in
      elim (n == 0) as (λ z. list_any (λ r. shelf.same m (shelf.key r)) ((if z then [] else shelf.row k n ∷ []) ++ rows_put shelf ks after) ≡ false) [
        | true ↦ none_put m ks after two.1
        | false ↦ (λ i. (ap (shelf.same m) (is.key_is k n) ∙ two.0) i || none_put m ks after two.1 i)
      ]

  -- no row is put twice
  pub put_once : (ks : List K) (after : List R) → no_two shelf.same ks ≡ true → no_two (λ r s. shelf.same (shelf.key r) (shelf.key s)) (rows_put shelf ks after) ≡ true
  put_once [] after e = refl
  put_once (k ∷ ks) after e =
      let two = and_both (not (list_any (shelf.same k) ks)) (no_two shelf.same ks) e in
      let n = units_at shelf k after in
      elim (n == 0) as (λ z. no_two (λ r s. shelf.same (shelf.key r) (shelf.key s)) ((if z then [] else shelf.row k n ∷ []) ++ rows_put shelf ks after) ≡ true) [
        | true ↦ put_once ks after two.1
        | false ↦ (λ i. not ((ap (λ (x : K). list_any (λ r. shelf.same x (shelf.key r)) (rows_put shelf ks after)) (is.key_is k n) ∙ none_put k ks after (not_true _ two.0)) i) && put_once ks after two.1 i)
      ]

  unnamed : (m : K) (end : Option K) (ks : List K) → list_any (shelf.same m) (with_key shelf end ks) ≡ false → (is_end m end ≡ false) × (list_any (shelf.same m) ks ≡ false)
  unnamed m None ks e = (refl, e)
  unnamed m (Some k) ks e = elim (list_any (shelf.same k) ks) as (λ t. list_any (shelf.same k) ks ≡ t → list_any (shelf.same m) (if t then ks else k ∷ ks) ≡ false → (shelf.same m k ≡ false) × (list_any (shelf.same m) ks ≡ false)) [
    | true ↦ λ t f. (elim (shelf.same m k) as (λ u. shelf.same m k ≡ u → u ≡ false) [ true ↦ λ u. let g : true ≡ false = sym t ∙ ap (λ (x : K). list_any (shelf.same x) ks) (sym (is.same_is m k u)) ∙ f in g | false ↦ λ u. refl ] refl, f)
    | false ↦ λ t f. or_none (shelf.same m k) (list_any (shelf.same m) ks) f
  ] refl e

  -- what passes among the rows after postings passed before, or has a key that they name
  module _ (test : R → Bool) (wanted : Bool) where
    abbrev pub Wants : Option K → Type 0
    Wants end = (k : K) → end ≡ Some k → (q : ℕ) → test (shelf.row k q) ≡ true → wanted ≡ true

    abbrev pub AllWant : List Posting → Type 0
    AllWant [] = Unit {0}
    AllWant (p ∷ ps) = Wants (shelf.at p.from p.lot) × Wants (shelf.at p.to p.lot) × AllWant ps

    with_wanted : (k : K) (q : ℕ) (rows : List R) → (test (shelf.row k q) ≡ true → wanted ≡ true) → (list_any test rows ≡ true → wanted || list_any test rows ≡ true)
        → list_any test (rows_with_units shelf k q rows) ≡ true → wanted || list_any test rows ≡ true
    with_wanted k q rows h g = elim (q == 0) as (λ t. list_any test ((if t then [] else shelf.row k q ∷ []) ++ filter (λ r. not (shelf.same k (shelf.key r))) rows) ≡ true → wanted || list_any test rows ≡ true) [
      | true ↦ λ e. g (any_kept test (λ r. not (shelf.same k (shelf.key r))) rows e)
      | false ↦ elim (test (shelf.row k q)) as (λ u. test (shelf.row k q) ≡ u → u || list_any test (filter (λ r. not (shelf.same k (shelf.key r))) rows) ≡ true → wanted || list_any test rows ≡ true) [
        | true ↦ λ u e. ap (λ b. b || list_any test rows) (h u)
        | false ↦ λ u e. g (any_kept test (λ r. not (shelf.same k (shelf.key r))) rows e)
      ] refl
    ]

    taken_wanted : (end : Option K) (q : ℕ) (rows : List R) → Wants end → list_any test (taken shelf end q rows) ≡ true → wanted || list_any test rows ≡ true
    taken_wanted None q rows h e = or_later wanted _ e
    taken_wanted (Some k) q rows h e = with_wanted k (units_at shelf k rows - q) rows (h k refl (units_at shelf k rows - q)) (or_later wanted (list_any test rows)) e

    brought_wanted : (end : Option K) (q : ℕ) (rows : List R) → Wants end → list_any test (brought shelf end q rows) ≡ true → wanted || list_any test rows ≡ true
    brought_wanted None q rows h e = or_later wanted _ e
    brought_wanted (Some k) q rows h e = with_wanted k (capped (units_at shelf k rows + q)) rows (h k refl (capped (units_at shelf k rows + q))) (or_later wanted (list_any test rows)) e

    or_through : (a b : Bool) → wanted || a ≡ true → (a ≡ true → wanted || b ≡ true) → wanted || b ≡ true
    or_through a b e h = elim wanted as (λ w. w || a ≡ true → (a ≡ true → w || b ≡ true) → w || b ≡ true) [ true ↦ λ x y. refl | false ↦ λ x y. y x ] e h

    pub any_posted : (ps : List Posting) (rows : List R) → AllWant ps → list_any test (rows_posted shelf ps rows) ≡ true → wanted || list_any test rows ≡ true
    any_posted [] rows h e = or_later wanted _ e
    any_posted (p ∷ ps) rows h e =
        let mid = rows_posted shelf ps rows in
        let less = taken shelf (shelf.at p.from p.lot) p.qty mid in
        or_through (list_any test mid) (list_any test rows)
        (or_through (list_any test less) (list_any test mid) (brought_wanted (shelf.at p.to p.lot) p.qty less h.1 e) (taken_wanted (shelf.at p.from p.lot) p.qty mid h.0))
        (any_posted ps rows h.2)

  module _ (cell : K → Cells) (inner : (k : K) → Inner (cell k)) (cell_is : (k : K) (p : Place) (l : LotId) → cell k p l ≡ is_end k (shelf.at p l))
      (can_take : (p : Place) (l : LotId) (q : ℕ) (ps : List Posting) → CanTake p l q ps → (k : K) → shelf.at p l ≡ Some k → q ≤ holds (cell k) ps) where
    abbrev held : List Posting → K → ℕ
    held ps k = holds (cell k) ps

    moved_by : (p : Posting) (ps : List Posting) → CanTake p.from p.lot p.qty ps → Legal ps → (k : K)
        → held (p ∷ ps) k + (if is_end k (shelf.at p.from p.lot) then p.qty else 0) ≡ held ps k + (if is_end k (shelf.at p.to p.lot) then p.qty else 0)
    moved_by p ps can legal k =
        let low : out_of (cell k) ps ≤ into (cell k) ps = never_overdrawn ps legal (cell k) (inner k) in
        let takes : (if cell k p.from p.lot then p.qty else 0) + out_of (cell k) ps ≤ into (cell k) ps = taken_from (cell k) (inner k) p.from p.lot p.qty ps can (never_overdrawn ps legal) in
        let e : holds (cell k) (p ∷ ps) + (if cell k p.from p.lot then p.qty else 0) ≡ holds (cell k) ps + (if cell k p.to p.lot then p.qty else 0) = omega arith in
        (λ i. held (p ∷ ps) k + (if sym (cell_is k p.from p.lot) i then p.qty else 0)) ∙ e ∙ (λ i. held ps k + (if cell_is k p.to p.lot i then p.qty else 0))

    -- a key that no posting names has what it had
    pub others_stay : (new old : List Posting) → Legal (new ++ old) → (m : K) → list_any (shelf.same m) (keys_posted shelf new []) ≡ false → held (new ++ old) m ≡ held old m
    others_stay [] old legal m e = refl
    others_stay (p ∷ ps) old legal m e =
        let a = unnamed m (shelf.at p.from p.lot) (with_key shelf (shelf.at p.to p.lot) (keys_posted shelf ps [])) e in
        let b = unnamed m (shelf.at p.to p.lot) (keys_posted shelf ps []) a.1 in
        let g = moved_by p (ps ++ old) legal.0 legal.1 m in
        let x = ap (λ t. if t then p.qty else 0) a.0 in
        let y = ap (λ t. if t then p.qty else 0) b.0 in
        let one : held (p ∷ ps ++ old) m ≡ held (ps ++ old) m = omega (arith, g, x, y) in
        one ∙ others_stay ps old legal.1 m b.1

    pub posted_tells : (new old : List Posting) → Legal (new ++ old) → NamesNeeded shelf needed new → AreWithin held new old → (rows : List R) → Tells (held old) rows → Tells (held (new ++ old)) (rows_posted shelf new rows)
    posted_tells [] old legal names within rows are = are
    posted_tells (p ∷ ps) old legal names within rows are =
        let before : Tells (held (ps ++ old)) (rows_posted shelf ps rows) = posted_tells ps old legal.1 names.2 within.1 rows are in
        loosened shelf.same shelf.key needed needed (λ k. true) (λ k. true) (look (more (less (held (ps ++ old)) (shelf.at p.from p.lot) p.qty) (shelf.at p.to p.lot) p.qty)) (look (held (p ∷ ps ++ old))) (one_posted shelf p (rows_posted shelf ps rows)) (λ k e. e) (λ k e. e)
        (λ m. ap (λ n. if_any n (shelf.row m n)) (by_ends (shelf.at p.from p.lot) (shelf.at p.to p.lot) (held (ps ++ old)) (held (p ∷ ps ++ old)) p.qty (moved_by p (ps ++ old) legal.0 legal.1) (can_take p.from p.lot p.qty (ps ++ old) legal.0) within.0 m))
        (brought_tells (less (held (ps ++ old)) (shelf.at p.from p.lot) p.qty) (shelf.at p.to p.lot) p.qty (taken shelf (shelf.at p.from p.lot) p.qty (rows_posted shelf ps rows)) names.1
        (taken_tells (held (ps ++ old)) (shelf.at p.from p.lot) p.qty (rows_posted shelf ps rows) names.0 before))

-- Bins

pub are_bins : IsShelf bins
are_bins = record { same_is = same_cell_is; itself = same_cell_refl; turned = same_cell_turned; key_is = λ k q. refl; units_is = λ k q. refl }

abbrev pub bin_cell : LotBin → Cells
bin_cell k p l = is_bin k.1 p && is_lot k.0 l

bin_end : (k : LotBin) (p : Place) (l : LotId) → bin_cell k p l ≡ is_end bins are_bins (λ k. true) k (bins.at p l)
bin_end k (InBin b) l = and_turned (is_bin k.1 (InBin b)) (is_lot k.0 l)
bin_end k Supplier l = refl
bin_end k WriteOff l = refl
bin_end k (Stage o) l = refl
bin_end k (Shipped n o) l = refl

bin_can : (p : Place) (l : LotId) (q : ℕ) (ps : List Posting) → CanTake p l q ps → (k : LotBin) → bins.at p l ≡ Some k → q ≤ holds (bin_cell k) ps
bin_can (InBin b) l q ps can k e = let s : (l, b) ≡ k = cc in subst (λ (x : LotBin). q ≤ holds (bin_cell x) ps) s can
bin_can Supplier l q ps can k e = cc
bin_can WriteOff l q ps can k e = cc
bin_can (Stage o) l q ps can k e = cc
bin_can (Shipped n o) l q ps can k e = cc

module _ (ps old : List Posting) (legal : Legal (ps ++ old)) where
  pub stock_follows : (needed : LotBin → Bool) → NamesNeeded bins needed ps → AreWithin (λ qs k. holds (bin_cell k) qs) ps old → (rows : List StockRow)
      → Tells bins are_bins needed (λ k. holds (bin_cell k) old) rows → Tells bins are_bins needed (λ k. holds (bin_cell k) (ps ++ old)) (rows_posted bins ps rows)
  stock_follows needed names within rows are = posted_tells bins are_bins needed bin_cell (λ k. record { supplier = λ m. refl; write_off = λ m. refl }) bin_end bin_can ps old legal names within rows are

  pub bins_stay : (m : LotBin) → list_any (same_cell m) (keys_posted bins ps []) ≡ false → holds (bin_cell m) (ps ++ old) ≡ holds (bin_cell m) old
  bins_stay m e = others_stay bins are_bins (λ k. true) bin_cell (λ k. record { supplier = λ m. refl; write_off = λ m. refl }) bin_end bin_can ps old legal m e

-- Stages

pub are_stages : IsShelf stages
are_stages = record { same_is = same_share_is; itself = same_share_refl; turned = same_share_turned; key_is = λ k q. refl; units_is = λ k q. refl }

abbrev pub stage_cell : OrderLot → Cells
stage_cell k p l = is_stage k.0 p && is_lot k.1 l

stage_end : (k : OrderLot) (p : Place) (l : LotId) → stage_cell k p l ≡ is_end stages are_stages (λ k. true) k (stages.at p l)
stage_end k (Stage o) l = refl
stage_end k Supplier l = refl
stage_end k WriteOff l = refl
stage_end k (InBin b) l = refl
stage_end k (Shipped n o) l = refl

stage_can : (p : Place) (l : LotId) (q : ℕ) (ps : List Posting) → CanTake p l q ps → (k : OrderLot) → stages.at p l ≡ Some k → q ≤ holds (stage_cell k) ps
stage_can (Stage o) l q ps can k e = let s : (o, l) ≡ k = cc in subst (λ (x : OrderLot). q ≤ holds (stage_cell x) ps) s can
stage_can Supplier l q ps can k e = cc
stage_can WriteOff l q ps can k e = cc
stage_can (InBin b) l q ps can k e = cc
stage_can (Shipped n o) l q ps can k e = cc

module _ (ps old : List Posting) (legal : Legal (ps ++ old)) where
  pub stages_follow : (needed : OrderLot → Bool) → NamesNeeded stages needed ps → AreWithin (λ qs k. holds (stage_cell k) qs) ps old → (rows : List StagedRow)
      → Tells stages are_stages needed (λ k. holds (stage_cell k) old) rows → Tells stages are_stages needed (λ k. holds (stage_cell k) (ps ++ old)) (rows_posted stages ps rows)
  stages_follow needed names within rows are = posted_tells stages are_stages needed stage_cell (λ k. record { supplier = λ m. refl; write_off = λ m. refl }) stage_end stage_can ps old legal names within rows are

  pub stages_stay : (m : OrderLot) → list_any (same_share m) (keys_posted stages ps []) ≡ false → holds (stage_cell m) (ps ++ old) ≡ holds (stage_cell m) old
  stages_stay m e = others_stay stages are_stages (λ k. true) stage_cell (λ k. record { supplier = λ m. refl; write_off = λ m. refl }) stage_end stage_can ps old legal m e
