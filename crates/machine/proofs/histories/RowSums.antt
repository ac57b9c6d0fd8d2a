-- Rows of cells add up to the balance of all their cells, if the other cells are empty.
use Rattle.machine.proofs.Words.{◌≡◌, ℕ, ◌+◌, Bool, true, false, ◌&&◌, not, List, [], ◌∷◌, refl, ap, sym, ◌∙◌, arith, if◌then◌else◌, LotId, total, Place, Supplier, InBin, Stage, Shipped, WriteOff, Posting}
use Rattle.machine.proofs.Tests.{and_both, not_true, same_text_refl, is_lot_refl}
use Rattle.machine.proofs.histories.Cells.{Cells, into, without, IsPart, Legal, Inner, inner_without, holds, holds_split, bin_cell, stage_cell, bin_part, stage_part, inner_bin, inner_stage}

abbrev pub no_cell : Cells
no_cell p m = false

-- the cell of a lot in a bin or on a stage
abbrev pub cell_at : Place → LotId → Cells
cell_at (InBin b) l = bin_cell b l
cell_at (Stage o) l = stage_cell o l
cell_at _ l = no_cell

no_part : (w : Cells) → IsPart no_cell w
no_part w p m e = let f : false ≡ true = e in cc

part_at : (w : Cells) (p : Place) (l : LotId) → w p l ≡ true → IsPart (cell_at p l) w
part_at w (InBin b) l e = bin_part w b l e
part_at w (Stage o) l e = stage_part w o l e
part_at w _ l e = no_part w

inner_at : (p : Place) (l : LotId) → Inner (cell_at p l)
inner_at (InBin b) l = inner_bin b l
inner_at (Stage o) l = inner_stage o l
inner_at _ l = record { supplier = λ m. refl; write_off = λ m. refl }

-- no shipment is among the cells
abbrev pub IsHoused : Cells → Type 0
IsHoused w = (n : ℕ) (o : List ℕ) (l : LotId) → w (Shipped n o) l ≡ false

-- a cell of the house is its own
own_cell : (w : Cells) → Inner w → IsHoused w → (p : Place) (l : LotId) → w p l ≡ true → cell_at p l p l ≡ true
own_cell w i h (InBin b) l e = λ j. same_text_refl b j && is_lot_refl l j
own_cell w i h (Stage o) l e = λ j. same_text_refl o j && is_lot_refl l j
own_cell w i h Supplier l e = let f = i.supplier l in cc
own_cell w i h WriteOff l e = let f = i.write_off l in cc
own_cell w i h (Shipped n o) l e = let f = h n o l in cc

housed_part : (v w : Cells) → IsPart v w → IsHoused w → IsHoused v
housed_part v w part h n o l =
    elim (v (Shipped n o) l) as (λ b. v (Shipped n o) l ≡ b → b ≡ false) [ true ↦ λ e. let f = part (Shipped n o) l e in let k = h n o l in cc | false ↦ λ e. refl ] refl

without_part : (w v : Cells) → IsPart (without w v) w
without_part w v p l e = let b = and_both (w p l) (not (v p l)) e in b.0

-- removed once, it is not there
gone : (a b : Bool) → b ≡ true → a && not b ≡ false
gone true b e = ap not e
gone false b e = refl

still_false : (v w : Cells) → IsPart v w → (p : Place) (l : LotId) → w p l ≡ false → v p l ≡ false
still_false v w part p l e =
    elim (v p l) as (λ b. v p l ≡ b → b ≡ false) [ true ↦ λ f. let g = part p l f in cc | false ↦ λ f. refl ] refl

module _ (ps : List Posting) (legal : Legal ps) where
  abbrev pub AreEmpty : Cells → Type 0
  AreEmpty w = (p : Place) (l : LotId) → w p l ≡ true → holds (cell_at p l) ps ≡ 0

  abbrev Untouched : Cells → List Posting → Type 0
  Untouched e [] = Unit {0}
  Untouched e (q ∷ qs) = (e q.to q.lot ≡ false) × (e q.from q.lot ≡ false) × Untouched e qs

  untouched_part : (v w : Cells) → IsPart v w → (qs : List Posting) → Untouched w qs → Untouched v qs
  untouched_part v w part [] h = tt
  untouched_part v w part (q ∷ qs) h = (still_false v w part q.to q.lot h.0, still_false v w part q.from q.lot h.1, untouched_part v w part qs h.2)

  record IsPeeled (u e : Cells) : Type 0 where
    same : holds u ps ≡ holds e ps
    inner : Inner e
    housed : IsHoused e
    part : IsPart e u

  record Peeled (u : Cells) (p : Place) (l : LotId) : Type 0 where
    left : Cells
    peeled : IsPeeled u left
    away : left p l ≡ false

  -- without an empty cell
  peel : (u : Cells) → Inner u → IsHoused u → AreEmpty u → (p : Place) (l : LotId) → Peeled u p l
  peel u i h empty p l =
      elim (u p l) as (λ b. u p l ≡ b → Peeled u p l) [
        | true ↦ λ e. record {
          left = without u (cell_at p l);
          peeled = record {
            same = holds_split ps legal (cell_at p l) u (inner_at p l) i (part_at u p l e) ∙ omega (arith, empty p l e);
            inner = inner_without u (cell_at p l) i;
            housed = housed_part (without u (cell_at p l)) u (without_part u (cell_at p l)) h;
            part = without_part u (cell_at p l);
          };
          away = gone (u p l) (cell_at p l p l) (own_cell u i h p l e);
        }
        | false ↦ λ e. record { left = u; peeled = record { same = refl; inner = i; housed = h; part = λ q m f. f }; away = e }
      ] refl

  record AllPeeled (u : Cells) (qs : List Posting) : Type 0 where
    left : Cells
    peeled : IsPeeled u left
    away : Untouched left qs

  peel_all : (u : Cells) → Inner u → IsHoused u → AreEmpty u → (qs : List Posting) → AllPeeled u qs
  peel_all u i h empty [] = record { left = u; peeled = record { same = refl; inner = i; housed = h; part = λ q m f. f }; away = tt }
  peel_all u i h empty (q ∷ qs) =
      let a = peel_all u i h empty qs in
      let b = peel a.left a.peeled.inner a.peeled.housed (λ p l e. empty p l (a.peeled.part p l e)) q.to q.lot in
      let c = peel b.left b.peeled.inner b.peeled.housed (λ p l e. empty p l (a.peeled.part p l (b.peeled.part p l e))) q.from q.lot in
      record {
        left = c.left;
        peeled = record {
          same = a.peeled.same ∙ b.peeled.same ∙ c.peeled.same;
          inner = c.peeled.inner;
          housed = c.peeled.housed;
          part = λ p l e. a.peeled.part p l (b.peeled.part p l (c.peeled.part p l e));
        };
        away = (
          still_false c.left b.left c.peeled.part q.to q.lot b.away,
          c.away,
          untouched_part c.left a.left (λ p l e. b.peeled.part p l (c.peeled.part p l e)) qs a.away,
        );
      }

  none_into : (e : Cells) (qs : List Posting) → Untouched e qs → into e qs ≡ 0
  none_into e [] h = refl
  none_into e (q ∷ qs) h = omega (arith, ap (λ b. if b then q.qty else 0) h.0, none_into e qs h.2)

  -- empty cells together hold nothing
  pub holds_nothing : (u : Cells) → Inner u → IsHoused u → AreEmpty u → holds u ps ≡ 0
  holds_nothing u i h empty =
      let a = peel_all u i h empty ps in
      a.peeled.same ∙ omega (arith, none_into a.left ps a.away)

  module _ {R : Type 0} (place : R → Place) (lot : R → LotId) (qty : R → ℕ) (wanted : R → Bool) where
    abbrev pub cell : R → Cells
    cell r = cell_at (place r) (lot r)

    -- the set without the cells of wanted rows
    abbrev pub cut_out : Cells → List R → Cells
    cut_out w [] = w
    cut_out w (r ∷ rs) = cut_out (if wanted r then without w (cell r) else w) rs

    abbrev pub AllIn : Cells → List R → Type 0
    AllIn w [] = Unit {0}
    AllIn w (r ∷ rs) = (wanted r ≡ true → w (place r) (lot r) ≡ true) × AllIn w rs

    abbrev pub AllApart : R → List R → Type 0
    AllApart r [] = Unit {0}
    AllApart r (s ∷ ss) = (cell r (place s) (lot s) ≡ false) × AllApart r ss

    abbrev pub AreApart : List R → Type 0
    AreApart [] = Unit {0}
    AreApart (r ∷ rs) = AllApart r rs × AreApart rs

    abbrev pub AreHeld : List R → Type 0
    AreHeld [] = Unit {0}
    AreHeld (r ∷ rs) = (qty r ≡ holds (cell r) ps) × AreHeld rs

    abbrev pub wanted_total : List R → ℕ
    wanted_total rows = total (λ r. if wanted r then qty r else 0) rows

    kept_in : (w : Cells) (r : R) (rs : List R) → AllIn w rs → AllApart r rs → AllIn (without w (cell r)) rs
    kept_in w r [] h a = tt
    kept_in w r (s ∷ ss) h a = (λ e. (λ i. h.0 e i && not (a.0 i)), kept_in w r ss h.1 a.1)

    pub rows_hold : (w : Cells) → Inner w → (rows : List R) → AllIn w rows → AreApart rows → AreHeld rows
        → holds w ps ≡ wanted_total rows + holds (cut_out w rows) ps
    rows_hold w i [] h a q = omega arith
    rows_hold w i (r ∷ rs) h a q =
        elim (wanted r) as (λ b. wanted r ≡ b → holds w ps ≡ (if b then qty r else 0) + wanted_total rs + holds (cut_out (if b then without w (cell r) else w) rs) ps) [
          | true ↦ λ e.
              omega (
                arith,
                holds_split ps legal (cell r) w (inner_at (place r) (lot r)) i (part_at w (place r) (lot r) (h.0 e)),
                q.0,
                rows_hold (without w (cell r)) (inner_without w (cell r) i) rs (kept_in w r rs h.1 a.0) a.1 q.1,
              )
          | false ↦ λ e. omega (arith, rows_hold w i rs h.1 a.1 q.1)
        ] refl

    -- what is left is in the set, and in no wanted row's cell
    abbrev pub NotThere : Place → LotId → List R → Type 0
    NotThere p l [] = Unit {0}
    NotThere p l (r ∷ rs) = (wanted r ≡ true → cell r p l ≡ false) × NotThere p l rs

    pub record IsLeft (w : Cells) (p : Place) (l : LotId) (rows : List R) : Type 0 where
      pub inside : w p l ≡ true
      pub not_there : NotThere p l rows

    pub left_of : (w : Cells) (p : Place) (l : LotId) (rows : List R) → cut_out w rows p l ≡ true → IsLeft w p l rows
    left_of w p l [] e = record { inside = e; not_there = tt }
    left_of w p l (r ∷ rs) e =
        elim (wanted r) as (λ b. wanted r ≡ b → cut_out (if b then without w (cell r) else w) rs p l ≡ true → IsLeft w p l (r ∷ rs)) [
          | true ↦ λ t f.
              let k = left_of (without w (cell r)) p l rs f in
              let two = and_both (w p l) (not (cell r p l)) k.inside in
              record { inside = two.0; not_there = (λ z. not_true (cell r p l) two.1, k.not_there) }
          | false ↦ λ t f.
              let k = left_of w p l rs f in
              record { inside = k.inside; not_there = (λ z. let y : true ≡ false = sym z ∙ t in cc, k.not_there) }
        ] refl e

    pub cut_inner : (w : Cells) → Inner w → (rows : List R) → Inner (cut_out w rows)
    cut_inner w i [] = i
    cut_inner w i (r ∷ rs) = elim (wanted r) as (λ b. Inner (cut_out (if b then without w (cell r) else w) rs)) [
      | true ↦ cut_inner (without w (cell r)) (inner_without w (cell r) i) rs
      | false ↦ cut_inner w i rs
    ]

    pub cut_housed : (w : Cells) → IsHoused w → (rows : List R) → IsHoused (cut_out w rows)
    cut_housed w h [] = h
    cut_housed w h (r ∷ rs) = elim (wanted r) as (λ b. IsHoused (cut_out (if b then without w (cell r) else w) rs)) [
      | true ↦ cut_housed (without w (cell r)) (housed_part (without w (cell r)) w (without_part w (cell r)) h) rs
      | false ↦ cut_housed w h rs
    ]

    -- rows add up to what the set holds, if what is left is empty
    pub rows_are_all : (w : Cells) → Inner w → IsHoused w → (rows : List R) → AllIn w rows → AreApart rows → AreHeld rows → AreEmpty (cut_out w rows)
        → holds w ps ≡ wanted_total rows
    rows_are_all w i h rows in_w apart held empty =
        rows_hold w i rows in_w apart held
        ∙ ap (λ n. wanted_total rows + n) (holds_nothing (cut_out w rows) (cut_inner w i rows) (cut_housed w h rows) empty) ∙ omega arith
