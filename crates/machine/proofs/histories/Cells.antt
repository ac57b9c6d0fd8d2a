-- Sets of cells, a cell being a place and a lot: what postings bring into a set and take out, and that legal postings never overdraw one.
use Rattle.machine.proofs.Words.{◌≡◌, ℕ, ◌+◌, ◌-◌, ◌≤◌, Bool, true, false, ◌&&◌, not, List, [], ◌∷◌, ◌++◌, refl, ap, subst, arith, if◌then◌else◌, same_text, LotId, total, Place, Supplier, InBin, Stage, Shipped, WriteOff, Posting, balance, is_bin, is_lot, is_stage}
use Rattle.machine.proofs.Tests.{and_both, same_text_is, is_lot_is}

-- a set of places and lots
abbrev pub Cells : Type 0
Cells = Place → LotId → Bool

abbrev pub into : Cells → List Posting → ℕ
into w ps = total (λ p. if w p.to p.lot then p.qty else 0) ps

abbrev pub out_of : Cells → List Posting → ℕ
out_of w ps = total (λ p. if w p.from p.lot then p.qty else 0) ps

-- what of such cells is there: a balance is what the cells of its places and lots hold
abbrev pub holds : Cells → List Posting → ℕ
holds w ps = into w ps - out_of w ps

abbrev pub without : Cells → Cells → Cells
without w v p l = w p l && not (v p l)

abbrev pub IsPart : Cells → Cells → Type 0
IsPart v w = (p : Place) (l : LotId) → v p l ≡ true → w p l ≡ true

split_one : (a b : Bool) (q : ℕ) → (a ≡ true → b ≡ true) → (if b then q else 0) ≡ (if a then q else 0) + (if b && not a then q else 0)
split_one true true q h = omega arith
split_one true false q h = let e : false ≡ true = h refl in cc
split_one false true q h = omega arith
split_one false false q h = omega arith

pub into_split : (v w : Cells) → IsPart v w → (ps : List Posting) → into w ps ≡ into v ps + into (without w v) ps
into_split v w part [] = omega arith
into_split v w part (p ∷ ps) = omega (arith, split_one (v p.to p.lot) (w p.to p.lot) p.qty (part p.to p.lot), into_split v w part ps)

pub out_of_split : (v w : Cells) → IsPart v w → (ps : List Posting) → out_of w ps ≡ out_of v ps + out_of (without w v) ps
out_of_split v w part [] = omega arith
out_of_split v w part (p ∷ ps) = omega (arith, split_one (v p.from p.lot) (w p.from p.lot) p.qty (part p.from p.lot), out_of_split v w part ps)

pub into-append : (w : Cells) (ps qs : List Posting) → into w (ps ++ qs) ≡ into w ps + into w qs
into-append w [] qs = omega arith
into-append w (p ∷ ps) qs = omega (arith, into-append w ps qs)

pub out_of-append : (w : Cells) (ps qs : List Posting) → out_of w (ps ++ qs) ≡ out_of w ps + out_of w qs
out_of-append w [] qs = omega arith
out_of-append w (p ∷ ps) qs = omega (arith, out_of-append w ps qs)

-- a posting takes only what is there; nothing comes back from a shipment
abbrev pub CanTake : Place → LotId → ℕ → List Posting → Type 0
CanTake Supplier l q ps = Unit {0}
CanTake WriteOff l q ps = Unit {0}
CanTake (InBin b) l q ps = q ≤ balance (is_bin b) (is_lot l) ps
CanTake (Stage o) l q ps = q ≤ balance (is_stage o) (is_lot l) ps
CanTake (Shipped n o) l q ps = q ≤ 0

-- each posting takes only what those before it left
abbrev pub Legal : List Posting → Type 0
Legal [] = Unit {0}
Legal (p ∷ ps) = CanTake p.from p.lot p.qty ps × Legal ps

-- a set of cells within the warehouse and its shipments
pub record Inner (w : Cells) : Type 0 where
  pub supplier : (l : LotId) → w Supplier l ≡ false
  pub write_off : (l : LotId) → w WriteOff l ≡ false

pub inner_without : (w v : Cells) → Inner w → Inner (without w v)
inner_without w v i = record {
  supplier = λ l. ap (λ b. b && not (v Supplier l)) (i.supplier l);
  write_off = λ l. ap (λ b. b && not (v WriteOff l)) (i.write_off l);
}

-- The cell of a lot in a bin, and on a stage

abbrev pub bin_cell : List ℕ → LotId → Cells
bin_cell b l p m = is_bin b p && is_lot l m

abbrev pub stage_cell : List ℕ → LotId → Cells
stage_cell o l p m = is_stage o p && is_lot l m

pub bin_part : (w : Cells) (b : List ℕ) (l : LotId) → w (InBin b) l ≡ true → IsPart (bin_cell b l) w
bin_part w b l h (InBin c) m e =
    let t = and_both (same_text b c) (is_lot l m) e in
    subst (λ (x : List ℕ). w (InBin x) m ≡ true) (same_text_is b c t.0) (subst (λ (x : LotId). w (InBin b) x ≡ true) (is_lot_is l m t.1) h)
bin_part w b l h _ m e = let f : false ≡ true = e in cc

pub stage_part : (w : Cells) (o : List ℕ) (l : LotId) → w (Stage o) l ≡ true → IsPart (stage_cell o l) w
stage_part w o l h (Stage q) m e =
    let t = and_both (same_text o q) (is_lot l m) e in
    subst (λ (x : List ℕ). w (Stage x) m ≡ true) (same_text_is o q t.0) (subst (λ (x : LotId). w (Stage o) x ≡ true) (is_lot_is l m t.1) h)
stage_part w o l h _ m e = let f : false ≡ true = e in cc

pub inner_bin : (b : List ℕ) (l : LotId) → Inner (bin_cell b l)
inner_bin b l = record { supplier = λ m. refl; write_off = λ m. refl }

pub inner_stage : (o : List ℕ) (l : LotId) → Inner (stage_cell o l)
inner_stage o l = record { supplier = λ m. refl; write_off = λ m. refl }

-- what is taken from a part of w is there in w
taken : (v w : Cells) (q : ℕ) (ps : List Posting) → IsPart v w → q ≤ into v ps - out_of v ps
    → out_of v ps ≤ into v ps → out_of (without w v) ps ≤ into (without w v) ps → q + out_of w ps ≤ into w ps
taken v w q ps part fits low rest = omega (arith, into_split v w part ps, out_of_split v w part ps)

-- the units that a posting takes from w, by its place
pub taken_from : (w : Cells) → Inner w → (from : Place) (l : LotId) (q : ℕ) (ps : List Posting) → CanTake from l q ps
    → ((v : Cells) → Inner v → out_of v ps ≤ into v ps) → (if w from l then q else 0) + out_of w ps ≤ into w ps
taken_from w i Supplier l q ps can low = rw i.supplier (omega (arith, low w i))
taken_from w i WriteOff l q ps can low = rw i.write_off (omega (arith, low w i))
taken_from w i (Shipped n o) l q ps can low =
    elim (w (Shipped n o) l) as (λ t. (if t then q else 0) + out_of w ps ≤ into w ps) [ true ↦ omega (arith, low w i) | false ↦ omega (arith, low w i) ]
taken_from w i (InBin b) l q ps can low =
    elim (w (InBin b) l) as (λ t. w (InBin b) l ≡ t → (if t then q else 0) + out_of w ps ≤ into w ps) [
      | true ↦ λ e. taken (bin_cell b l) w q ps (bin_part w b l e) can (low (bin_cell b l) (inner_bin b l)) (low (without w (bin_cell b l)) (inner_without w (bin_cell b l) i))
      | false ↦ λ e. omega (arith, low w i)
    ] refl
taken_from w i (Stage o) l q ps can low =
    elim (w (Stage o) l) as (λ t. w (Stage o) l ≡ t → (if t then q else 0) + out_of w ps ≤ into w ps) [
      | true ↦ λ e. taken (stage_cell o l) w q ps (stage_part w o l e) can (low (stage_cell o l) (inner_stage o l)) (low (without w (stage_cell o l)) (inner_without w (stage_cell o l) i))
      | false ↦ λ e. omega (arith, low w i)
    ] refl

-- legal postings never overdraw a set of cells: no more is taken out than is brought in
pub never_overdrawn : (ps : List Posting) → Legal ps → (w : Cells) → Inner w → out_of w ps ≤ into w ps
never_overdrawn [] legal w i = omega arith
never_overdrawn (p ∷ ps) legal w i =
    let h : (if w p.from p.lot then p.qty else 0) + out_of w ps ≤ into w ps = taken_from w i p.from p.lot p.qty ps legal.0 (never_overdrawn ps legal.1) in
    omega arith

-- a set holds what a part of it holds, with the rest
pub holds_split : (ps : List Posting) → Legal ps → (v w : Cells) → Inner v → Inner w → IsPart v w → holds w ps ≡ holds v ps + holds (without w v) ps
holds_split ps legal v w i j part =
    let low = never_overdrawn ps legal v i in
    let rest = never_overdrawn ps legal (without w v) (inner_without w v j) in
    omega (arith, into_split v w part ps, out_of_split v w part ps)
