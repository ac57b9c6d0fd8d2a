-- A list put in order and then cut down to some of its elements is those elements put in order; so it is with lots.
use borrow.Author.Tests.{ltb-true, ltb-false, le-ltb}
use Rattle.machine.proofs.Words.{◌≡◌, ℕ, Bool, true, false, ◌&&◌, not, List, [], ◌∷◌, refl, ap, sym, ◌∙◌, arith, ◌||◌, if◌then◌else◌, filter, ℤ, int_lt, nat_lt, ints, placed, in_order, KnownLot, goes_before}

module _ {X : Type 0} (before : X → X → Bool) (turned : (x y : X) → before x y ≡ true → before y x ≡ false) (further : (x y z : X) → before z y ≡ false → before y x ≡ false → before z x ≡ false) where
  abbrev NoneBefore : X → List X → Type 0
  NoneBefore x [] = Unit {0}
  NoneBefore x (y ∷ ys) = (before y x ≡ false) × NoneBefore x ys

  abbrev AreInOrder : List X → Type 0
  AreInOrder [] = Unit {0}
  AreInOrder (x ∷ xs) = NoneBefore x xs × AreInOrder xs

  none_placed : (y x : X) (zs : List X) → before x y ≡ false → NoneBefore y zs → NoneBefore y (placed before x zs)
  none_placed y x [] e h = (e, tt)
  none_placed y x (z ∷ zs) e h = elim (before z x) as (λ b. NoneBefore y (if b then z ∷ placed before x zs else x ∷ z ∷ zs)) [ true ↦ (h.0, none_placed y x zs e h.1) | false ↦ (e, h) ]

  none_further : (x y : X) (zs : List X) → before y x ≡ false → NoneBefore y zs → NoneBefore x zs
  none_further x y [] e h = tt
  none_further x y (z ∷ zs) e h = (further x y z h.0 e, none_further x y zs e h.1)

  placed_in_order : (x : X) (ys : List X) → AreInOrder ys → AreInOrder (placed before x ys)
  placed_in_order x [] h = (tt, tt)
  placed_in_order x (y ∷ ys) h = elim (before y x) as (λ b. before y x ≡ b → AreInOrder (if b then y ∷ placed before x ys else x ∷ y ∷ ys)) [
    | true ↦ λ e. (none_placed y x ys (turned y x e) h.0, placed_in_order x ys h.1)
    | false ↦ λ e. ((e, none_further x y ys e h.0), h)
  ] refl

  are_in_order : (xs : List X) → AreInOrder (in_order before xs)
  are_in_order [] = tt
  are_in_order (x ∷ xs) = placed_in_order x (in_order before xs) (are_in_order xs)

  module _ (keep : X → Bool) where
    none_kept : (x : X) (ys : List X) → NoneBefore x ys → NoneBefore x (filter keep ys)
    none_kept x [] h = tt
    none_kept x (y ∷ ys) h = elim (keep y) as (λ b. NoneBefore x (if b then y ∷ filter keep ys else filter keep ys)) [ true ↦ (h.0, none_kept x ys h.1) | false ↦ none_kept x ys h.1 ]

    placed_first : (x : X) (ys : List X) → NoneBefore x ys → placed before x ys ≡ x ∷ ys
    placed_first x [] h = refl
    placed_first x (y ∷ ys) h = ap (λ b. if b then y ∷ placed before x ys else x ∷ y ∷ ys) h.0

    kept_placed : (x : X) (ys : List X) → AreInOrder ys → filter keep (placed before x ys) ≡ (if keep x then placed before x (filter keep ys) else filter keep ys)
    kept_placed x [] h = refl
    kept_placed x (y ∷ ys) h =
        elim (before y x) as (λ b. before y x ≡ b → filter keep (if b then y ∷ placed before x ys else x ∷ y ∷ ys) ≡ (if keep x then placed before x (filter keep (y ∷ ys)) else filter keep (y ∷ ys))) [
          | true ↦ λ e. behind (keep y) (keep x) (filter keep (placed before x ys)) (filter keep ys) e (kept_placed x ys h.1)
          | false ↦ λ e. ap (λ zs. if keep x then zs else filter keep (y ∷ ys)) (sym (placed_first x (filter keep (y ∷ ys)) (none_kept x (y ∷ ys) (e, none_further x y ys e h.0))))
        ] refl
      where
        behind : (a b : Bool) (all rest : List X) → before y x ≡ true → all ≡ (if b then placed before x rest else rest)
            → (if a then y ∷ all else all) ≡ (if b then placed before x (if a then y ∷ rest else rest) else (if a then y ∷ rest else rest))
        behind true true all rest e f = ap (λ zs. y ∷ zs) f ∙ ap (λ t. if t then y ∷ placed before x rest else x ∷ y ∷ rest) (sym e)
        behind true false all rest e f = ap (λ zs. y ∷ zs) f
        behind false b all rest e f = f

    pub kept_in_order : (xs : List X) → in_order before (filter keep xs) ≡ filter keep (in_order before xs)
    kept_in_order [] = refl
    kept_in_order (x ∷ xs) =
        by_test (keep x) (filter keep xs)
        ∙ (λ i. if keep x then placed before x (kept_in_order xs i) else kept_in_order xs i)
        ∙ sym (kept_placed x (in_order before xs) (are_in_order xs))
      where
        by_test : (b : Bool) (rest : List X) → in_order before (if b then x ∷ rest else rest) ≡ (if b then placed before x (in_order before rest) else in_order before rest)
        by_test true rest = refl
        by_test false rest = refl

-- Lots go by expiry and then by rank

lt_turned : (a b : ℤ) → int_lt a b ≡ true → int_lt b a ≡ false
lt_turned a b e = grind (arith, ints)

not_lt_further : (a b c : ℤ) → int_lt c b ≡ false → int_lt b a ≡ false → int_lt c a ≡ false
not_lt_further a b c e f = grind (arith, ints)

none_lt : (a b c : ℤ) → int_lt c b ≡ false → int_lt b a ≡ false → int_lt a c ≡ false → (int_lt b c ≡ false) × (int_lt a b ≡ false)
none_lt a b c e f g = (grind (arith, ints), grind (arith, ints))

earlier_turned : (m n : ℕ) → nat_lt m n ≡ true → nat_lt n m ≡ false
earlier_turned m n e = let h = ltb-true m n e in le-ltb n m (omega arith)

not_earlier_further : (m n o : ℕ) → nat_lt o n ≡ false → nat_lt n m ≡ false → nat_lt o m ≡ false
not_earlier_further m n o e f = let h = ltb-false o n e in let k = ltb-false n m f in le-ltb o m (omega arith)

neither_of : (p q x : Bool) → p || (not q && x) ≡ false → (p ≡ false) × (q ≡ false → x ≡ false)
neither_of true q x e = let f : true ≡ false = e in cc
neither_of false true x e = (refl, λ h. let f : true ≡ false = h in cc)
neither_of false false x e = (refl, λ h. e)

not_either : (p q x : Bool) → p ≡ false → (q ≡ false → x ≡ false) → p || (not q && x) ≡ false
not_either true q x e f = e
not_either false true x e f = refl
not_either false false x e f = f refl

goes_turned : (k m : KnownLot) → goes_before k m ≡ true → goes_before m k ≡ false
goes_turned k m e =
    elim (int_lt k.expiry m.expiry) as (λ b. int_lt k.expiry m.expiry ≡ b → b || (not (int_lt m.expiry k.expiry) && nat_lt k.came m.came) ≡ true → int_lt m.expiry k.expiry || (not b && nat_lt m.came k.came) ≡ false) [
      | true ↦ λ t f. ap (λ b. b || false) (lt_turned k.expiry m.expiry t)
      | false ↦ λ t f. later (int_lt m.expiry k.expiry) f
    ] refl e
  where
    later : (q : Bool) → not q && nat_lt k.came m.came ≡ true → q || nat_lt m.came k.came ≡ false
    later true f = let g : false ≡ true = f in cc
    later false f = earlier_turned k.came m.came f

goes_further : (x y z : KnownLot) → goes_before z y ≡ false → goes_before y x ≡ false → goes_before z x ≡ false
goes_further x y z e f =
    let one = neither_of (int_lt z.expiry y.expiry) (int_lt y.expiry z.expiry) (nat_lt z.came y.came) e in
    let two = neither_of (int_lt y.expiry x.expiry) (int_lt x.expiry y.expiry) (nat_lt y.came x.came) f in
    not_either (int_lt z.expiry x.expiry) (int_lt x.expiry z.expiry) (nat_lt z.came x.came) (not_lt_further x.expiry y.expiry z.expiry one.0 two.0)
    (λ g. let none = none_lt x.expiry y.expiry z.expiry one.0 two.0 g in not_earlier_further x.came y.came z.came (one.1 none.0) (two.1 none.1))

-- the lots that are kept stand as before
pub lots_kept_in_order : (keep : KnownLot → Bool) (ks : List KnownLot) → in_order goes_before (filter keep ks) ≡ filter keep (in_order goes_before ks)
lots_kept_in_order keep ks = kept_in_order goes_before goes_turned goes_further keep ks
