-- What tests on texts, lots and truth values say.
use borrow.Author.Tests.{ltb-false}
use Rattle.machine.proofs.Words.{◌≡◌, ℕ, ◌≤◌, Bool, true, false, ◌&&◌, not, List, refl, ap, sym, subst, ◌==◌, ◌||◌, nat_lt, Option, Some, bytes_decides, equal_texts, eqb-true, same_text, LotId, is_lot}

-- Truth values

pub and_both : (a b : Bool) → a && b ≡ true → (a ≡ true) × (b ≡ true)
and_both true b e = (refl, e)
and_both false b e = let f : false ≡ true = e in cc

pub or_none : (a b : Bool) → a || b ≡ false → (a ≡ false) × (b ≡ false)
or_none true b e = let f : true ≡ false = e in cc
or_none false b e = (refl, e)

pub or_first : (a b : Bool) → a ≡ true → a || b ≡ true
or_first true b e = refl
or_first false b e = let f : false ≡ true = e in cc

pub or_later : (a b : Bool) → b ≡ true → a || b ≡ true
or_later true b e = refl
or_later false b e = e

pub or_false : (a : Bool) → a || false ≡ a
or_false true = refl
or_false false = refl

pub and_false : (a : Bool) → a && false ≡ false
and_false true = refl
and_false false = refl

pub and_first_false : (a b : Bool) → a ≡ false → a && b ≡ false
and_first_false a b e = ap (λ t. t && b) e

pub and_later_false : (a b : Bool) → b ≡ false → a && b ≡ false
and_later_false true b e = e
and_later_false false b e = refl

pub and_not_itself : (a : Bool) → a && not a ≡ false
and_not_itself true = refl
and_not_itself false = refl

pub not_false : (a : Bool) → not a ≡ false → a ≡ true
not_false true e = refl
not_false false e = let f : true ≡ false = e in cc

pub not_true : (a : Bool) → not a ≡ true → a ≡ false
not_true true e = let f : false ≡ true = e in cc
not_true false e = refl

pub same_tests : (a b : Bool) → (a ≡ true → b ≡ true) → (b ≡ true → a ≡ true) → a ≡ b
same_tests true b f g = sym (f refl)
same_tests false true f g = g refl
same_tests false false f g = refl

-- Numbers

pub at_most : (a b : ℕ) → nat_lt a b ≡ false → b ≤ a
at_most a b e = ltb-false a b e

pub is_zero : (a : ℕ) → (a == 0) ≡ true → a ≡ 0
is_zero a e = eqb-true a 0 e

-- Texts

pub same_text_refl : (s : List ℕ) → same_text s s ≡ true
same_text_refl s = (bytes_decides s s).1 refl

pub same_text_is : (s t : List ℕ) → same_text s t ≡ true → s ≡ t
same_text_is s t e = equal_texts s t (sym e)

pub same_text_sym : (s t : List ℕ) → same_text s t ≡ true → same_text t s ≡ true
same_text_sym s t e = subst (λ (x : List ℕ). same_text x s ≡ true) (same_text_is s t e) (same_text_refl s)

pub same_text_turned : (s t : List ℕ) → same_text s t ≡ same_text t s
same_text_turned s t = same_tests (same_text s t) (same_text t s) (same_text_sym s t) (same_text_sym t s)

-- Lots

pub is_lot_refl : (l : LotId) → is_lot l l ≡ true
is_lot_refl l = λ i. same_text_refl l.gtin i && same_text_refl l.lot i

pub is_lot_is : (l m : LotId) → is_lot l m ≡ true → l ≡ m
is_lot_is l m e =
    let both = and_both (same_text l.gtin m.gtin) (same_text l.lot m.lot) e in
    let g = same_text_is l.gtin m.gtin both.0 in
    let t = same_text_is l.lot m.lot both.1 in
    λ i. record { gtin = g i; lot = t i }

pub is_lot_turned : (l m : LotId) → is_lot l m ≡ is_lot m l
is_lot_turned l m = λ i. same_text_turned l.gtin m.gtin i && same_text_turned l.lot m.lot i

pub is_lot_item : (l m : LotId) → is_lot l m ≡ true → same_text l.gtin m.gtin ≡ true
is_lot_item l m e = (and_both (same_text l.gtin m.gtin) (same_text l.lot m.lot) e).0

-- Look-ups

pub some_one : {X : Type 0} (a b : X) → ◌≡◌ {A = Option X} (Some a) (Some b) → a ≡ b
some_one a b e = cc
