-- Truth values.
use Rattle.rows_in_memory.proofs.Words.{◌≡◌, Bool, true, false, ◌&&◌, not, refl, ◌||◌}

pub and_both : (a b : Bool) → a && b ≡ true → (a ≡ true) × (b ≡ true)
and_both true b e = (refl, e)
and_both false b e = let f : false ≡ true = e in cc

pub and_true : (a b : Bool) → a ≡ true → b ≡ true → a && b ≡ true
and_true true b e f = f
and_true false b e f = let g : false ≡ true = e in cc

pub or_none : (a b : Bool) → a || b ≡ false → (a ≡ false) × (b ≡ false)
or_none true b e = let f : true ≡ false = e in cc
or_none false b e = (refl, e)

pub or_false : (a : Bool) → a || false ≡ a
or_false true = refl
or_false false = refl

pub or_true : (a : Bool) → a || true ≡ true
or_true true = refl
or_true false = refl

pub and_false : (a : Bool) → a && false ≡ false
and_false true = refl
and_false false = refl

pub or_grouped : (a b c : Bool) → (a || b) || c ≡ a || (b || c)
or_grouped true b c = refl
or_grouped false b c = refl

pub or_first : (a b : Bool) → a ≡ true → a || b ≡ true
or_first true b e = refl
or_first false b e = let f : false ≡ true = e in cc

pub not_true : (a : Bool) → not a ≡ true → a ≡ false
not_true true e = let f : false ≡ true = e in cc
not_true false e = refl
