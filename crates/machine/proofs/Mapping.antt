-- Maps over lists put together and over lists turned round.
use Rattle.machine.proofs.Words.{◌≡◌, List, [], ◌∷◌, ◌++◌, refl, ap, sym, ◌∙◌, map, reverse, reverse-append}

pub map_appended : {A B : Type 0} (f : A → B) (xs ys : List A) → map f (xs ++ ys) ≡ map f xs ++ map f ys
map_appended f [] ys = refl
map_appended f (x ∷ xs) ys = ap (λ zs. f x ∷ zs) (map_appended f xs ys)

pub map_reversed : {A B : Type 0} (f h : A → B) (xs : List A) → map f xs ≡ map h xs → map f (reverse xs) ≡ map h (reverse xs)
map_reversed f h xs e = turned f xs ∙ ap reverse e ∙ sym (turned h xs)
  where
    turned : {A B : Type 0} (f : A → B) (xs : List A) → map f (reverse xs) ≡ reverse (map f xs)
    turned f [] = refl
    turned f (x ∷ xs) = ap (map f) (reverse-append (x ∷ []) xs) ∙ map_appended f (reverse xs) (x ∷ []) ∙ ap (λ ys. ys ++ f x ∷ []) (turned f xs) ∙ sym (reverse-append (f x ∷ []) (map f xs))
