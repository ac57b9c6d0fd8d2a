-- What is made of the rows of a list, one after another.
use Rattle.changes.proofs.Words.{◌≡◌, ℕ, ◌+◌, ◌<◌, Bool, ◌&&◌, List, [], ◌∷◌, ◌++◌, map, length, take, refl, sym, ap, subst, ◌∙◌, append_assoc, get_or, flat_map, AllByRecursion, list_all, take_more, all-append, Tables, each_written}

pub map_both : {X Y : Type 0} (f : X → Y) (xs ys : List X) → map f (xs ++ ys) ≡ map f xs ++ map f ys
map_both f [] ys = refl
map_both f (x ∷ xs) ys = ap (λ l. f x ∷ l) (map_both f xs ys)

none_behind : {X : Type 0} (xs : List X) → xs ++ [] ≡ xs
none_behind [] = refl
none_behind (x ∷ xs) = ap (λ l. x ∷ l) (none_behind xs)

flat_both : {X Y : Type 0} (f : X → List Y) (xs : List X) (x : X) → flat_map f (xs ++ x ∷ []) ≡ flat_map f xs ++ f x
flat_both f [] x = none_behind (f x)
flat_both f (y ∷ xs) x = ap (λ l. f y ++ l) (flat_both f xs x) ∙ sym (append_assoc (f y) (flat_map f xs) (f x))

-- the first ones, and the one behind them
pub place : {X : Type 0} (xs : List X) (i : ℕ) (x : X) → i < length xs → x ≡ get_or xs i x → take (i + 1) xs ≡ take i xs ++ x ∷ []
place xs i x less at = take_more xs i x less ∙ ap (λ y. take i xs ++ y ∷ []) (sym at)

pub map_more : {X Y : Type 0} (f : X → Y) (xs : List X) (i : ℕ) (x : X) → i < length xs → x ≡ get_or xs i x → map f (take (i + 1) xs) ≡ map f (take i xs) ++ f x ∷ []
map_more f xs i x less at = ap (map f) (place xs i x less at) ∙ map_both f (take i xs) (x ∷ [])

pub flat_more : {X Y : Type 0} (f : X → List Y) (xs : List X) (i : ℕ) (x : X) → i < length xs → x ≡ get_or xs i x → flat_map f (take (i + 1) xs) ≡ flat_map f (take i xs) ++ f x
flat_more f xs i x less at = ap (flat_map f) (place xs i x less at) ∙ flat_both f (take i xs) x

pub all_more : {X : Type 0} (P : X → Type 0) (xs : List X) (i : ℕ) (x : X) → i < length xs → x ≡ get_or xs i x → AllByRecursion P (take i xs) → P x → AllByRecursion P (take (i + 1) xs)
all_more P xs i x less at all h = subst (AllByRecursion P) (sym (place xs i x less at)) (all-append P (take i xs) (x ∷ []) all (h, tt))

-- what is so of the columns of rows is so of the rows
pub flat_mapped : {X Y Z : Type 0} (f : X → Y) (g : Y → List Z) (h : X → List Z) → ((x : X) → g (f x) ≡ h x) → (xs : List X) → flat_map g (map f xs) ≡ flat_map h xs
flat_mapped f g h same [] = refl
flat_mapped f g h same (x ∷ xs) = λ i. same x i ++ flat_mapped f g h same xs i

pub all_mapped : {X Y : Type 0} (f : X → Y) (P : Y → Type 0) (Q : X → Type 0) → ((x : X) → P (f x) → Q x) → (xs : List X) → AllByRecursion P (map f xs) → AllByRecursion Q xs
all_mapped f P Q into [] h = tt
all_mapped f P Q into (x ∷ xs) h = (into x h.0, all_mapped f P Q into xs h.1)

pub tests_mapped : {X Y : Type 0} (f : X → Y) (p : Y → Bool) (q : X → Bool) → ((x : X) → p (f x) ≡ q x) → (xs : List X) → list_all p (map f xs) ≡ list_all q xs
tests_mapped f p q same [] = refl
tests_mapped f p q same (x ∷ xs) = λ i. same x i && tests_mapped f p q same xs i

-- rows that are written in two parts
pub each_both : {R : Type 0} (write : R → Tables → Tables) (xs ys : List R) (t : Tables) → each_written write (xs ++ ys) t ≡ each_written write ys (each_written write xs t)
each_both write [] ys t = refl
each_both write (x ∷ xs) ys t = each_both write xs ys (write x t)
