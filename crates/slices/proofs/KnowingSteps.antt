-- Reads one after another, where some of the rows are known.
use Rattle.slices.proofs.Words.{◌≡◌, ℕ, ◌+◌, ◌<◌, length, take, List, [], ◌∷◌, ◌++◌, Result, Ok, sym, subst, get_or, State, Tables, IsRead, Each, Knowing, TableFault}
use Rattle.slices.proofs.ReadSteps.{then_answers, so_told, as_told}
use Rattle.slices.proofs.KnownSteps.{each_more, place}

module _ {K R : Type 0} (are_of : K → Tables → List R → Type 0) where
  abbrev Keyed : List K → Tables → List R → Type 0
  Keyed ks t rows = Each (λ j part. are_of j t part) ks rows

  -- the rows of the key at a place, behind those of the keys before it
  pub known_step : {X : Type 0} (rows : X → List R) (knew mid knows : Tables → Type 0) (a b c : State) (ks : List K) (i : ℕ) (k : K) (xs : List R) (found : X) → i < length ks → k ≡ get_or ks i k
      → IsRead {X = List R} (Knowing knew mid (Keyed (take i ks))) a b (Ok xs) → IsRead {X = X} (Knowing mid knows (λ t found. are_of k t (rows found))) b c (Ok found)
      → IsRead {X = List R} (Knowing knew knows (Keyed (take (i + 1) ks))) a c (Ok (xs ++ rows found))
  known_step {X = X} rows knew mid knows a b c ks i k xs found less at one two =
      subst (λ (l : List K). IsRead {X = List R} (Knowing knew knows (Keyed l)) a c (Ok (xs ++ rows found))) (sym (place ks i k less at))
      (then_answers {X = List R} {Y = X} {Z = List R} (Knowing knew mid (Keyed (take i ks))) (Knowing mid knows (λ t found. are_of k t (rows found))) (Knowing knew knows (Keyed (take i ks ++ k ∷ []))) a b c xs found (xs ++ rows found) one two
      (λ t h g known. let before = h known in let more = g before.1 in (each_more (λ j part. are_of j t part) (take i ks) k xs (rows found) before.0 more.0, more.1)))

-- what is known is not asked, and stays
pub unasked : {X : Type 0} {P : Tables → X → Type 0} {a b : State} {r : Result X TableFault} (knew : Tables → Type 0) → IsRead P a b r → IsRead (Knowing knew knew P) a b r
unasked {P = P} {a = a} {b = b} {r = r} knew one = as_told {P = P} {Q = Knowing knew knew P} one (λ t x told known. (told, known))

-- two reads tell what each tells
pub and_known : {X Y : Type 0} {knew mid knows : Tables → Type 0} {P : Tables → X → Type 0} {Q : Tables → Y → Type 0} {a b c : State} {x : X} {y : Y} → IsRead (Knowing knew mid P) a b (Ok x) → IsRead (Knowing mid knows Q) b c (Ok y)
    → IsRead {X = X × Y} (Knowing knew knows (λ t z. P t z.0 × Q t z.1)) a c (Ok (x, y))
and_known {X = X} {Y = Y} {knew = knew} {mid = mid} {knows = knows} {P = P} {Q = Q} {a = a} {b = b} {c = c} {x = x} {y = y} one two =
    then_answers {X = X} {Y = Y} {Z = X × Y} (Knowing knew mid P) (Knowing mid knows Q) (Knowing knew knows (λ t z. P t z.0 × Q t z.1)) a b c x y (x, y) one two
    (λ t p q known. let first = p known in let second = q first.1 in ((first.0, second.0), second.1))

-- what follows from what is told
pub known_told : {X Y : Type 0} {knew knows : Tables → Type 0} {P : Tables → X → Type 0} {Q : Tables → Y → Type 0} {a b : State} {x : X} {y : Y} → IsRead (Knowing knew knows P) a b (Ok x) → ((t : Tables) → P t x → Q t y) → IsRead (Knowing knew knows Q) a b (Ok y)
known_told {knew = knew} {knows = knows} {P = P} {Q = Q} one more = so_told {P = Knowing knew knows P} {Q = Knowing knew knows Q} one (λ t p known. let told = p known in (more t told.0, told.1))

-- the same of whatever a read answers
pub known_as : {X : Type 0} {knew knows : Tables → Type 0} {P Q : Tables → X → Type 0} {a b : State} {r : Result X TableFault} → IsRead (Knowing knew knows P) a b r → ((t : Tables) (x : X) → P t x → Q t x) → IsRead (Knowing knew knows Q) a b r
known_as {knew = knew} {knows = knows} {P = P} {Q = Q} one more = as_told {P = Knowing knew knows P} {Q = Knowing knew knows Q} one (λ t x p known. let told = p known in (more t x told.0, told.1))

-- what is known of one table is known among what is known of them all
pub known_among : {X : Type 0} {P : Tables → X → Type 0} {a b : State} {r : Result X TableFault} {knew knows one_knew one_knows : Tables → Type 0} → IsRead (Knowing one_knew one_knows P) a b r → ((t : Tables) → knew t → one_knew t) → ((t : Tables) → knew t → one_knows t → knows t) → IsRead (Knowing knew knows P) a b r
known_among {P = P} {knew = knew} {knows = knows} {one_knew = one_knew} {one_knows = one_knows} read into back =
    as_told {P = Knowing one_knew one_knows P} {Q = Knowing knew knows P} read (λ t x p known. let told = p (into t known) in (told.0, back t known told.1))
