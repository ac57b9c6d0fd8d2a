-- Rows sought by one key after another.
use Rattle.slices.proofs.Words.{◌≡◌, ℕ, ◌+◌, ◌<◌, length, take, List, [], ◌∷◌, ◌++◌, Ok, refl, ap, sym, subst, ◌∙◌, append_assoc, get_or, take_more, State, Tables, append_none, IsRead, Each}
use Rattle.slices.proofs.ReadSteps.{then_answers}

-- the rows of a key alone
pub each_one : {K R : Type 0} (P : K → List R → Type 0) (k : K) (rows : List R) → Each P (k ∷ []) rows → P k rows
each_one P k rows (xs, ys, h, none, e) = subst (P k) (sym (e ∙ ap (λ l. xs ++ l) none ∙ append_none xs)) h

-- the rows of one more key
pub each_more : {K R : Type 0} (P : K → List R → Type 0) (ks : List K) (k : K) (xs ys : List R) → Each P ks xs → P k ys → Each P (ks ++ k ∷ []) (xs ++ ys)
each_more P [] k xs ys e h = (ys, [], h, refl, ap (λ l. l ++ ys) e ∙ sym (append_none ys))
each_more P (j ∷ ks) k xs ys (first, rest, p, more, e) h = (first, rest ++ ys, p, each_more P ks k rest ys more h, ap (λ l. l ++ ys) e ∙ append_assoc first rest ys)

-- the keys before a place, and the one there
pub place : {K : Type 0} (ks : List K) (i : ℕ) (k : K) → i < length ks → k ≡ get_or ks i k → take (i + 1) ks ≡ take i ks ++ k ∷ []
place ks i k less at = take_more ks i k less ∙ ap (λ y. take i ks ++ y ∷ []) (sym at)

module _ {K R : Type 0} (are_of : K → Tables → List R → Type 0) where
  pub seek_step : {X : Type 0} (rows : X → List R) (a b c : State) (done : List K) (k : K) (xs : List R) (found : X)
      → IsRead {X = List R} (λ t rows. Each (λ j part. are_of j t part) done rows) a b (Ok xs) → IsRead {X = X} (λ t found. are_of k t (rows found)) b c (Ok found)
      → IsRead {X = List R} (λ t rows. Each (λ j part. are_of j t part) (done ++ k ∷ []) rows) a c (Ok (xs ++ rows found))
  seek_step {X = X} rows a b c done k xs found one two =
      then_answers {X = List R} {Y = X} {Z = List R} (λ t rows. Each (λ j part. are_of j t part) done rows) (λ t found. are_of k t (rows found)) (λ t rows. Each (λ j part. are_of j t part) (done ++ k ∷ []) rows) a b c xs found (xs ++ rows found) one two
      (λ t h g. each_more (λ j part. are_of j t part) done k xs (rows found) h g)

  -- the rows of the key at a place, behind those of the keys before it
  pub key_step : {X : Type 0} (rows : X → List R) (a b c : State) (ks : List K) (i : ℕ) (k : K) (xs : List R) (found : X) → i < length ks → k ≡ get_or ks i k
      → IsRead {X = List R} (λ t rows. Each (λ j part. are_of j t part) (take i ks) rows) a b (Ok xs) → IsRead {X = X} (λ t found. are_of k t (rows found)) b c (Ok found)
      → IsRead {X = List R} (λ t rows. Each (λ j part. are_of j t part) (take (i + 1) ks) rows) a c (Ok (xs ++ rows found))
  key_step {X = X} rows a b c ks i k xs found less at one two =
      subst (λ (l : List K). IsRead {X = List R} (λ t rows. Each (λ j part. are_of j t part) l rows) a c (Ok (xs ++ rows found))) (sym (place ks i k less at)) (seek_step rows a b c (take i ks) k xs found one two)
