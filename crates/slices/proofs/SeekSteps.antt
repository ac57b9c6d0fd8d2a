-- Rows sought by texts, and lines of orders, one after another.
use Rattle.slices.proofs.Words.{◌≡◌, ℕ, ◌+◌, ◌<◌, length, map, take, Option, Bool, true, false, ◌&&◌, not, List, [], ◌∷◌, ◌++◌, Ok, refl, ap, sym, subst, ◌∙◌, ◌||◌, get_or, map_more, list_any, same_text, State, LineRow, no_two, and_both, and_false, not_true, same_text_is, same_text_turned, IsRead, is_among, listed, AreLinesOf, AreLinesFor, Each}
use Rattle.table_words.specs.Found as read
use Rattle.slices.proofs.ReadSteps.{then_answers}
use Rattle.slices.proofs.KnownSteps.{each_more, place}
use Rattle.slices.proofs.RowsTold.{read_none, read_both}

-- the rows of each of some texts, of which none is there twice
pub each_read : {K R : Type 0} (same : K → K → Bool) (key : R → K) → ((k m : K) → same k m ≡ true → k ≡ m) → ((k : K) → same k k ≡ true) → (given : K → Bool) (text : K → List ℕ) (row : K → Option R) (ks : List (List ℕ)) (rows : List R) → no_two same_text ks ≡ true
    → Each (λ j part. read.AreRows same key (λ k. given k && same_text j (text k)) row part) ks rows → read.AreRows same key (λ k. given k && is_among ks (text k)) row rows
each_read {K = K} {R = R} same key is own given text row [] rows once e =
    subst (λ (l : List R). read.AreRows same key (λ k. given k && false) row l) (sym e) (subst (λ (w : K → Bool). read.AreRows same key w row []) (λ i k. sym (and_false (given k)) i) (read_none same key is own row))
each_read {K = K} {R = R} same key is own given text row (j ∷ ks) rows once (xs, ys, p, more, e) =
    let two = and_both (not (list_any (same_text j) ks)) (no_two same_text ks) once in
    let rest = each_read same key is own given text row ks ys two.1 more in
    let both = read_both same key is own (λ k. given k && same_text j (text k)) (λ k. given k && is_among ks (text k)) row xs ys (λ k f. apart k f (not_true _ two.0)) p rest in
    subst (λ (l : List R). read.AreRows same key (λ k. given k && is_among (j ∷ ks) (text k)) row l) (sym e) (subst (λ (w : K → Bool). read.AreRows same key w row (xs ++ ys)) (λ i k. joined (given k) (text k) i) both)
  where
    apart : (k : K) → given k && same_text j (text k) ≡ true → list_any (same_text j) ks ≡ false → given k && is_among ks (text k) ≡ false
    apart k f none =
        let here : j ≡ text k = same_text_is j (text k) (and_both (given k) (same_text j (text k)) f).1 in
        ap (λ b. given k && b) (subst (λ (x : List ℕ). is_among ks x ≡ false) here none) ∙ and_false (given k)

    joined : (g : Bool) (x : List ℕ) → (g && same_text j x) || (g && is_among ks x) ≡ g && is_among (j ∷ ks) x
    joined true x = ap (λ b. b || is_among ks x) (same_text_turned j x)
    joined false x = refl

-- the texts before a place, and the one there
pub each_place : {X : Type 0} (f : X → List ℕ) (xs : List X) (i : ℕ) (x : X) → i < length xs → x ≡ get_or xs i x → map f (take (i + 1) xs) ≡ map f (take i xs) ++ f x ∷ []
each_place f xs i x less at = map_more f xs i x less ∙ ap (λ y. map f (take i xs) ++ f y ∷ []) (sym at)

-- an order's line for one more item
pub line_step : (gtins : List (List ℕ)) (o : List ℕ) (a b c : State) (i : ℕ) (g : List ℕ) (xs : List LineRow) (row : Option LineRow) → i < length gtins → g ≡ get_or gtins i g
    → IsRead {X = List LineRow} (λ t rows. AreLinesOf (take i gtins) t o rows) a b (Ok xs) → IsRead {X = Option LineRow} (λ t r. r ≡ t.line o g) b c (Ok row)
    → IsRead {X = List LineRow} (λ t rows. AreLinesOf (take (i + 1) gtins) t o rows) a c (Ok (xs ++ listed row))
line_step gtins o a b c i g xs row less at one two =
    then_answers {X = List LineRow} {Y = Option LineRow} {Z = List LineRow} (λ t rows. AreLinesOf (take i gtins) t o rows) (λ t r. r ≡ t.line o g) (λ t rows. AreLinesOf (take (i + 1) gtins) t o rows) a b c xs row (xs ++ listed row) one two
    (λ t h e. subst (λ (l : List (List ℕ)). Each (λ j part. part ≡ listed (t.line o j)) l (xs ++ listed row)) (sym (place gtins i g less at))
    (each_more (λ j part. part ≡ listed (t.line o j)) (take i gtins) g xs (listed row) h (ap listed e)))

-- an item's line in one more order
pub order_step : (orders : List (List ℕ)) (g : List ℕ) (a b c : State) (i : ℕ) (o : List ℕ) (xs : List LineRow) (row : Option LineRow) → i < length orders → o ≡ get_or orders i o
    → IsRead {X = List LineRow} (λ t rows. AreLinesFor (take i orders) t g rows) a b (Ok xs) → IsRead {X = Option LineRow} (λ t r. r ≡ t.line o g) b c (Ok row)
    → IsRead {X = List LineRow} (λ t rows. AreLinesFor (take (i + 1) orders) t g rows) a c (Ok (xs ++ listed row))
order_step orders g a b c i o xs row less at one two =
    then_answers {X = List LineRow} {Y = Option LineRow} {Z = List LineRow} (λ t rows. AreLinesFor (take i orders) t g rows) (λ t r. r ≡ t.line o g) (λ t rows. AreLinesFor (take (i + 1) orders) t g rows) a b c xs row (xs ++ listed row) one two
    (λ t h e. subst (λ (l : List (List ℕ)). Each (λ j part. part ≡ listed (t.line j g)) l (xs ++ listed row)) (sym (place orders i o less at))
    (each_more (λ j part. part ≡ listed (t.line j g)) (take i orders) o xs (listed row) h (ap listed e)))
