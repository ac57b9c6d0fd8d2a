-- One value more or less in a list beside the keys of its values.
use Rattle.rows_in_memory.proofs.Words.{◌≡◌, Bool, true, false, ◌&&◌, not, cond, List, [], ◌∷◌, ◌++◌, refl, ap, sym, ◌∙◌, ◌||◌, Ordering, is_eq, is_at, BTreeSet, contains, list_any, list_any-append, or_false, has_key, AreKeyed}

-- the same keys are those of the same values
pub keyed_as : {T K : Type 0} (cmp : K → K → Ordering) (key : T → K) (same : T → T → Bool) (keys after : BTreeSet K) (values new : List T) → after.keys ≡ keys.keys → new ≡ values → AreKeyed cmp key same keys values → AreKeyed cmp key same after new
keyed_as cmp key same keys after values new is alike keyed x = ap (list_any (is_at (cmp (key x)))) is ∙ keyed x ∙ ap (λ xs. has_key same xs x) (sym alike)

module _ {T K : Type 0} (cmp : K → K → Ordering) (key : T → K) (same : T → T → Bool) (told : (x y : T) → is_eq (cmp (key y) (key x)) ≡ same x y) where
  -- its key is added to the keys
  pub keyed_with : (keys more : BTreeSet K) (values known new : List T) (value : T) → AreKeyed cmp key same keys values → ((q : K) → contains cmp more q ≡ cond (is_at (cmp (key value)) q) true (contains cmp keys q)) → known ≡ values → new ≡ known ++ value ∷ []
      → AreKeyed cmp key same more new
  keyed_with keys more values known new value keyed updates alike grown x =
      updates (key x)
      ∙ (λ i. cond (told x value i) true (keyed x i))
      ∙ turned (same x value) (has_key same values x)
      ∙ sym (ap (λ xs. has_key same xs x) (grown ∙ ap (λ xs. xs ++ value ∷ []) alike) ∙ list_any-append (same x) values (value ∷ []) ∙ ap (λ b. has_key same values x || b) (or_false (same x value)))
    where
      turned : (a b : Bool) → cond a true b ≡ b || a
      turned true true = refl
      turned true false = refl
      turned false true = refl
      turned false false = refl

  -- its key is taken from the keys
  pub keyed_without : (keys less : BTreeSet K) (values new : List T) (value : T) → AreKeyed cmp key same keys values → ((q : K) → contains cmp less q ≡ cond (is_at (cmp (key value)) q) false (contains cmp keys q))
      → ((x : T) → has_key same new x ≡ has_key same values x && not (same x value)) → AreKeyed cmp key same less new
  keyed_without keys less values new value keyed updates gone x =
      updates (key x)
      ∙ (λ i. cond (told x value i) false (keyed x i))
      ∙ turned (same x value) (has_key same values x)
      ∙ sym (gone x)
    where
      turned : (a b : Bool) → cond a false b ≡ b && not a
      turned true true = refl
      turned true false = refl
      turned false true = refl
      turned false false = refl
