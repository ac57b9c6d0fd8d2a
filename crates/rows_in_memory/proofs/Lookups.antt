-- What a map by items tells of the orders with an item.
use Rattle.rows_in_memory.proofs.Words.{◌≡◌, ℕ, true, false, cond, List, [], ◌∷◌, map, refl, ap, sym, subst, ◌∙◌, reverse, if◌then◌else◌, Option, Some, None, Result, Ok, Err, OnOk, OnErr, nat_cmp, slice_cmp, texts_ties, is_at, lookup, exact_bytes, tells_apart, same_text, same_text_is, turned_same, turned_across, orders_at, Entries, without_order, ChangesAt, IsSame}

-- the names that a look-up finds
abbrev pub told : Option (List (List ℕ)) → List (List ℕ)
told None = []
told (Some names) = names

-- the entries as contracts see them: with the items, which the keys have turned round
abbrev pub seen : Entries → Entries
seen = map (λ e. (reverse e.0, e.1))

pub orders_found : (g : List ℕ) (es : Entries) → orders_at (seen es) g ≡ told (lookup (is_at (slice_cmp nat_cmp (reverse g))) es)
orders_found g [] = refl
orders_found g (e ∷ es) =
    ap (λ b. if b then e.1 else orders_at (seen es) g) (turned_across g e.0 ∙ texts_ties (reverse g) e.0)
    ∙ elim (is_at (slice_cmp nat_cmp (reverse g)) e.0) as (λ b. (if b then e.1 else orders_at (seen es) g) ≡ told (cond b (Some e.1) (lookup (is_at (slice_cmp nat_cmp (reverse g))) es))) [
      | true ↦ refl
      | false ↦ orders_found g es
    ]

-- what is found of a map with other names at one item
pub changed_at : (k : List ℕ) (old new : Entries) (names : List (List ℕ)) (change : List (List ℕ) → List (List ℕ))
    → ((q : List ℕ) → lookup (is_at (slice_cmp nat_cmp q)) new ≡ cond (is_at (slice_cmp nat_cmp (reverse k)) q) (Some names) (lookup (is_at (slice_cmp nat_cmp q)) old))
    → names ≡ change (told (lookup (is_at (slice_cmp nat_cmp (reverse k))) old)) → ChangesAt k change (seen old) (seen new)
changed_at k old new names change updates is g =
    orders_found g new ∙ ap told (updates (reverse g))
    ∙ elim (is_at (slice_cmp nat_cmp (reverse k)) (reverse g)) as (λ b. is_at (slice_cmp nat_cmp (reverse k)) (reverse g) ≡ b → told (cond b (Some names) (lookup (is_at (slice_cmp nat_cmp (reverse g))) old)) ≡ (if b then change (orders_at (seen old) g) else orders_at (seen old) g)) [
      | true ↦ λ e. is ∙ ap change (ap (λ x. told (lookup (is_at (slice_cmp nat_cmp x)) old)) (tells_apart exact_bytes (reverse k) (reverse g) e) ∙ sym (orders_found g old))
      | false ↦ λ e. sym (orders_found g old)
    ] refl
    ∙ ap (λ b. if b then change (orders_at (seen old) g) else orders_at (seen old) g) (sym (texts_ties (reverse k) (reverse g)) ∙ turned_same k g)

-- the names that a look-up of the map found are those of the item
pub found_at : (g k : List ℕ) (es s : Entries) (x : Option (List (List ℕ))) → seen es ≡ s → k ≡ reverse g → x ≡ lookup (is_at (slice_cmp nat_cmp k)) es → told x ≡ orders_at s g
found_at g k es s x is same found = ap told found ∙ ap (λ q. told (lookup (is_at (slice_cmp nat_cmp q)) es)) same ∙ sym (orders_found g es) ∙ ap (λ e. orders_at e g) is

-- the map with other names at an item
pub changed_in : (g k : List ℕ) (old new s : Entries) (x : Option (List (List ℕ))) (names : List (List ℕ)) (change : List (List ℕ) → List (List ℕ))
    → seen old ≡ s → k ≡ reverse g → x ≡ lookup (is_at (slice_cmp nat_cmp k)) old
    → ((q : List ℕ) → lookup (is_at (slice_cmp nat_cmp q)) new ≡ cond (is_at (slice_cmp nat_cmp k) q) (Some names) (lookup (is_at (slice_cmp nat_cmp q)) old))
    → names ≡ change (told x) → ChangesAt g change s (seen new)
changed_in g k old new s x names change is same found updates value =
    subst (λ (e : Entries). ChangesAt g change e (seen new)) is
    (changed_at g old new names change
    (λ q. updates q ∙ ap (λ z. cond (is_at (slice_cmp nat_cmp z) q) (Some names) (lookup (is_at (slice_cmp nat_cmp q)) old)) same)
    (value ∙ ap (λ y. change (told y)) (found ∙ ap (λ z. lookup (is_at (slice_cmp nat_cmp z)) old) same)))

-- an item that is not there has no names, so nothing is taken from them
pub same_if_none : (o g : List ℕ) (s new : Entries) → orders_at s g ≡ [] → new ≡ s → ChangesAt g (without_order o) s new
same_if_none o g s new none is q =
    ap (λ e. orders_at e q) is
    ∙ elim (same_text g q) as (λ b. same_text g q ≡ b → orders_at s q ≡ (if b then without_order o (orders_at s q) else orders_at s q)) [
      | true ↦ λ e. let here : orders_at s q ≡ [] = ap (orders_at s) (sym (same_text_is g q e)) ∙ none in here ∙ ap (without_order o) (sym here)
      | false ↦ λ e. refl
    ] refl

-- nothing is changed
pub unchanged_at : (k : List ℕ) (old new : Entries) → ChangesAt k (λ names. names) old new → IsSame old new
unchanged_at k old new changes g = changes g ∙ elim (same_text k g) as (λ b. (if b then orders_at old g else orders_at old g) ≡ orders_at old g) [ true ↦ refl | false ↦ refl ]

-- what follows of an answer
pub ok_then : {X E P Q : Type 0} (r : Result X E) → OnOk r P → (P → Q) → OnOk r Q
ok_then (Ok x) p f = f p
ok_then (Err e) p f = tt

pub err_then : {X E P Q : Type 0} (r : Result X E) → OnErr r P → (P → Q) → OnErr r Q
err_then (Ok x) p f = tt
err_then (Err e) p f = f p
