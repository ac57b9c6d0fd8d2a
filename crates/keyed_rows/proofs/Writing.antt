-- Writes one after another.
use Rattle.keyed_rows.proofs.Words.{List, [], ◌∷◌, ◌++◌, ◌+◌, ◌<◌, ◌≤◌, length, take, get_or, ◌≡◌, ◌≢◌, inl, inr, ℕ, Result, Ok, Err, refl, sym, ap, subst, ◌∙◌, arith, IsErr, IsErrAnd, take_more, take_all, Held, state, State, HasCleanDisk, Survives, KeepsCommit, Tables, IsReady, Goes, ChangesNone, Counts, TableFault, Foreign, goes_then, kept_itself, kept_then, inside_itself, inside_then, WritesBy, Writes, WereTyped, WritesInside, Ran, each_written}
use Rattle.sqlite.specs.Order.{Row}
use Rattle.sqlite.specs.Store.{Ghosts}

-- nothing is done
pub writes_none : {X : Type 0} (to : X → Tables → Tables) (s : State) (e : TableFault) → e ≢ Foreign → WritesBy to s s (Err e)
writes_none to s e other = record { done = λ _ _. tt; kept = λ _. kept_itself s; survives = inside_itself s; never_foreign = other }

earlier : (a b : State) → Survives a b (λ _. ⊥) → HasCleanDisk b → HasCleanDisk a
earlier a b h clean = omega (arith, clean, h.clean)

-- a write after one that answered
pub writes_then : {X Y : Type 0} (to : X → Tables → Tables) (next : Y → Tables → Tables) (a b c : State) (x : X) (r : Result Y TableFault) → WritesBy to a b (Ok x) → WritesBy next b c r → WritesBy (λ y t. next y (to x t)) a c r
writes_then to next a b c x (Ok y) one two = record {
  done = λ clean ready. let p = one.done (earlier b c two.survives clean) ready in goes_then (to x) (next y) a b c p (two.done clean p.ready);
  kept = λ clean. kept_then a b c (one.kept (earlier b c two.survives clean)) (two.kept clean);
  survives = inside_then a b c one.survives two.survives;
  never_foreign = tt;
}
writes_then to next a b c x (Err e) one two = record {
  done = λ _ _. tt;
  kept = λ clean. kept_then a b c (one.kept (earlier b c two.survives clean)) (two.kept clean);
  survives = inside_then a b c one.survives two.survives;
  never_foreign = two.never_foreign;
}

-- a call after one that was refused
module _ {S Y : Type 0} (g : Ghosts S) (next : Y → Tables → Tables) (a b c : Held S) (e : TableFault) (y : Y) (spared : HasCleanDisk (state g b) → IsReady (state g a).now → ChangesNone (state g a) (state g b)) (kept : HasCleanDisk (state g b) → KeepsCommit (state g a) (state g b)) (survived : Survives (state g a) (state g b) (λ _. ⊥)) (other : e ≢ Foreign) where
  went_on : WritesInside g next b c (Ok y) → HasCleanDisk (state g c) → IsReady (state g a).now → Goes (λ t. t) (state g a) (state g b)
  went_on two clean ready = go (spared (earlier (state g b) (state g c) two.writes.survives clean) ready)
    where
      go : ChangesNone (state g a) (state g b) → Goes (λ t. t) (state g a) (state g b)
      go (inl h) = h
      go (inr h) = absurd (let out = h.autocommit in let here = two.inside clean in cc)

  pub writes_after : {Z : Type 0} (z : Z) (to : Z → Tables → Tables) → to z ≡ next y → WritesInside g next b c (Ok y) → WritesBy to (state g a) (state g c) (Ok z)
  writes_after z to same two = record {
    done = λ clean ready.
        let on = went_on two clean ready in
        subst (λ f. Goes f (state g a) (state g c)) (sym same) (goes_then (λ t. t) (next y) (state g a) (state g b) (state g c) on (two.writes.done clean on.ready));
    kept = λ clean. kept_then (state g a) (state g b) (state g c) (kept (earlier (state g b) (state g c) two.writes.survives clean)) (two.writes.kept clean);
    survives = inside_then (state g a) (state g b) (state g c) survived two.writes.survives;
    never_foreign = tt;
  }

-- a statement that ran
pub ran_writes : {S X : Type 0} (g : Ghosts S) (sql : List ℕ) (params : Row) (old new : Held S) (n : ℕ) (x : X) (to : X → Tables → Tables) → Ran g sql params old new (Ok n)
    → (IsReady (state g old).now → Counts n sql params (state g old) (state g new) → Goes (to x) (state g old) (state g new)) → WritesInside g to old new (Ok x)
ran_writes g sql params old new n x to h goes = record {
  writes = record { done = λ clean ready. goes ready (h.ran clean); kept = h.kept; survives = h.survives; never_foreign = tt };
  refused = λ _ _. tt;
  inside = λ clean. (h.ran clean).inside;
  outside = h.outside;
}

-- the same change, told by another answer
pub tells : {X Z : Type 0} (to : X → Tables → Tables) (told : Z → Tables → Tables) (a b : State) (x : X) (z : Z) → to x ≡ told z → WritesBy to a b (Ok x) → WritesBy told a b (Ok z)
tells to told a b x z same one = record { done = λ clean ready. subst (λ f. Goes f a b) same (one.done clean ready); kept = one.kept; survives = one.survives; never_foreign = tt }

-- ---- rows one after another

each_more : {R : Type 0} (write : R → Tables → Tables) (rs : List R) (r : R) (t : Tables) → each_written write (rs ++ r ∷ []) t ≡ write r (each_written write rs t)
each_more write [] r t = refl
each_more write (x ∷ rs) r t = each_more write rs r (write x t)

pub writes_first : {R : Type 0} (write : R → Tables → Tables) (s : State) → Writes {X = Unit {0}} (each_written write []) s s (Ok tt)
writes_first write s = record { done = λ _ ready. record { ready = ready; tables = refl; mode = refl; typed = λ h. h }; kept = λ _. kept_itself s; survives = inside_itself s; never_foreign = tt }

-- one row more
pub writes_more : {R : Type 0} (write : R → Tables → Tables) (rs : List R) (i : ℕ) (r : R) (a b c : State) → i < length rs → r ≡ get_or rs i r → Writes {X = Unit {0}} (each_written write (take i rs)) a b (Ok tt) → Writes {X = Unit {0}} (write r) b c (Ok tt)
    → Writes {X = Unit {0}} (each_written write (take (i + 1) rs)) a c (Ok tt)
writes_more write rs i r a b c low is one two =
    let next : take (i + 1) rs ≡ take i rs ++ r ∷ [] = take_more rs i r low ∙ ap (λ x. take i rs ++ x ∷ []) (sym is) in
    let same : ((t : Tables) → write r (each_written write (take i rs) t) ≡ each_written write (take (i + 1) rs) t) = λ t. sym (ap (λ l. each_written write l t) next ∙ each_more write (take i rs) r t) in
    subst (λ (f : Tables → Tables). Writes {X = Unit {0}} f a c (Ok tt)) (λ j t. same t j) (writes_then (λ _. each_written write (take i rs)) (λ _. write r) a b c tt (Ok tt) one two)

-- so each stored row was typed before the rows so far, if each is after one more
pub were_first : (s : State) → WereTyped {X = Unit {0}} s s (Ok tt)
were_first s clean ready = λ are. are

pub were_more : (to next : Tables → Tables) (a b c : State) → Writes {X = Unit {0}} to a b (Ok tt) → WereTyped {X = Unit {0}} a b (Ok tt) → Writes {X = Unit {0}} next b c (Ok tt) → WereTyped {X = Unit {0}} b c (Ok tt) → WereTyped {X = Unit {0}} a c (Ok tt)
were_more to next a b c one before two after clean ready =
    let was = earlier b c two.survives clean in
    λ are. before was ready (after clean (one.done was ready).ready are)

-- a failure that is handed on
pub same_error : {X : Type 0} (r : Result X TableFault) (f : TableFault) → IsErr r × IsErrAnd r (λ e. e ≡ f) → (P : Result X TableFault → Type 0) → P (Err f) → P r
same_error (Ok x) f h P p = absurd (let no = h.0 in cc)
same_error (Err e) f h P p = subst (λ (x : TableFault). P (Err x)) (sym h.1) p

-- one that fails
pub writes_failed : {X Y Z : Type 0} (to : X → Tables → Tables) (next : Y → Tables → Tables) (told : Z → Tables → Tables) (a b c : State) (x : X) (e : TableFault) (r : Result Z TableFault) → IsErr r × IsErrAnd r (λ f. f ≡ e)
    → WritesBy to a b (Ok x) → WritesBy next b c (Err e) → WritesBy told a c r
writes_failed to next told a b c x e r is one two = same_error r e is (λ r. WritesBy told a c r) (record {
  done = λ _ _. tt;
  kept = λ clean. kept_then a b c (one.kept (earlier b c two.survives clean)) (two.kept clean);
  survives = inside_then a b c one.survives two.survives;
  never_foreign = two.never_foreign;
})

-- all of them
pub writes_all : {R : Type 0} (write : R → Tables → Tables) (rs : List R) (i : ℕ) (a b : State) → length rs ≤ i → Writes {X = Unit {0}} (each_written write (take i rs)) a b (Ok tt) → Writes {X = Unit {0}} (each_written write rs) a b (Ok tt)
writes_all write rs i a b all one = subst (λ l. Writes {X = Unit {0}} (each_written write l) a b (Ok tt)) (take_all i rs all) one
