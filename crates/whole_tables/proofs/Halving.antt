-- What a query of half a table shows, and how the halves make the whole.
use Rattle.whole_tables.proofs.Words.{◌≡◌, ◌↔◌, inl, inr, ℕ, ℤ, Bool, true, false, not, List, [], ◌∷◌, ◌++◌, ◌∙◌, Ordering, Less, Equal, Greater, is_le, is_gt, int_cmp, map, filter, true≢false, Some, Vec, Global, Result, Ok, Err, refl, sym, ap, ap₂, subst, arith, IsTrue, AllByRecursion, cases_Bool, ints, map-append, filter-append, Value, Null, Int, Real, Text, Blob, Binary, Database, Row, State, HasCleanDisk, Shown, reads_as, Compare, Le, Gt, is_true, from_truth, value_cmp, value_cmp-Int, all-append, all-filter, IsAscending, rowid, is_int, typed, schema_with, IsReady, TableFault, inside_then, and_true, both_typed, shown_typed, show, in_order, Described, IsLawful, kept_rows, Half, Lower, Upper, HalvesAre, test_of, is_in, half_of, FindsHalf, FindsStored, rows_of}
use Rattle.sqlite_sql.specs.Ops.{binary}
use Rattle.whole_tables.proofs.Calls.{unchanged_then, earlier}

module _ {X K : Type 0} (d : Described X K) (laws : IsLawful d) (text : Half → List ℕ) (are : HalvesAre d text) (part : Half) (middle : ℤ) (old new : State) (ready : IsReady old.now) (rows : List Row) (h : Shown (text part) (Int middle ∷ []) old new rows) where
  turn : rows ≡ map (show (Int middle ∷ []) d.shown) (half_of d part middle old.now.trees)
  turn =
      let rest = ready.has.rest in
      let read = reads_as (text part) (Int middle ∷ []) old new (schema_with rest) ready.has.is _ (are part rest).0 (are part rest).2 (are part rest).1 rows h in
      in_order old.now.trees (Int middle ∷ []) d.layout.tree (test_of part ∷ []) d.shown rows (kept_rows d laws old.now ready).0 (read.answer Null)

  -- they read as typed ones exactly if those that are stored do
  pub half_typed : AllByRecursion (λ r. d.is r ≡ true) (half_of d part middle old.now.trees) ↔ AllByRecursion (λ v. d.has v ≡ true) rows
  half_typed = both_typed d.has d.is (show (Int middle ∷ []) d.shown) (laws.has_shown (Int middle ∷ [])) (half_of d part middle old.now.trees) rows turn

  pub half_read : (xs : List X) → AllByRecursion (λ v. d.has v ≡ true) rows → map d.seen rows ≡ xs → xs ≡ typed d.is d.reads (half_of d part middle old.now.trees)
  half_read xs has is = shown_typed d.is d.reads d.has d.seen (show (Int middle ∷ []) d.shown) (laws.has_shown (Int middle ∷ [])) (laws.seen_shown (Int middle ∷ [])) _ rows xs turn has is

-- ---- both halves

truth_back : (b : Bool) → is_true (from_truth (Some b)) ≡ b
truth_back true = refl
truth_back false = refl

up_to : (z m : ℤ) → is_true (binary (Compare Le Binary) (Int z) (Int m)) ≡ is_le (int_cmp z m)
unfolding binary
up_to z m = truth_back (is_le (value_cmp (Int z) (Int m))) ∙ ap is_le (value_cmp-Int z m)

above : (z m : ℤ) → is_true (binary (Compare Gt Binary) (Int z) (Int m)) ≡ is_gt (int_cmp z m)
unfolding binary
above z m = truth_back (is_gt (value_cmp (Int z) (Int m))) ∙ ap is_gt (value_cmp-Int z m)

other_side : (o : Ordering) → is_gt o ≡ not (is_le o)
other_side Less = refl
other_side Equal = refl
other_side Greater = refl

lower_still : (a b m : ℤ) → int_cmp a b ≡ Less → is_le (int_cmp b m) ≡ true → is_le (int_cmp a m) ≡ true
lower_still a b m low h = grind (arith, ints)

-- of two rows the one with the lesser rowid is in the lower half if the other is
below : (m : ℤ) (v w : Value) → is_int v ≡ true → is_int w ≡ true → value_cmp v w ≡ Less → is_true (binary (Compare Le Binary) w (Int m)) ≡ true → is_true (binary (Compare Le Binary) v (Int m)) ≡ true
below m (Int a) (Int b) p q low h = up_to a m ∙ lower_still a b m (sym (value_cmp-Int a b) ∙ low) (sym (up_to b m) ∙ h)
below m Null w p q low h = absurd cc
below m (Real x) w p q low h = absurd cc
below m (Text t) w p q low h = absurd cc
below m (Blob t) w p q low h = absurd cc
below m (Int a) w p q low h = absurd cc

-- a row is in one half
one_side : (m : ℤ) (v : Value) → is_int v ≡ true → is_true (binary (Compare Gt Binary) v (Int m)) ≡ not (is_true (binary (Compare Le Binary) v (Int m)))
one_side m (Int z) h = above z m ∙ other_side (int_cmp z m) ∙ ap not (sym (up_to z m))
one_side m v h = absurd cc

none_pass : {X : Type 0} (p : X → Bool) (xs : List X) → AllByRecursion (λ x. p x ≡ false) xs → filter p xs ≡ []
none_pass p [] h = refl
none_pass p (x ∷ xs) h = rw h.0 (none_pass p xs h.1)

-- a list whose first elements pass, and the others do not
module _ (R : Row → Row → Type 0) (P : Row → Type 0) (p q : Row → Bool) (falls : (a b : Row) → P a → P b → R a b → p b ≡ true → p a ≡ true) (other : (a : Row) → P a → q a ≡ not (p a)) where
  none_after : (x : Row) (xs : List Row) → P x → p x ≡ false → AllByRecursion (R x) xs → AllByRecursion P xs → AllByRecursion (λ y. p y ≡ false) xs
  none_after x [] here not_x up all = tt
  none_after x (y ∷ ys) here not_x up all = (
    elim (cases_Bool (p y)) [ inl is_y ↦ absurd (true≢false (sym (falls x y here all.0 up.0 is_y) ∙ not_x)) | inr e ↦ e ],
    none_after x ys here not_x up.1 all.1,
  )

  parted : (xs : List Row) → IsAscending R xs → AllByRecursion P xs → (filter p xs ++ filter q xs) ≡ xs
  parted [] up all = refl
  parted (x ∷ xs) up all =
      let rest = parted xs up.1 all.1 in
      elim (cases_Bool (p x)) [
        | inl is_x ↦ rw (is_x, other x all.0 ∙ ap not is_x) (ap (λ l. x ∷ l) rest)
        | inr not_x ↦
            let none = none_pass p xs (none_after x xs all.0 not_x up.0 all.1) in
            let here : q x ≡ true = other x all.0 ∙ ap not not_x in
            rw (not_x, here, none) (ap (λ l. x ∷ l) (rw none at rest))
      ]

module _ {X K : Type 0} (d : Described X K) (laws : IsLawful d) (middle : ℤ) (db : Database) (ready : IsReady db) where
  pub halves_are : (half_of d Lower middle db.trees ++ half_of d Upper middle db.trees) ≡ db.trees d.layout.tree
  halves_are =
      let kept = kept_rows d laws db ready in
      parted (λ a b. value_cmp (rowid a) (rowid b) ≡ Less) (λ r. IsTrue (is_int (rowid r))) (is_in Lower middle) (is_in Upper middle)
      (λ a b p q low h. and_true _ ∙ below middle (rowid a) (rowid b) p q low (sym (and_true _) ∙ h))
      (λ a p. and_true _ ∙ one_side middle (rowid a) p ∙ ap not (sym (and_true _)))
      (db.trees d.layout.tree) kept.0 kept.1

  -- where both halves are typed, the table is, and its rows are those of the halves
  pub halves_typed : AllByRecursion (λ r. d.is r ≡ true) (half_of d Lower middle db.trees) → AllByRecursion (λ r. d.is r ≡ true) (half_of d Upper middle db.trees)
      → AllByRecursion (λ r. d.is r ≡ true) (db.trees d.layout.tree)
  halves_typed low high = subst (AllByRecursion (λ r. d.is r ≡ true)) halves_are (all-append (λ r. d.is r ≡ true) (half_of d Lower middle db.trees) (half_of d Upper middle db.trees) low high)

  pub halves_read : typed d.is d.reads (db.trees d.layout.tree) ≡ typed d.is d.reads (half_of d Lower middle db.trees) ++ typed d.is d.reads (half_of d Upper middle db.trees)
  halves_read = ap (typed d.is d.reads) (sym halves_are) ∙ ap (map d.reads) (filter-append d.is (half_of d Lower middle db.trees) (half_of d Upper middle db.trees)) ∙ map-append d.reads _ _

-- ---- the calls that read them

module _ {X K : Type 0} (d : Described X K) (laws : IsLawful d) (middle : ℤ) where
  abbrev Half_found : Half → State → State → Result (Vec X Global) TableFault → Type 0
  Half_found part old new r = FindsHalf {X = X} {A = Global} d part middle old new r

  abbrev All_found : State → State → Result (Vec X Global) TableFault → Type 0
  All_found old new r = FindsStored {X = X} {A = Global} d (rows_of d) old new r

  -- a half that is not typed leaves the table untyped
  half_untyped : (part : Half) (db : Database) → ¬ AllByRecursion (λ r. d.is r ≡ true) (half_of d part middle db.trees) → ¬ AllByRecursion (λ r. d.is r ≡ true) (rows_of d db.trees)
  half_untyped part db not_typed all = not_typed (all-filter (λ r. d.is r ≡ true) (is_in part middle) (rows_of d db.trees) all)

  pub lower_failed : (o m : State) (e : TableFault) → Half_found Lower o m (Err e) → All_found o m (Err e)
  lower_failed o m e h = record {
    rows = λ clean ready. tt;
    typed = λ clean ready. tt;
    foreign = λ clean ready is. half_untyped Lower o.now (h.foreign clean ready is);
    same = λ clean ready. tt;
    survives = h.survives;
  }

  module _ (o m n : State) (lower : Vec X Global) (h : Half_found Lower o m (Ok lower)) where
    then_is : HasCleanDisk m → IsReady o.now → m.now ≡ o.now
    then_is clean ready = (h.same clean ready).0.now_is

    pub upper_failed : (e : TableFault) → Half_found Upper m n (Err e) → All_found o n (Err e)
    upper_failed e i = record {
      rows = λ clean ready. tt;
      typed = λ clean ready. tt;
      foreign = λ clean ready is.
          let before = earlier m n i.survives clean in
          let there = then_is before ready in
          subst (λ (x : Database). ¬ AllByRecursion (λ r. d.is r ≡ true) (rows_of d x.trees)) there (half_untyped Upper m.now (i.foreign clean (subst IsReady (sym there) ready) is));
      same = λ clean ready. tt;
      survives = inside_then o m n h.survives i.survives;
    }

    pub both_found : (upper all : Vec X Global) → all.items ≡ lower.items ++ upper.items → Half_found Upper m n (Ok upper) → All_found o n (Ok all)
    both_found upper all is i = record {
      rows = λ clean ready.
          let before = earlier m n i.survives clean in
          let there = then_is before ready in
          let high = subst (λ (x : Database). upper.items ≡ typed d.is d.reads (half_of d Upper middle x.trees)) there (i.rows clean (subst IsReady (sym there) ready)) in
          is ∙ ap₂ ◌++◌ (h.rows before ready) high ∙ sym (halves_read d laws middle o.now ready);
      typed = λ clean ready.
          let before = earlier m n i.survives clean in
          let there = then_is before ready in
          let high = subst (λ (x : Database). AllByRecursion (λ r. d.is r ≡ true) (half_of d Upper middle x.trees)) there (i.typed clean (subst IsReady (sym there) ready)) in
          halves_typed d laws middle o.now ready (h.typed before ready) high;
      foreign = λ clean ready. tt;
      same = λ clean ready.
          let before = earlier m n i.survives clean in
          let there = then_is before ready in
          unchanged_then o m n (h.same before ready) (i.same clean (subst IsReady (sym there) ready));
      survives = inside_then o m n h.survives i.survives;
    }
