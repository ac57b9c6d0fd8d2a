-- What a statement that drops an index of the books leaves of older books.
use Rattle.books_schema.proofs.Words.{◌≡◌, ◌+◌, inl, inr, ℕ, Bool, true, false, not, None, Some, slice_get, Option, List, [], ◌∷◌, ◌++◌, filter, length, Ok, refl, sym, ap, subst, ◌∙◌, append_assoc, arith, cases_Bool, and_parts, or_cases, or_parts, not-true, eq-eqb, ne_eqb, ltb-true, common_steps, gets, bytes_eq-Decides, ◌==◌, bytes_eq, nat_lt, AllByRecursion, list_all, list_any, position_from, DropIndex, Nothing, without_index, Tally, AtPlace, Defines, Leaves, Database, IsDatabase, RefusesToAlter, Schema, State, mode_of, ExecutesInside, Trees, IsPlain, command_of, runs_as, same_name, Index, RefusesToDropIndex, same_itself, all_both, all_weaker, all_from_test, no_two, went, same_value, plan, PlainIndex, is_of, older_tables, older_keys, last_tree, older_with, our_indexes, is_index_of_books, is_ours, same_named, AreOurs, KeepsOlderRows, HasOurs, lacks, HasFewer, drop_found, Drops, OlderBooks, First, Second}

-- ---- what a filter keeps

front_stays : (p : Index → Bool) (xs ys : List Index) → AllByRecursion (λ x. p x ≡ true) xs → filter p (xs ++ ys) ≡ xs ++ filter p ys
front_stays p [] ys h = refl
front_stays p (x ∷ xs) ys h = rw h.0 (ap (λ l. x ∷ l) (front_stays p xs ys h.1))

all_filtered : (q p : Index → Bool) (xs : List Index) → list_all q xs ≡ true → list_all q (filter p xs) ≡ true
all_filtered q p [] h = refl
all_filtered q p (x ∷ xs) h =
    let two = and_parts (q x) (list_all q xs) h in
    let more = all_filtered q p xs two.1 in
    elim (cases_Bool (p x)) [ inl e ↦ rw (e, two.0) more | inr e ↦ rw e more ]

none_filtered : (q p : Index → Bool) (xs : List Index) → list_any q xs ≡ false → list_any q (filter p xs) ≡ false
none_filtered q p [] h = refl
none_filtered q p (x ∷ xs) h =
    let two = or_parts (q x) (list_any q xs) h in
    let more = none_filtered q p xs two.1 in
    elim (cases_Bool (p x)) [ inl e ↦ rw (e, two.0) more | inr e ↦ rw e more ]

once_filtered : (same : Index → Index → Bool) (p : Index → Bool) (xs : List Index) → no_two same xs ≡ true → no_two same (filter p xs) ≡ true
once_filtered same p [] h = refl
once_filtered same p (x ∷ xs) h =
    let two = and_parts (not (list_any (same x) xs)) (no_two same xs) h in
    let more = once_filtered same p xs two.1 in
    let none = none_filtered (same x) p xs (not-true _ two.0) in
    elim (cases_Bool (p x)) [ inl e ↦ rw (e, none) more | inr e ↦ rw e more ]

ours_filtered : (older : OlderBooks) (p : Index → Bool) (xs : List Index) → AreOurs older xs → AreOurs older (filter p xs)
ours_filtered older p xs are = record { each = all_filtered (is_ours older) p xs are.each; once = once_filtered same_named p xs are.once }

-- ---- the names of the indexes of the books

name_of : (l : PlainIndex) (i : Index) → is_of l i ≡ true → i.name ≡ l.0
name_of l i h = (bytes_eq-Decides i.name l.0).0 (and_parts (bytes_eq i.name l.0) _ h).0

-- of these layouts only that of the name itself has it
pub named_by : (name : List ℕ) (ls : List PlainIndex) → AllByRecursion (λ l. same_name l.0 name ≡ true → l.0 ≡ name) ls → (i : Index) → list_any (λ l. is_of l i) ls ≡ true → same_name i.name name ≡ true
    → i.name ≡ name
named_by name [] apart i among same = absurd cc
named_by name (l ∷ ls) apart i among same = elim (or_cases (is_of l i) (list_any (λ k. is_of k i) ls) among) [
  | inl this ↦ let is = name_of l i this in is ∙ apart.0 (subst (λ n. same_name n name ≡ true) is same)
  | inr other ↦ named_by name ls apart.1 i other same
]

unnamed : (ls : List PlainIndex) (i : Index) (xs : List Index) → AllByRecursion (λ l. lacks l.0 (i ∷ xs) ≡ true) ls → list_any (λ l. is_of l i) ls ≡ true → ⊥
unnamed [] i xs gone among = cc
unnamed (l ∷ ls) i xs gone among = elim (or_cases (is_of l i) (list_any (λ k. is_of k i) ls) among) [
  | inl this ↦
      let named : same_name i.name l.0 ≡ true = subst (λ n. same_name i.name n ≡ true) (name_of l i this) (same_itself i.name) in
      let no = (and_parts (not (same_name i.name l.0)) (lacks l.0 xs) gone.0).0 in
      let none = rw named at no in cc
  | inr other ↦ unnamed ls i xs gone.1 other
]

-- where none has one of the names, there is none
pub nothing_left : (older : OlderBooks) (xs : List Index) → AreOurs older xs → AllByRecursion (λ l. lacks l.0 xs ≡ true) our_indexes → xs ≡ []
nothing_left older [] are gone = refl
nothing_left older (i ∷ xs) are gone = absurd (unnamed our_indexes i xs gone (and_parts (nat_lt (last_tree older) i.tree) _ (and_parts (is_ours older i) (list_all (is_ours older) xs) are.each).0).1)

-- ---- the index that is found

at_front : (front : List Index) (x : Index) (xs : List Index) (n : ℕ) → length front ≡ n → slice_get (front ++ x ∷ xs) n ≡ Some x
at_front front x xs n is = grind (arith, common_steps, gets)

one_longer : (front : List Index) (x : Index) (n : ℕ) → length front ≡ n → length (front ++ x ∷ []) ≡ n + 1
one_longer front x n is = grind (arith, common_steps)

module _ (older : OlderBooks) (name : List ℕ) (named : (i : Index) → is_index_of_books i ≡ true → same_name i.name name ≡ true → i.name ≡ name) where
  named_ours : (i : Index) → is_ours older i ≡ true → same_name i.name name ≡ true → i.name ≡ name
  named_ours i ours = named i (and_parts (nat_lt (last_tree older) i.tree) _ ours).1

  none_found : (n : ℕ) (xs : List Index) → position_from (λ i. same_name i.name name) n xs ≡ None → lacks name xs ≡ true
  none_found n [] none = refl
  none_found n (x ∷ xs) none = elim (cases_Bool (same_name x.name name)) [
    | inl here ↦ absurd (let no = rw here at none in cc)
    | inr past ↦ rw past (none_found (n + 1) xs (rw past at none))
  ]

  none_after : (x : Index) (xs : List Index) → x.name ≡ name → list_all (is_ours older) xs ≡ true → list_any (same_named x) xs ≡ false → lacks name xs ≡ true
  none_after x [] is each apart = refl
  none_after x (y ∷ ys) is each apart =
      let ours = and_parts (is_ours older y) (list_all (is_ours older) ys) each in
      let two = or_parts (same_named x y) (list_any (same_named x) ys) apart in
      elim (cases_Bool (same_name y.name name)) [
        | inl there ↦ absurd (let same = (bytes_eq-Decides x.name y.name).1 (is ∙ sym (named_ours y ours.0 there)) in let no = two.0 in cc)
        | inr past ↦ rw past (none_after x ys is ours.1 two.1)
      ]

  finds : (front xs : List Index) (n at : ℕ) → length front ≡ n → list_all (is_ours older) xs ≡ true → no_two same_named xs ≡ true → position_from (λ i. same_name i.name name) n xs ≡ Some at
      → (i : Index) × (slice_get (front ++ xs) at ≡ Some i) × (is_ours older i ≡ true) × (lacks name (filter (λ j. not (j.tree == i.tree)) xs) ≡ true)
  finds front [] n at is each once found = absurd cc
  finds front (x ∷ xs) n at is each once found =
      let ours = and_parts (is_ours older x) (list_all (is_ours older) xs) each in
      let two = and_parts (not (list_any (same_named x) xs)) (no_two same_named xs) once in
      elim (cases_Bool (same_name x.name name)) [
        | inl here ↦
            let place : n ≡ at = (let it = rw here at found in cc) in (
              x,
              subst (λ k. slice_get (front ++ x ∷ xs) k ≡ Some x) place (at_front front x xs n is),
              ours.0,
              rw (eq-eqb x.tree x.tree refl) (all_filtered (λ i. not (same_name i.name name)) _ xs (none_after x xs (named_ours x ours.0 here) ours.1 (not-true _ two.0))),
            )
        | inr past ↦
            let more = finds (front ++ x ∷ []) xs (n + 1) at (one_longer front x n is) ours.1 two.1 (rw past at found) in (
              more.0,
              subst (λ l. slice_get l at ≡ Some more.0) (append_assoc front (x ∷ []) xs) more.1,
              more.2,
              elim (cases_Bool (not (x.tree == more.0.tree))) [ inl e ↦ rw (e, past) more.3 | inr e ↦ rw e more.3 ],
            )
      ]

-- ---- the schema without it

low_keys : (older : OlderBooks) → list_all (λ i. nat_lt i.tree (last_tree older + 1)) (older_keys older) ≡ true
low_keys First = refl
low_keys Second = refl

keys_stay : (older : OlderBooks) (t : ℕ) → nat_lt (last_tree older) t ≡ true → AllByRecursion (λ i. not (i.tree == t) ≡ true) (older_keys older)
keys_stay older t behind = all_weaker (λ i. nat_lt i.tree (last_tree older + 1) ≡ true) (λ i. not (i.tree == t) ≡ true)
    (λ i low. let h = ltb-true i.tree (last_tree older + 1) low in let k = ltb-true (last_tree older) t behind in rw (ne_eqb i.tree t (λ e. omega arith)) refl)
    (older_keys older) (all_from_test (λ i. nat_lt i.tree (last_tree older + 1)) (older_keys older) (low_keys older))

dropped : (older : OlderBooks) (ours : List Index) (t : ℕ) → nat_lt (last_tree older) t ≡ true → without_index (older_with older ours) t ≡ older_with older (filter (λ i. not (i.tree == t)) ours)
dropped older ours t behind = ap (λ (l : List Index). let s : Schema = record { tables = older_tables older; indexes = l; views = [] } in s) (front_stays (λ i. not (i.tree == t)) (older_keys older) ours (keys_stay older t behind))

-- ---- what the statement leaves

module _ (text name : List ℕ) (m : Drops text name) (older : OlderBooks) (base : Trees) (ours : List Index) (old new : State) (count : ℕ) (has : HasOurs older base ours old) (h : ExecutesInside 0 text [] old new (Ok count)) where
  -- there was none
  was_none : position_from (λ i. same_name i.name name) (length (older_keys older)) ours ≡ None → HasFewer older base ours name new
  was_none none =
      let is = m.means older ours ∙ ap (λ o. Ok (plan m.size (drop_found o))) none in
      let ran = runs_as text [] old new (older_with older ours) has.schema_is Nothing (ap command_of is) (subst IsPlain (sym is) (refl, refl)) count h.0 in
      let now : new.now ≡ old.now = ran.0.0.now_is in
      record {
        left = ours;
        has = record {
          schema_is = ap (λ (d : Database). d.schema) now ∙ has.schema_is;
          apart = has.apart;
          sound = subst IsDatabase (sym now) has.sound;
          kept = subst (λ (d : Database). KeepsOlderRows older base d.trees) (sym now) has.kept;
          inside = h.1.mode;
        };
        gone = none_found older name m.named (length (older_keys older)) ours none;
        fewer = λ other lack. lack;
      }

  -- it was dropped
  was_dropped : (at : ℕ) → position_from (λ i. same_name i.name name) (length (older_keys older)) ours ≡ Some at → HasFewer older base ours name new
  was_dropped at found =
      let is = m.means older ours ∙ ap (λ o. Ok (plan m.size (drop_found o))) found in
      let w = runs_as text [] old new (older_with older ours) has.schema_is (DropIndex at) (ap command_of is) (subst IsPlain (sym is) (refl, refl)) count h.0 in
      let it = finds older name m.named (older_keys older) ours (length (older_keys older)) at refl has.apart.each has.apart.once found in
      let i : Index = it.0 in
      let there : slice_get old.now.schema.indexes at ≡ Some i = ap (λ (s : Schema). slice_get s.indexes at) has.schema_is ∙ it.1 in
      let behind : nat_lt (last_tree older) i.tree ≡ true = (and_parts (nat_lt (last_tree older) i.tree) _ it.2).0 in
      let all = went (subst (λ o. AtPlace (λ (x : Index). Defines (mode_of old) (Leaves (without_index old.now.schema x.tree) old.now.trees (RefusesToAlter (RefusesToDropIndex x)))) o (Ok (w.tally, new.now))) there w.changed) in
      let now : new.now ≡ all.0 = ap (λ (p : Tally × Database). p.1) (same_value all.2) in
      let left = filter (λ (j : Index). not (j.tree == i.tree)) ours in
      let rows : AllByRecursion (λ t. all.0.trees t.tree ≡ old.now.trees t.tree) (older_tables older) = subst (λ (s : Schema). AllByRecursion (λ t. all.0.trees t.tree ≡ old.now.trees t.tree) s.tables) (ap (λ s. without_index s i.tree) has.schema_is) all.1.1 in
      let kept : AllByRecursion (λ t. all.0.trees t.tree ≡ base t.tree) (older_tables older) =
      all_both _ (λ t. old.now.trees t.tree ≡ base t.tree) (λ t. all.0.trees t.tree ≡ base t.tree) (λ t p q. p ∙ q) (older_tables older) rows has.kept in
      record {
        left = left;
        has = record {
          schema_is = ap (λ (d : Database). d.schema) now ∙ all.1.0 ∙ ap (λ s. without_index s i.tree) has.schema_is ∙ dropped older ours i.tree behind;
          apart = ours_filtered older _ ours has.apart;
          sound = w.sound;
          kept = subst (λ (d : Database). KeepsOlderRows older base d.trees) (sym now) kept;
          inside = h.1.mode;
        };
        gone = it.3;
        fewer = λ other lack. all_filtered (λ j. not (same_name j.name other)) _ ours lack;
      }

  by_place : (found : Option ℕ) → position_from (λ i. same_name i.name name) (length (older_keys older)) ours ≡ found → HasFewer older base ours name new
  by_place None is = was_none is
  by_place (Some at) is = was_dropped at is

  pub drops_one : HasFewer older base ours name new
  drops_one = by_place (position_from (λ i. same_name i.name name) (length (older_keys older)) ours) refl

-- none has one of the four names, so none is left
pub all_gone : (older : OlderBooks) (base : Trees) (ours : List Index) (s : State) → HasOurs older base ours s → AllByRecursion (λ l. lacks l.0 ours ≡ true) our_indexes → HasOurs older base [] s
all_gone older base ours s has gone = subst (λ l. HasOurs older base l s) (nothing_left older ours has.apart gone) has
