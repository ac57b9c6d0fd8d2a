-- What the calls of a map make of what is known.
use Rattle.rows_in_memory.proofs.Words.{◌≡◌, Bool, true, false, cond, ◌⊎◌, inl, inr, List, [], ◌∷◌, Vec, Global, refl, sym, ap, subst, ◌∙◌, if◌then◌else◌, ◌||◌, Option, Some, None, IfSome, Result, Ok, Err, OnOk, is_err, list_any, is_eq, Ordering, BTreeMap, get, get_by, is_at, ◌++◌, filter, append-nil, append_assoc, RowMap, rows_in, rows_at, KnowsNone, IsPart, LearnsAt, ForgetsAt, ForgetsBy, ChangesBy, each_changed, SetsAt, last_set, SetsBy, KnowsAll, placed}
use Rattle.rows_in_memory.specs.KnownRows.{ChangesAt}

-- what is known is known too where the lists are the same, and have all rows if these do
pub kept_in : {R : Type 0} (all some : Bool) → (some ≡ true → all ≡ true) → (x : Option (Vec R Global)) → IfSome (rows_in some x) (λ found. rows_in all x ≡ Some found)
kept_in all some more (Some v) = refl
kept_in all true more None = ap (λ b. if b then Some [] else None) (more refl)
kept_in all false more None = tt

-- where all rows are known, those of each list are
known_whole : {R : Type 0} (all : Bool) → all ≡ true → (x : Option (Vec R Global)) → (rows : List R) × (rows_in all x ≡ Some rows)
known_whole all is (Some v) = (v.items, refl)
known_whole all is None = ([], ap (λ b. if b then Some [] else None) is)

module _ {K R : Type 0} (cmp : K → K → Ordering) where
  -- the lists with another one under a key
  abbrev pub Becomes : K → Option (Vec R Global) → BTreeMap K (Vec R Global) → BTreeMap K (Vec R Global) → Type 0
  Becomes k w old new = (q : K) → get cmp new q ≡ cond (is_at (cmp k) q) w (get cmp old q)

  -- all rows are known only if they were
  abbrev pub AreWhole : RowMap K R → RowMap K R → Type 0
  AreWhole old new = new.whole ≡ true → old.whole ≡ true

  -- what the same lists tell was known
  pub was_known : (old new : RowMap K R) → AreWhole old new → (q : K) → get cmp new.lists q ≡ get cmp old.lists q → IfSome (rows_at cmp new q) (λ found. rows_at cmp old q ≡ Some found)
  was_known old new more q same = subst (λ (x : Option (Vec R Global)). IfSome (rows_in new.whole x) (λ found. rows_at cmp old q ≡ Some found)) (sym same) (kept_in old.whole new.whole more (get cmp old.lists q))

  pub part_same : (old new : RowMap K R) → AreWhole old new → ((q : K) → get cmp new.lists q ≡ get cmp old.lists q) → IsPart cmp old new
  part_same old new more same q = was_known old new more q (same q)

  pub part_none : (old new : RowMap K R) → KnowsNone cmp new → IsPart cmp old new
  part_none old new none q = subst (λ (x : Option (List R)). IfSome x (λ found. rows_at cmp old q ≡ Some found)) (sym (none q)) tt

  pub forgets : (k own : K) (old new : RowMap K R) → own ≡ k → new.whole ≡ false → Becomes own None old.lists new.lists → ForgetsAt cmp k old new
  forgets k own old new is some becomes q = chosen (is_eq (cmp own q)) refl
    where
      none_told : (x : Option (List R)) → x ≡ None → IfSome x (λ found. (rows_at cmp old q ≡ Some found) × (is_eq (cmp k q) ≡ false))
      none_told x none = subst (λ (y : Option (List R)). IfSome y (λ found. (rows_at cmp old q ≡ Some found) × (is_eq (cmp k q) ≡ false))) (sym none) tt

      with_apart : is_eq (cmp own q) ≡ false → (x : Option (List R)) → IfSome x (λ found. rows_at cmp old q ≡ Some found) → IfSome x (λ found. (rows_at cmp old q ≡ Some found) × (is_eq (cmp k q) ≡ false))
      with_apart e None h = tt
      with_apart e (Some found) h = (h, subst (λ x. is_eq (cmp x q) ≡ false) is e)

      chosen : (b : Bool) → is_eq (cmp own q) ≡ b → IfSome (rows_at cmp new q) (λ found. (rows_at cmp old q ≡ Some found) × (is_eq (cmp k q) ≡ false))
      chosen true e = none_told (rows_at cmp new q) (ap (rows_in new.whole) (becomes q ∙ ap (λ b. cond b None (get cmp old.lists q)) e) ∙ ap (λ w. rows_in w None) some)
      chosen false e = with_apart e (rows_at cmp new q) (was_known old new (λ w. let no : true ≡ false = sym w ∙ some in cc) q (becomes q ∙ ap (λ b. cond b None (get cmp old.lists q)) e))

  -- what is known is put into what is part of what was known
  pub learns : (k own : K) (rows : List R) (v : Vec R Global) (old mid new : RowMap K R) → own ≡ k → v.items ≡ rows → IsPart cmp old mid → AreWhole mid new → Becomes own (Some v) mid.lists new.lists → LearnsAt cmp k rows old new
  learns k own rows v old mid new is value part more becomes q = chosen (is_eq (cmp own q)) refl
    where
      among : (x : Option (List R)) → IfSome x (λ found. rows_at cmp mid q ≡ Some found) → IfSome x (λ found. ((is_eq (cmp k q) ≡ true) × (found ≡ rows)) ⊎ (rows_at cmp old q ≡ Some found))
      among None h = tt
      among (Some found) h = inr (subst (λ (y : Option (List R)). IfSome y (λ f. rows_at cmp old q ≡ Some f)) h (part q))

      chosen : (b : Bool) → is_eq (cmp own q) ≡ b → IfSome (rows_at cmp new q) (λ found. ((is_eq (cmp k q) ≡ true) × (found ≡ rows)) ⊎ (rows_at cmp old q ≡ Some found))
      chosen true e = subst (λ (x : Option (List R)). IfSome x (λ found. ((is_eq (cmp k q) ≡ true) × (found ≡ rows)) ⊎ (rows_at cmp old q ≡ Some found))) (sym (ap (rows_in new.whole) (becomes q ∙ ap (λ b. cond b (Some v) (get cmp mid.lists q)) e))) (inl (subst (λ x. is_eq (cmp x q) ≡ true) is e, value))
      chosen false e = among (rows_at cmp new q) (was_known mid new more q (becomes q ∙ ap (λ b. cond b (Some v) (get cmp mid.lists q)) e))

  module _ (k own : K) (change : List R → List R) (old : RowMap K R) (is : own ≡ k) where
    abbrev Changed : K → Option (List R) → Type 0
    Changed q x = IfSome x (λ found. (before : List R) × (rows_at cmp old q ≡ Some before) × (found ≡ (if is_eq (cmp k q) then change before else before)))

    -- one that is not under the key stays
    other : (q : K) → is_eq (cmp own q) ≡ false → (x : Option (List R)) → IfSome x (λ found. rows_at cmp old q ≡ Some found) → Changed q x
    other q e None h = tt
    other q e (Some found) h = (found, h, ap (λ b. if b then change found else found) (sym (subst (λ x. is_eq (cmp x q) ≡ false) is e)))

    -- what is under the key is changed
    here : (q : K) → is_eq (cmp own q) ≡ true → (before after : List R) → rows_at cmp old q ≡ Some before → after ≡ change before → Changed q (Some after)
    here q e before after was value = (before, was, value ∙ ap (λ b. if b then change before else before) (sym (subst (λ x. is_eq (cmp x q) ≡ true) is e)))

    -- it is gone
    pub changes_gone : (new : RowMap K R) → new.whole ≡ false → Becomes own None old.lists new.lists → ChangesAt cmp k change old new
    changes_gone new some becomes q = chosen (is_eq (cmp own q)) refl
      where
        chosen : (b : Bool) → is_eq (cmp own q) ≡ b → Changed q (rows_at cmp new q)
        chosen true e = subst (Changed q) (sym (ap (rows_in new.whole) (becomes q ∙ ap (λ b. cond b None (get cmp old.lists q)) e) ∙ ap (λ w. rows_in w None) some)) tt
        chosen false e = other q e (rows_at cmp new q) (was_known old new (λ w. let no : true ≡ false = sym w ∙ some in cc) q (becomes q ∙ ap (λ b. cond b None (get cmp old.lists q)) e))

    -- it is gone, and there are no rows under the key where all are known
    pub changes_emptied : ((rows : List R) → change rows ≡ []) → (new : RowMap K R) → AreWhole old new → Becomes own None old.lists new.lists → ChangesAt cmp k change old new
    changes_emptied empties new more becomes q = chosen (is_eq (cmp own q)) refl
      where
        emptied : is_eq (cmp own q) ≡ true → (w : Bool) → (w ≡ true → old.whole ≡ true) → Changed q (rows_in w None)
        emptied e true whole = let was = known_whole old.whole (whole refl) (get cmp old.lists q) in here q e was.0 [] was.1 (sym (empties was.0))
        emptied e false whole = tt

        chosen : (b : Bool) → is_eq (cmp own q) ≡ b → Changed q (rows_at cmp new q)
        chosen true e = subst (Changed q) (sym (ap (rows_in new.whole) (becomes q ∙ ap (λ b. cond b None (get cmp old.lists q)) e))) (emptied e new.whole more)
        chosen false e = other q e (rows_at cmp new q) (was_known old new more q (becomes q ∙ ap (λ b. cond b None (get cmp old.lists q)) e))

    -- or it is changed in its place
    pub changes_in : ((a b : K) → is_eq (cmp a b) ≡ true → a ≡ b) → (new : RowMap K R) → AreWhole old new → (v w : Vec R Global) → Some v ≡ get_by (cmp own) old.lists → w.items ≡ change v.items → Becomes own (Some w) old.lists new.lists → ChangesAt cmp k change old new
    changes_in one new more v w was value becomes q = chosen (is_eq (cmp own q)) refl
      where
        chosen : (b : Bool) → is_eq (cmp own q) ≡ b → Changed q (rows_at cmp new q)
        chosen true e = subst (Changed q) (sym (ap (rows_in new.whole) (becomes q ∙ ap (λ b. cond b (Some w) (get cmp old.lists q)) e)))
            (here q e v.items w.items (ap (rows_in old.whole) (sym (subst (λ x. Some v ≡ get_by (cmp x) old.lists) (one own q e) was))) value)
        chosen false e = other q e (rows_at cmp new q) (was_known old new more q (becomes q ∙ ap (λ b. cond b (Some w) (get cmp old.lists q)) e))

    -- nothing is under the key, and the change makes nothing of no rows if all are known
    pub changes_none : ((a b : K) → is_eq (cmp a b) ≡ true → a ≡ b) → (new : RowMap K R) → AreWhole old new → None ≡ get_by (cmp own) old.lists → (new.whole ≡ true → change [] ≡ []) → ((q : K) → get cmp new.lists q ≡ get cmp old.lists q) → ChangesAt cmp k change old new
    changes_none one new more none empty same q = chosen (is_eq (cmp own q)) refl
      where
        at_none : is_eq (cmp own q) ≡ true → None ≡ get cmp old.lists q
        at_none e = subst (λ x. None ≡ get_by (cmp x) old.lists) (one own q e) none

        all_rows : is_eq (cmp own q) ≡ true → (w : Bool) → (w ≡ true → old.whole ≡ true) → (w ≡ true → change [] ≡ []) → Changed q (rows_in w None)
        all_rows e true whole stays = here q e [] [] (ap (rows_in old.whole) (sym (at_none e)) ∙ ap (λ b. if b then Some [] else None) (whole refl)) (sym (stays refl))
        all_rows e false whole stays = tt

        chosen : (b : Bool) → is_eq (cmp own q) ≡ b → Changed q (rows_at cmp new q)
        chosen true e = subst (Changed q) (sym (ap (rows_in new.whole) (same q ∙ sym (at_none e)))) (all_rows e new.whole more empty)
        chosen false e = other q e (rows_at cmp new q) (was_known old new more q (same q))

    -- what the change makes of no rows is now under the key, where all are known
    pub changes_first : ((a b : K) → is_eq (cmp a b) ≡ true → a ≡ b) → (new : RowMap K R) (v : Vec R Global) → old.whole ≡ true → None ≡ get_by (cmp own) old.lists → v.items ≡ change [] → Becomes own (Some v) old.lists new.lists → ChangesAt cmp k change old new
    changes_first one new v all none value becomes q = chosen (is_eq (cmp own q)) refl
      where
        chosen : (b : Bool) → is_eq (cmp own q) ≡ b → Changed q (rows_at cmp new q)
        chosen true e = subst (Changed q) (sym (ap (rows_in new.whole) (becomes q ∙ ap (λ b. cond b (Some v) (get cmp old.lists q)) e)))
            (here q e [] v.items (ap (rows_in old.whole) (sym (subst (λ x. None ≡ get_by (cmp x) old.lists) (one own q e) none)) ∙ ap (λ b. if b then Some [] else None) all) value)
        chosen false e = other q e (rows_at cmp new q) (was_known old new (λ w. all) q (becomes q ∙ ap (λ b. cond b (Some v) (get cmp old.lists q)) e))

    -- it was changed, and then it is gone
    pub gone_after : (mid new : BTreeMap K (Vec R Global)) (w : Vec R Global) → Becomes own (Some w) old.lists mid → Becomes own None mid new → Becomes own None old.lists new
    gone_after mid new w put gone q = gone q ∙ ap (λ x. cond (is_at (cmp own) q) None x) (put q) ∙ twice (is_at (cmp own) q)
      where
        twice : (b : Bool) → cond b None (cond b (Some w) (get cmp old.lists q)) ≡ cond b None (get cmp old.lists q)
        twice true = refl
        twice false = refl

  -- under another name of the key
  pub changes_as : (k own : K) (change : List R → List R) (old new : RowMap K R) → own ≡ k → ChangesAt cmp own change old new → ChangesAt cmp k change old new
  changes_as k own change old new is changes = subst (λ (x : K). ChangesAt cmp x change old new) is changes

  -- Rows in turn

  module _ (key : R → K) (change : R → List R → List R) where
    -- with those that are left it will be what all of them make of what was before
    abbrev pub Coming : List R → List R → RowMap K R → RowMap K R → Type 0
    Coming all rest old mid = (q : K) → IfSome (rows_at cmp mid q) (λ now. (before : List R) × (rows_at cmp old q ≡ Some before) × (each_changed cmp key change rest q now ≡ each_changed cmp key change all q before))

    pub coming_first : (all : List R) (old : RowMap K R) → Coming all all old old
    coming_first all old q = first (rows_at cmp old q) refl
      where
        first : (x : Option (List R)) → rows_at cmp old q ≡ x → IfSome x (λ now. (before : List R) × (rows_at cmp old q ≡ Some before) × (each_changed cmp key change all q now ≡ each_changed cmp key change all q before))
        first None h = tt
        first (Some now) h = (now, h, refl)

    pub coming_next : (all left rest : List R) (r : R) (old mid new : RowMap K R) → left ≡ r ∷ rest → ChangesAt cmp (key r) (change r) mid new → Coming all left old mid → Coming all rest old new
    coming_next all left rest r old mid new is changes so_far q = next (rows_at cmp new q) (changes q)
      where
        next : (x : Option (List R)) → IfSome x (λ found. (before : List R) × (rows_at cmp mid q ≡ Some before) × (found ≡ (if is_eq (cmp (key r) q) then change r before else before)))
            → IfSome x (λ now. (before : List R) × (rows_at cmp old q ≡ Some before) × (each_changed cmp key change rest q now ≡ each_changed cmp key change all q before))
        next None h = tt
        next (Some found) h =
            let was = subst (λ (y : Option (List R)). IfSome y (λ now. (before : List R) × (rows_at cmp old q ≡ Some before) × (each_changed cmp key change left q now ≡ each_changed cmp key change all q before))) h.1 (so_far q) in
            (was.0, was.1, ap (each_changed cmp key change rest q) h.2 ∙ sym (ap (λ l. each_changed cmp key change l q h.0) is) ∙ was.2)

    pub all_came : (all : List R) (old new : RowMap K R) → Coming all [] old new → ChangesBy cmp key change all old new
    all_came all old new so_far q = came (rows_at cmp new q) (so_far q)
      where
        came : (x : Option (List R)) → IfSome x (λ now. (before : List R) × (rows_at cmp old q ≡ Some before) × (now ≡ each_changed cmp key change all q before)) → IfSome x (λ found. (before : List R) × (rows_at cmp old q ≡ Some before) × (found ≡ each_changed cmp key change all q before))
        came None h = tt
        came (Some now) h = h

-- Rows whose keys are forgotten in turn

module _ {K R : Type 0} (cmp : K → K → Ordering) (key : R → K) where
  abbrev named : K → List R → Bool
  named q rows = list_any (λ r. is_eq (cmp (key r) q)) rows

  -- what is known is named by one of those that are left, if it is by one of all
  abbrev pub Going : List R → List R → RowMap K R → RowMap K R → Type 0
  Going all rest old mid = (q : K) → IfSome (rows_at cmp mid q) (λ now. (rows_at cmp old q ≡ Some now) × (named q rest ≡ named q all))

  pub going_first : (all : List R) (old : RowMap K R) → Going all all old old
  going_first all old q = first (rows_at cmp old q) refl
    where
      first : (x : Option (List R)) → rows_at cmp old q ≡ x → IfSome x (λ now. (rows_at cmp old q ≡ Some now) × (named q all ≡ named q all))
      first None h = tt
      first (Some now) h = (h, refl)

  pub going_next : (all left rest : List R) (r : R) (old mid new : RowMap K R) → left ≡ r ∷ rest → ForgetsAt cmp (key r) mid new → Going all left old mid → Going all rest old new
  going_next all left rest r old mid new is forgets so_far q =
      next (rows_at cmp new q) (forgets q)
    where
      next : (x : Option (List R)) → IfSome x (λ found. (rows_at cmp mid q ≡ Some found) × (is_eq (cmp (key r) q) ≡ false)) → IfSome x (λ now. (rows_at cmp old q ≡ Some now) × (named q rest ≡ named q all))
      next None h = tt
      next (Some now) h =
          let was = subst (λ (y : Option (List R)). IfSome y (λ f. (rows_at cmp old q ≡ Some f) × (named q left ≡ named q all))) h.0 (so_far q) in
          (was.0, sym (ap (λ b. b || named q rest) h.1) ∙ sym (ap (named q) is) ∙ was.1)

  pub all_gone : (all : List R) (old new : RowMap K R) → Going all [] old new → ForgetsBy cmp key all old new
  all_gone all old new so_far q = gone (rows_at cmp new q) (so_far q)
    where
      gone : (x : Option (List R)) → IfSome x (λ now. (rows_at cmp old q ≡ Some now) × (false ≡ named q all)) → IfSome x (λ found. (rows_at cmp old q ≡ Some found) × (named q all ≡ false))
      gone None h = tt
      gone (Some now) h = (h.0, sym h.1)

  -- to forget the lists of rows is to change them

  module _ (change : R → List R → List R) where
    unnamed : (q : K) (rows : List R) (before : List R) → named q rows ≡ false → each_changed cmp key change rows q before ≡ before
    unnamed q [] before h = refl
    unnamed q (r ∷ rows) before h =
        let two = neither (is_eq (cmp (key r) q)) (named q rows) h in
        ap (λ b. each_changed cmp key change rows q (if b then change r before else before)) two.0 ∙ unnamed q rows before two.1
      where
        neither : (a b : Bool) → a || b ≡ false → (a ≡ false) × (b ≡ false)
        neither true b e = let no : true ≡ false = e in cc
        neither false b e = (refl, e)

    pub forgotten : (all : List R) (old new : RowMap K R) → ForgetsBy cmp key all old new → ChangesBy cmp key change all old new
    forgotten all old new forgets q = left (rows_at cmp new q) (forgets q)
      where
        left : (x : Option (List R)) → IfSome x (λ found. (rows_at cmp old q ≡ Some found) × (named q all ≡ false)) → IfSome x (λ found. (before : List R) × (rows_at cmp old q ≡ Some before) × (found ≡ each_changed cmp key change all q before))
        left None h = tt
        left (Some found) h = (found, h.0, sym (unnamed q all found h.1))

-- Rows that are set in turn

module _ {K R : Type 0} (cmp : K → K → Ordering) (key : R → K) where
  -- of more that was known before, what rows make is the same where it is known
  more_set : (rows : List R) (q : K) (x y : Option (List R)) → IfSome x (λ now. y ≡ Some now) → (found : List R) → last_set cmp key rows q x ≡ Some found → last_set cmp key rows q y ≡ Some found
  more_set [] q None y part found is = let no : None ≡ Some found = is in cc
  more_set [] q (Some now) y part found is = part ∙ is
  more_set (r ∷ rows) q x y part found is =
      more_set rows q (if is_eq (cmp (key r) q) then Some (r ∷ []) else x) (if is_eq (cmp (key r) q) then Some (r ∷ []) else y) (chosen (is_eq (cmp (key r) q))) found is
    where
      chosen : (b : Bool) → IfSome (if b then Some (r ∷ []) else x) (λ now. (if b then Some (r ∷ []) else y) ≡ Some now)
      chosen true = refl
      chosen false = part

  sets_first : (r : R) (rest : List R) (old mid new : RowMap K R) → SetsAt cmp (key r) r old mid → SetsBy cmp key rest mid new → SetsBy cmp key (r ∷ rest) old new
  sets_first r rest old mid new at later q = step (rows_at cmp new q) (later q)
    where
      step : (x : Option (List R)) → IfSome x (λ found. last_set cmp key rest q (rows_at cmp mid q) ≡ Some found) → IfSome x (λ found. last_set cmp key (r ∷ rest) q (rows_at cmp old q) ≡ Some found)
      step None h = tt
      step (Some found) h = more_set rest q (rows_at cmp mid q) (if is_eq (cmp (key r) q) then Some (r ∷ []) else rows_at cmp old q) (at q) found h

  -- once the rows that are left are set, all of them are
  abbrev pub Setting : List R → List R → RowMap K R → RowMap K R → Type 0
  Setting all rest old mid = (new : RowMap K R) → SetsBy cmp key rest mid new → SetsBy cmp key all old new

  pub setting_next : (all left rest : List R) (r : R) (old mid next : RowMap K R) → left ≡ r ∷ rest → SetsAt cmp (key r) r mid next → Setting all left old mid → Setting all rest old next
  setting_next all left rest r old mid next is at so_far new later = so_far new (subst (λ (l : List R). SetsBy cmp key l mid new) (sym is) (sets_first r rest mid next new at later))

  pub all_set : (all : List R) (old mid : RowMap K R) → Setting all [] old mid → SetsBy cmp key all old mid
  all_set all old mid so_far = so_far mid (λ q. same (rows_at cmp mid q))
    where
      same : (x : Option (List R)) → IfSome x (λ found. x ≡ Some found)
      same None = tt
      same (Some found) = refl

-- All rows, one behind the other

module _ {K R : Type 0} (cmp : K → K → Ordering) (same : R → R → Bool) (key : R → K) where
  abbrev of_key : K → R → Bool
  of_key q r = is_eq (cmp (key r) q)

  -- those of the key, behind what was there
  each_last : (q : K) (rows before : List R) → each_changed cmp key (placed same true) rows q before ≡ before ++ filter (of_key q) rows
  each_last q [] before = sym (append-nil before)
  each_last q (r ∷ rows) before = each_last q rows (if of_key q r then before ++ r ∷ [] else before) ∙ by_key (of_key q r)
    where
      by_key : (b : Bool) → (if b then before ++ r ∷ [] else before) ++ filter (of_key q) rows ≡ before ++ (if b then r ∷ filter (of_key q) rows else filter (of_key q) rows)
      by_key true = append_assoc before (r ∷ []) (filter (of_key q) rows)
      by_key false = refl

  abbrev items_or : Option (List R) → List R
  items_or None = []
  items_or (Some rows) = rows

  pub all_known : (rows : List R) (old none mid new : RowMap K R) → ((q : K) → rows_at cmp none q ≡ Some []) → ChangesBy cmp key (placed same true) rows none mid → IsPart cmp mid new → KnowsAll cmp key rows old new
  all_known rows old none mid new begun changes part q = known (rows_at cmp new q) (part q)
    where
      known : (x : Option (List R)) → IfSome x (λ found. rows_at cmp mid q ≡ Some found) → IfSome x (λ found. (found ≡ filter (of_key q) rows) ⊎ (rows_at cmp old q ≡ Some found))
      known None h = tt
      known (Some found) h =
          let told = subst (λ (y : Option (List R)). IfSome y (λ f. (before : List R) × (rows_at cmp none q ≡ Some before) × (f ≡ each_changed cmp key (placed same true) rows q before))) h (changes q) in
          let nothing : told.0 ≡ [] = ap items_or (sym told.1 ∙ begun q) in
          inl (told.2 ∙ ap (each_changed cmp key (placed same true) rows q) nothing ∙ each_last q rows [])

  pub as_known : (rows : List R) (old : RowMap K R) → KnowsAll cmp key rows old old
  as_known rows old q = itself (rows_at cmp old q) refl
    where
      itself : (x : Option (List R)) → rows_at cmp old q ≡ x → IfSome x (λ found. (found ≡ filter (of_key q) rows) ⊎ (rows_at cmp old q ≡ Some found))
      itself None h = tt
      itself (Some found) h = inr h

-- rows that change, and then less is known
pub changed_part : {K R : Type 0} (cmp : K → K → Ordering) (key : R → K) (change : R → List R → List R) (rows : List R) (old mid new : RowMap K R) → ChangesBy cmp key change rows old mid → IsPart cmp mid new → ChangesBy cmp key change rows old new
changed_part {R = R} cmp key change rows old mid new changes part q = left (rows_at cmp new q) (part q)
  where
    left : (x : Option (List R)) → IfSome x (λ found. rows_at cmp mid q ≡ Some found) → IfSome x (λ found. (before : List R) × (rows_at cmp old q ≡ Some before) × (found ≡ each_changed cmp key change rows q before))
    left None h = tt
    left (Some found) h = subst (λ (y : Option (List R)). IfSome y (λ f. (before : List R) × (rows_at cmp old q ≡ Some before) × (f ≡ each_changed cmp key change rows q before))) h (changes q)

-- Lists that go

module _ {K R : Type 0} (cmp : K → K → Ordering) where
  pub part_self : (old : RowMap K R) → IsPart cmp old old
  part_self old q = told (rows_at cmp old q)
    where
      told : (x : Option (List R)) → IfSome x (λ found. x ≡ Some found)
      told None = tt
      told (Some found) = refl

  pub part_then : (old mid new : RowMap K R) → IsPart cmp old mid → IsPart cmp mid new → IsPart cmp old new
  part_then old mid new first second q = told (rows_at cmp new q) (second q)
    where
      told : (x : Option (List R)) → IfSome x (λ found. rows_at cmp mid q ≡ Some found) → IfSome x (λ found. rows_at cmp old q ≡ Some found)
      told None h = tt
      told (Some found) h = subst (λ (y : Option (List R)). IfSome y (λ f. rows_at cmp old q ≡ Some f)) h (first q)

  -- of one that has no rows nothing is lost
  pub part_emptied : ((a b : K) → is_eq (cmp a b) ≡ true → a ≡ b) → (k : K) (old new : RowMap K R) → rows_at cmp old k ≡ Some [] → ChangesAt cmp k (λ rows. []) old new → IsPart cmp old new
  part_emptied one k old new none empties q = told (rows_at cmp new q) (empties q)
    where
      by_key : (b : Bool) → is_eq (cmp k q) ≡ b → (before found : List R) → rows_at cmp old q ≡ Some before → found ≡ (if b then [] else before) → rows_at cmp old q ≡ Some found
      by_key true e before found was is = subst (λ (x : K). rows_at cmp old x ≡ Some []) (one k q e) none ∙ ap Some (sym is)
      by_key false e before found was is = was ∙ ap Some (sym is)

      told : (x : Option (List R)) → IfSome x (λ found. (before : List R) × (rows_at cmp old q ≡ Some before) × (found ≡ (if is_eq (cmp k q) then [] else before))) → IfSome x (λ found. rows_at cmp old q ≡ Some found)
      told None h = tt
      told (Some found) h = by_key (is_eq (cmp k q)) refl h.0 found h.1 h.2

-- a row alone is what it makes of no rows
pub placed_alone : {R : Type 0} (same : R → R → Bool) (is_new : Bool) (r : R) → placed same is_new r [] ≡ r ∷ []
placed_alone same true r = refl
placed_alone same false r = refl

-- what a call answers that did not fail
pub ok_value : {X E : Type 0} (P : Type 0) (r : Result X E) → is_err r ≡ false → OnOk r P → P
ok_value P (Ok x) is h = h
ok_value P (Err e) is h = absurd (let no = is in cc)
