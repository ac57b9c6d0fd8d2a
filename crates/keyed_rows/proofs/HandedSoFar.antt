-- A query whose rows are handed over: so far, and at each of its ends.
use Rattle.keyed_rows.proofs.Words.{◌≡◌, ℕ, Bool, true, false, List, [], ◌∷◌, ◌++◌, map, refl, sym, ap, inl, inr, subst, ◌⊎◌, Ok, Err, AllByRecursion, Row, Ghosts, Error, Database, understood, reads_listing, IsSourceOf, State, IsUnchanged, IsRolledBack, FailsToShow, ShowsRows, Held, state, HasGiven, HasBegun, timed, given_begin, begun_plain, unchanged_then, Reaches, reaches_one_more, TableFault, Store, Foreign, Fault, HandsAll, HandsSome, HandsUpTo, Hands}
use Rattle.sqlite.specs.State.{Shown, Begins, FailsToQuery, IsNotRun}
use Rattle.sqlite.proofs.Callers.{IsPlain}

-- the rows given so far are rows of the table, the sink took what they read as, and the connection shows what it did
pub record HasHanded {S X K : Type 0} (g : Ghosts S) (has : Row → Bool) (read : Row → X) (takes : K → X → K → Type 0) (sql : List ℕ) (params : Row) (old now : Held S) (before after : K) : Type 0 where
  pub rows : List Row
  pub given : HasGiven g sql params now rows
  pub same : IsUnchanged (state g old) (state g now)
  pub typed : AllByRecursion (λ v. has v ≡ true) rows
  pub reached : Reaches takes before (map read rows) after

-- the first rows that a query shows are so of each state with the same tables
pub begins_back : (sql : List ℕ) (params : Row) (old new : State) (rows : List Row) → IsUnchanged old new → Begins sql params new rows → Begins sql params old rows
unfolding Begins
begins_back sql params old new rows same h =
    let db = same.0.now_is in (
      h.0,
      record { is = subst (λ (d : Database). understood d.schema sql ≡ Ok h.0) db h.1.is; whole = h.1.whole; given = h.1.given; now = h.1.now },
      h.2,
      h.3,
      subst (λ (d : Database). IsSourceOf (reads_listing d.schema sql) d h.3) db h.4,
      h.5,
    )

-- a query that fails changes nothing, or the store failed
pub fails_left : (sql : List ℕ) (params : Row) (old new : State) (e : Error) → IsPlain (understood old.now.schema sql) → FailsToQuery sql params old new e → IsUnchanged old new ⊎ IsRolledBack old new
unfolding FailsToQuery IsNotRun
fails_left sql params old new e plain (inl (inl h)) = inl h.1
fails_left sql params old new e plain (inl (inr h)) = inr h.3
fails_left sql params old new e plain (inr h) =
    let none = (subst IsPlain h.1.is plain).0 in
    inl (subst (FailsToShow old new sql h.0 (timed params h.0.formats h.1.now) e) none h.2).3

-- the rows that a query shows are so of each state with the same tables
shown_back : (sql : List ℕ) (params : Row) (old mid new : State) (rows : List Row) → IsPlain (understood old.now.schema sql) → IsUnchanged old mid → Shown sql params mid new rows → Shown sql params old new rows
unfolding Shown
shown_back sql params old mid new rows plain same h =
    let db = same.0.now_is in
    let is : understood old.now.schema sql ≡ Ok h.0 = subst (λ (d : Database). understood d.schema sql ≡ Ok h.0) db h.1.is in
    let none = (subst IsPlain is plain).0 in
    let full = timed params h.0.formats h.1.now in
    let it = subst (ShowsRows mid new sql h.0 full rows) none h.2 in (
      h.0,
      record { is = is; whole = h.1.whole; given = h.1.given; now = h.1.now },
      subst (ShowsRows old new sql h.0 full rows) (sym none) (it.0, subst (λ (d : Database). IsSourceOf (reads_listing d.schema sql) d it.0) db it.1, it.2, unchanged_then old mid new same it.3),
    )

all_one_more : {X : Type 0} (P : X → Type 0) (xs : List X) (x : X) → AllByRecursion P xs → P x → AllByRecursion P (xs ++ x ∷ [])
all_one_more P [] x all this = (this, tt)
all_one_more P (y ∷ ys) x all this = (all.0, all_one_more P ys x all.1 this)

map_one_more : {X Y : Type 0} (f : X → Y) (xs : List X) (x : X) → map f (xs ++ x ∷ []) ≡ map f xs ++ f x ∷ []
map_one_more f [] x = refl
map_one_more f (y ∷ ys) x = ap (λ t. f y ∷ t) (map_one_more f ys x)

module _ {S X K : Type 0} (g : Ghosts S) (has : Row → Bool) (read : Row → X) (takes stops : K → X → K → Type 0) (sql : List ℕ) (params : Row) (old : Held S) (plain : IsPlain (understood old.schema sql)) where
  -- at the start
  pub none_handed : (now : Held S) (sink : K) → HasBegun g sql params old now → HasHanded g has read takes sql params old now sink sink
  none_handed now sink begun =
      let it = begun_plain g sql params old now plain begun in
      record { rows = []; given = it.0; same = it.1; typed = tt; reached = refl }

  -- one row more
  pub one_handed : (mid now : Held S) (before sink after : K) (row : Row) (record' : X) → (so_far : HasHanded g has read takes sql params old mid before sink)
      → HasGiven g sql params now (so_far.rows ++ row ∷ []) → IsUnchanged (state g mid) (state g now) → has row ≡ true → read row ≡ record' → takes sink record' after
      → HasHanded g has read takes sql params old now before after
  one_handed mid now before sink after row record' so_far given same typed is this = record {
    rows = so_far.rows ++ row ∷ [];
    given = given;
    same = unchanged_then (state g old) (state g mid) (state g now) so_far.same same;
    typed = all_one_more (λ v. has v ≡ true) so_far.rows row so_far.typed typed;
    reached =
        subst (λ xs. Reaches takes before xs after) (sym (map_one_more read so_far.rows row))
        (reaches_one_more takes before (map read so_far.rows) (read row) sink after so_far.reached (subst (λ x. takes sink x after) (sym is) this));
  }

  -- at the end of the rows
  pub all_handed : (mid : Held S) (new : State) (before after : K) → (so_far : HasHanded g has read takes sql params old mid before after)
      → Shown sql params (state g mid) new so_far.rows → HandsAll has read takes sql params (state g old) new before after
  all_handed mid new before after so_far shown = record {
    rows = so_far.rows;
    shown = shown_back sql params (state g old) (state g mid) new so_far.rows plain so_far.same shown;
    typed = so_far.typed;
    reached = so_far.reached;
  }

  -- where the query fails, or a row does
  pub some_handed : (mid : Held S) (before after : K) → HasHanded g has read takes sql params old mid before after → HandsSome has read takes sql params (state g old) before after
  some_handed mid before after so_far = record {
    rows = so_far.rows;
    begins = inr (so_far.same.0.was_open, begins_back sql params (state g old) (state g mid) so_far.rows so_far.same (given_begin g sql params mid so_far.rows so_far.given));
    typed = so_far.typed;
    reached = so_far.reached;
  }

  -- where a row cannot be read
  pub read_fails : (mid now : Held S) (new : State) (before after : K) (row : Row) (fault : TableFault) → (so_far : HasHanded g has read takes sql params old mid before after)
      → HasGiven g sql params now (so_far.rows ++ row ∷ []) → IsUnchanged (state g mid) (state g now) → (fault ≡ Foreign → has row ≡ false)
      → Hands has read takes stops sql params (state g old) new before after (Err (Fault fault))
  read_fails mid now new before after row (Store cause) so_far given same foreign = some_handed mid before after so_far
  read_fails mid now new before after row Foreign so_far given same foreign = record {
    rows = so_far.rows;
    next = row;
    begins = (
      so_far.same.0.was_open,
      begins_back sql params (state g old) (state g now) (so_far.rows ++ row ∷ []) (unchanged_then (state g old) (state g mid) (state g now) so_far.same same)
          (given_begin g sql params now (so_far.rows ++ row ∷ []) given),
    );
    typed = so_far.typed;
    foreign = foreign refl;
    reached = so_far.reached;
  }

  -- where the sink stops
  pub stop_handed : (mid now : Held S) (before sink after : K) (row : Row) (record' : X) → (so_far : HasHanded g has read takes sql params old mid before sink)
      → HasGiven g sql params now (so_far.rows ++ row ∷ []) → IsUnchanged (state g mid) (state g now) → has row ≡ true → read row ≡ record' → stops sink record' after
      → HandsUpTo has read takes stops sql params (state g old) before after
  stop_handed mid now before sink after row record' so_far given same typed is this = record {
    rows = so_far.rows;
    next = row;
    begins = (
      so_far.same.0.was_open,
      begins_back sql params (state g old) (state g now) (so_far.rows ++ row ∷ []) (unchanged_then (state g old) (state g mid) (state g now) so_far.same same)
          (given_begin g sql params now (so_far.rows ++ row ∷ []) given),
    );
    typed = all_one_more (λ v. has v ≡ true) so_far.rows row so_far.typed typed;
    last = sink;
    reached = so_far.reached;
    stopped = subst (λ x. stops sink x after) (sym is) this;
  }

-- no row was handed over
pub nothing_handed : {X K : Type 0} (has : Row → Bool) (read : Row → X) (takes : K → X → K → Type 0) (sql : List ℕ) (params : Row) (old : State) (sink : K) → HandsSome has read takes sql params old sink sink
nothing_handed has read takes sql params old sink = record { rows = []; begins = inl refl; typed = tt; reached = refl }
