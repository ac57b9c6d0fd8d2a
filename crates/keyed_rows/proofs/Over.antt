-- What the sink took of a query over typed rows, whose records have one order.
use Rattle.keyed_rows.proofs.Words.{◌≡◌, ℕ, Bool, true, false, List, [], ◌∷◌, ◌++◌, map, inl, inr, refl, sym, ap, ◌∙◌, subst, append_assoc, true≢false, Result, Ok, Err, IsTrue, AllByRecursion, map-append, Row, Schema, Command, Database, timed, understood, State, IsUnchanged, command_of, begins_shown, EndsIn, Store, Foreign, Reaches, ReachesWithin, StopsWithin, EachFault, Fault, Stopped, AreFirst, HandsAll, HandsSome, HandsUpToForeign, HandsUpTo, Hands, HandsOver}
use Rattle.sqlite.specs.State.{Shown}

itself : (s : State) → IsTrue s.is_open → IsUnchanged s s
itself s up = (record { was_open = up; is_open = up; now_is = refl; committed_is = refl; mode = refl }, record { changes = refl; last_rowid = refl }, refl)

-- the first rows of a query that has no recursion are those of a whole answer
pub rest_shown : (sql : List ℕ) (params : Row) (s : State) (schema : Schema) (k : Command) → s.now.schema ≡ schema → command_of (understood schema sql) ≡ k → ((db : Database) (given : Row) → EndsIn k db given)
    → (rows : List Row) → AreFirst sql params s rows → (rest : List Row) × Shown sql params s s (rows ++ rest)
rest_shown sql params s schema k schema_is is ends rows first =
    begins_shown sql params s s rows first.1 (itself s first.0)
    (λ c db it source. subst (λ (k : Command). EndsIn k db (timed params c.formats it.now)) (sym (ap command_of (sym (sym (ap (λ d. understood d sql) schema_is) ∙ it.is)) ∙ is)) (ends db (timed params c.formats it.now)))

module _ {X K : Type 0} (has : Row → Bool) (read : Row → X) (takes stops : K → X → K → Type 0) (sql : List ℕ) (params : Row) (old : State)
    (IsAll : List X → Type 0) (one_list : (xs ys : List X) → IsAll xs → IsAll ys → xs ≡ ys)
    (listed : (new : State) (rows : List Row) → Shown sql params old new rows → IsAll (map read rows) × AllByRecursion (λ v. has v ≡ true) rows)
    (more : (rows : List Row) → AreFirst sql params old rows → (rest : List Row) × Shown sql params old old (rows ++ rest)) where
  all_over : (new : State) (before after : K) (xs : List X) → IsAll xs → HandsAll has read takes sql params old new before after → Reaches takes before xs after
  all_over new before after xs all h = subst (λ ys. Reaches takes before ys after) (one_list (map read h.rows) xs (listed new h.rows h.shown).0 all) h.reached

  -- the records begin with what the first rows read as
  beginning : (xs : List X) → IsAll xs → (rows : List Row) → AreFirst sql params old rows → (others : List X) × (xs ≡ map read rows ++ others)
  beginning xs all rows first =
      let whole = more rows first in
      (map read whole.0, one_list xs (map read (rows ++ whole.0)) all (listed old (rows ++ whole.0) whole.1).0 ∙ map-append read rows whole.0)

  some_over : (before after : K) (xs : List X) → IsAll xs → HandsSome has read takes sql params old before after → ReachesWithin takes before xs after
  some_over before after xs all h = elim h.begins [
    | inl none ↦ record { taken = []; others = xs; parts = refl; reached = subst (λ rows. Reaches takes before (map read rows) after) none h.reached }
    | inr first ↦ let rest = beginning xs all h.rows first in record { taken = map read h.rows; others = rest.0; parts = rest.1; reached = h.reached }
  ]

  up_to_over : (before after : K) (xs : List X) → IsAll xs → HandsUpTo has read takes stops sql params old before after → StopsWithin takes stops before xs after
  up_to_over before after xs all h =
      let rest = beginning xs all (h.rows ++ h.next ∷ []) h.begins in record {
        taken = map read h.rows;
        next = read h.next;
        others = rest.0;
        parts = rest.1 ∙ ap (λ ys. ys ++ rest.0) (map-append read h.rows (h.next ∷ [])) ∙ append_assoc (map read h.rows) (read h.next ∷ []) rest.0;
        last = h.last;
        reached = h.reached;
        stopped = h.stopped;
      }

  last_good : (rows : List Row) (next : Row) (rest : List Row) → AllByRecursion (λ v. has v ≡ true) ((rows ++ next ∷ []) ++ rest) → has next ≡ true
  last_good [] next rest all = all.0
  last_good (r ∷ rows) next rest all = last_good rows next rest all.1

  -- where all rows are typed, none is foreign
  never_foreign : (before after : K) → HandsUpToForeign has read takes sql params old before after → ⊥
  never_foreign before after h =
      let whole = more (h.rows ++ h.next ∷ []) h.begins in
      true≢false (sym (last_good h.rows h.next whole.0 (listed old ((h.rows ++ h.next ∷ []) ++ whole.0) whole.1).1) ∙ h.foreign)

  pub over : (new : State) (before after : K) (result : Result (Unit {0}) EachFault) → Hands has read takes stops sql params old new before after result → (xs : List X) → IsAll xs → HandsOver takes stops before xs after result
  over new before after (Ok done) h xs all = all_over new before after xs all h
  over new before after (Err (Fault (Store cause))) h xs all = some_over before after xs all h
  over new before after (Err (Fault Foreign)) h xs all = never_foreign before after h
  over new before after (Err Stopped) h xs all = up_to_over before after xs all h
