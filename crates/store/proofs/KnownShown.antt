-- What is known of the books, with the rows that a look at them reads.
use Rattle.store.proofs.Words.{◌≡◌, true, sym, ap, subst, ◌∙◌, IsTrue, arith, Option, IfSome, Tables, Database, State, HasCleanDisk, Survives, Trees, doubt, IsReady, tables_in, KnowsRows, HoldsOf, Known, RowsKnown, HasKnown, IsKnown}
use Rattle.store.proofs.HandedOn.{Stays}
use Rattle.store.proofs.KnownKept.{ready_begun, holds_begun}

-- what is known, with other rows
abbrev pub with_rows : Known → RowsKnown → Known
with_rows known rows = record { lines = known.lines; urgent = known.urgent; bounds = known.bounds; rows = rows }

pub holds_with : (known : Known) (rows : RowsKnown) (t : Tables) → HoldsOf known t → KnowsRows t rows → HoldsOf (with_rows known rows) t
holds_with known rows t holds knows = record { lines = holds.lines; urgent = holds.urgent; bounds = holds.bounds; rows = knows }

module _ (old begun last new : State) (is : begun ≡ record old { in_transaction = true }) (before : Survives begun last (λ _. ⊥)) (known after : Option Known) (is_known : IsKnown known old) where
  -- the tables are those before
  pub known_shown : {Q : Trees → Type 0} → Survives last new Q → Stays old new → (HasCleanDisk last → (IsTrue begun.is_open → IsReady begun.now) → (IsTrue begun.is_open → HasKnown known begun) → IsTrue begun.is_open → HasKnown after begun) → IsKnown after new
  known_shown ends stays learns clean =
      let was : HasCleanDisk last = omega (arith, clean, ends.clean) in
      let begun_clean : HasCleanDisk begun = omega (arith, was, before.clean) in
      let at = is_known (sym (ap (λ (s : State). doubt s.is_clean) is) ∙ begun_clean) in
      let left = stays clean at.0 in (
        left.1,
        λ up.
            let up_first : IsTrue begun.is_open = subst (λ b. IsTrue b) (sym (ap (λ (s : State). s.is_open) is)) (left.0.was_open up) in
            let shows : new.now ≡ begun.now = sym (left.1.settled up) ∙ left.0.committed up ∙ at.0.settled (left.0.was_open up) ∙ sym (ap (λ (s : State). s.now) is) in
            subst (λ (db : Database). IfSome after (λ k. HoldsOf k (tables_in db.trees))) (sym shows) (learns was (ready_begun old begun last new is before known is_known was) (holds_begun old begun last new is before known is_known was) up_first),
      )
