use Rattle.books_schema.proofs.Words.{◌≡◌, ◌⊎◌, inl, inr, ℕ, List, [], length, refl, sym, ap, ◌∙◌, state, schema_0}
use Rattle.std.proofs.Common.{suc}
use Rattle.books_schema.proofs.Texts.{all_made}
use Rattle.books_schema.proofs.CreateLemmas.{on_ok_then, void_grown, grown_holds}
use Rattle.books_schema.proofs.creation.create_tables.Goals as goal

-- some are not none
not_none : {L Q : Type 0} (n : ℕ) (xs : List L) → length xs ≡ suc n → (xs ≡ []) ⊎ Q → Q
not_none n xs some (inl none) = absurd (let no : suc n ≡ 0 = sym some ∙ ap length none in cc)
not_none n xs some (inr q) = q

pub returns-clause-done : goal.returns-clause-done
returns-clause-done g c clean void =
    let old = state g.S.Store c.args.tx.now.conn.now in
    let new = state g.S.Store c.run_steps.new.tx.conn.now in
    let done = c.run_steps.ensures.done clean old.now.trees schema_0 schema_0 all_made (void_grown old void) in
    on_ok_then c.run_steps.result (grown_holds old.now.trees new) done

pub returns-clause-was_open : goal.returns-clause-was_open
returns-clause-was_open g c clean = on_ok_then c.run_steps.result (not_none 15 _ refl) (c.run_steps.ensures.was_open clean)
