use Rattle.slices.proofs.Words.{Vec, Global, ◌≡◌, true, List, [], ◌∷◌, refl, sym, ap, ◌∙◌, find, slice_get, MetaRow, state, column, is_the_number, is_meta, IsRead, typed_rows, meta, meta_laws}
use Rattle.slices.proofs.ReadSteps.{read_of, never_foreign, fails_first, so_told, none_known}
use Rattle.slices.proofs.TypedRows.{typed_among}
use Rattle.slices.proofs.one_table.meta_row.Goals as goal

found_first : (rows : List MetaRow) → find (λ r. true) rows ≡ slice_get rows 0
found_first [] = refl
found_first (r ∷ rows) = refl

pub returns-in_err-rows-clause-read : goal.returns-in_err-rows-clause-read
returns-in_err-rows-clause-read g c =
    let one = c.meta_rows.ensures in
    let read : IsRead {X = Vec MetaRow Global} (λ t rows. find (λ r. true) rows.items ≡ t.meta) (state g.S.Store c.args.tx.now.conn.now) (state g.S.Store c.meta_rows.new.tx.conn.now) c.meta_rows.result =
    read_of _ _ _ c.meta_rows.result one.survives one.same one.kept one.rows
    (λ clean ready typed. never_foreign (λ r. is_meta r ≡ true) _ c.meta_rows.result (typed_among (λ r. is_meta r ≡ true) (λ r. is_the_number 1 (column r 0)) _ (typed_rows meta meta_laws _ typed)) (one.foreign clean ready)) in
    fails_first c.from_residual.ensures (rw c.in_err-rows.was at read)

pub returns-in-Some-clause-read : goal.returns-in-Some-clause-read
returns-in-Some-clause-read g c =
    let one = c.meta_rows.ensures in
    let read : IsRead {X = Vec MetaRow Global} (λ t rows. find (λ r. true) rows.items ≡ t.meta) (state g.S.Store c.args.tx.now.conn.now) (state g.S.Store c.meta_rows.new.tx.conn.now) c.meta_rows.result =
    read_of _ _ _ c.meta_rows.result one.survives one.same one.kept one.rows
    (λ clean ready typed. never_foreign (λ r. is_meta r ≡ true) _ c.meta_rows.result (typed_among (λ r. is_meta r ≡ true) (λ r. is_the_number 1 (column r 0)) _ (typed_rows meta meta_laws _ typed)) (one.foreign clean ready)) in
    so_told (rw c.in_ok-rows.was at read) (λ t h. sym h ∙ found_first c.in_ok-rows.rows.items ∙ ap (λ l. slice_get l 0) (sym c.as_slice.ensures.value) ∙ sym c.in-Some.ensures.value)

pub returns-clause-read : goal.returns-clause-read
returns-clause-read g c =
    let one = c.meta_rows.ensures in
    let read : IsRead {X = Vec MetaRow Global} (λ t rows. find (λ r. true) rows.items ≡ t.meta) (state g.S.Store c.args.tx.now.conn.now) (state g.S.Store c.meta_rows.new.tx.conn.now) c.meta_rows.result =
    read_of _ _ _ c.meta_rows.result one.survives one.same one.kept one.rows
    (λ clean ready typed. never_foreign (λ r. is_meta r ≡ true) _ c.meta_rows.result (typed_among (λ r. is_meta r ≡ true) (λ r. is_the_number 1 (column r 0)) _ (typed_rows meta meta_laws _ typed)) (one.foreign clean ready)) in
    none_known (rw c.in_ok-rows.was at read) (λ t h. sym h ∙ found_first c.in_ok-rows.rows.items ∙ ap (λ l. slice_get l 0) (sym c.as_slice.ensures.value) ∙ sym c.in-None.ensures.value)
