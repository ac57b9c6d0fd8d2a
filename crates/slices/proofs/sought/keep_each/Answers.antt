use Rattle.slices.proofs.Words.{◌≡◌, ◌+◌, ◌∷◌, [], List, length, drop, sym, ap, subst, ◌∙◌, arith, LearnsAt, add-one, drop-cons, drop-length}
use Rattle.slices.proofs.KnowsEach.{Learning, learning_next, all_learned}
use Rattle.slices.proofs.sought.keep_each.Goals as goal

pub loop-row-init : goal.loop-row-init
loop-row-init g c = λ new learns. learns

pub loop-row-preserved : goal.loop-row-preserved
loop-row-preserved g c =
    let rows = c.args.rows.now in
    let i = c.loop-row.row-index in
    let row = c.row-item.result in
    let left : drop i rows ≡ row ∷ drop (i + 1) rows = rw add-one (drop-cons rows i row c.loop-row-test.true) ∙ ap (λ r. r ∷ drop (i + 1) rows) (sym c.row-item.is) in
    let learned = subst (λ b. LearnsAt g.K.Ord.cmp (g.K.KeyOf.key b) (row ∷ []) c.loop-row.known.rows c.keep_found.new.known.rows) c.value.ensures c.keep_found.ensures in
    learning_next g.K.Ord.cmp (λ r. g.K.KeyOf.key (g.R.Has.of_row r)) rows (drop i rows) (drop (i + 1) rows) row c.args.known.now.rows c.loop-row.known.rows c.keep_found.new.known.rows left learned c.loop-row.invariant

pub returns : goal.returns
returns g c =
    let rows = c.args.rows.now in
    let end : c.loop-row.row-index ≡ length rows = omega (arith, c.loop-row-test.false, c.loop-row.auto.row-index-end) in
    all_learned g.K.Ord.cmp (λ r. g.K.KeyOf.key (g.R.Has.of_row r)) rows c.args.known.now.rows c.loop-row.known.rows
    (subst (λ (l : List _). Learning g.K.Ord.cmp (λ r. g.K.KeyOf.key (g.R.Has.of_row r)) rows l c.args.known.now.rows c.loop-row.known.rows) (ap (λ n. drop n rows) end ∙ drop-length rows) c.loop-row.invariant)
