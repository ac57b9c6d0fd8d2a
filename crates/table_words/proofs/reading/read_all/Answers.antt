use Rattle.table_words.proofs.Words.{◌≡◌, true, [], ◌∷◌, ◌++◌, ◌+◌, take, map, sym, subst, ap, ◌∙◌, AllByRecursion, take_more, map-append, all-append}
use Rattle.sqlite.specs.Order.{Row}
use Rattle.table_words.proofs.reading.read_all.Goals as goal

pub loop-row-preserved : goal.loop-row-preserved
loop-row-preserved g c =
    let rows = c.args.rows.now in
    let i = c.loop-row.row-index in
    let row = c.row-item.result in
    let read = c.in_ok-read.ensures.ok in
    let has : Row → Type 0 = λ v. g.T.Readable.has v ≡ true in
    let more : take (i + 1) rows ≡ take i rows ++ row ∷ [] = take_more rows i row c.loop-row-test.true ∙ ap (λ x. take i rows ++ x ∷ []) (sym c.row-item.is) in (
      subst (AllByRecursion has) (sym more) (all-append has (take i rows) (row ∷ []) c.loop-row.invariant.0 (read.0, tt)),
      ap (map g.T.Readable.reads) more ∙ map-append g.T.Readable.reads (take i rows) (row ∷ []) ∙ ap (λ l. l ++ g.T.Readable.reads row ∷ []) c.loop-row.invariant.1
          ∙ ap (λ x. c.loop-row.found.items ++ x ∷ []) read.1 ∙ sym c.in_ok-push.ensures.items,
    )
