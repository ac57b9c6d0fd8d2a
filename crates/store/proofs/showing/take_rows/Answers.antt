use Rattle.store.proofs.Words.{sym, subst, Option, IsKnownOf, KnowsRows, KnowsNoRows, HoldsOf, Known, RowsKnown, no_rows_known}
use Rattle.store.proofs.KnownShown.{holds_with}
use Rattle.store.proofs.showing.take_rows.Goals as goal

pub returns-in-Some : goal.returns-in-Some
returns-in-Some c t known =
    let holds : HoldsOf c.in-Some.known t = subst (λ (x : Option Known). IsKnownOf x t) c.in-Some.is known in
    let none : KnowsNoRows c.replace.new.dest = subst (λ (rows : RowsKnown). KnowsNoRows rows) (sym c.replace.ensures.after) c.new.ensures in
    (holds_with c.in-Some.known c.replace.new.dest t holds (no_rows_known t c.replace.new.dest none), subst (λ (rows : RowsKnown). KnowsRows t rows) (sym c.replace.ensures.value) holds.rows)

pub returns-in-None : goal.returns-in-None
returns-in-None c t known = (known, no_rows_known t c.for_one_query.result c.for_one_query.ensures)
