use Rattle.row_rules.proofs.Words.{ℕ, ◌++◌, List, ap, ◌∙◌, arith, ReservedRow, replanned_between, Replanned}
use Rattle.row_rules.proofs.GatheringShares.{both_more, both_put, both_dropped}
use Rattle.row_rules.proofs.replanning.replan_each.Goals as goal

pub loop-gtin-preserved : goal.loop-gtin-preserved
loop-gtin-preserved c =
    let a = c.args in
    let l = c.loop-gtin in
    let all : List ℕ → Replanned = replanned_between a.before.now a.after.now in
    let f : List ℕ → List ReservedRow = λ g. (all g).put in
    let h : List ℕ → List ReservedRow = λ g. (all g).dropped in
    let item = c.in_ok-item.ensures in
    both_more f h a.gtins.now l.gtin-index l.put.items l.dropped.items c.gtin-item.result c.extend_from_slice.new.self.items c.extend_from_slice-in-loop-gtin.new.self.items c.loop-gtin-test.true l.invariant
    (c.in_ok-extend_from_slice.ensures.items ∙ ap (λ ys. l.put.items ++ ys) (c.as_slice.ensures ∙ ap (λ (r : Replanned). r.put) item ∙ ap f c.gtin-item.is))
    (c.in_ok-extend_from_slice-2.ensures.items ∙ ap (λ ys. l.dropped.items ++ ys) (c.as_slice-in-loop-gtin.ensures ∙ ap (λ (r : Replanned). r.dropped) item ∙ ap h c.gtin-item.is))

pub returns-clause-put : goal.returns-clause-put
returns-clause-put c =
    let a = c.args in
    let l = c.loop-gtin in
    let all : List ℕ → Replanned = replanned_between a.before.now a.after.now in
    c.from_vec.ensures ∙ both_put (λ g. (all g).put) (λ g. (all g).dropped) a.gtins.now l.gtin-index l.put.items l.dropped.items (omega arith) l.invariant

pub returns-clause-dropped : goal.returns-clause-dropped
returns-clause-dropped c =
    let a = c.args in
    let l = c.loop-gtin in
    let all : List ℕ → Replanned = replanned_between a.before.now a.after.now in
    c.from_vec-2.ensures ∙ both_dropped (λ g. (all g).put) (λ g. (all g).dropped) a.gtins.now l.gtin-index l.put.items l.dropped.items (omega arith) l.invariant
