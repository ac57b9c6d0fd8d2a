use Rattle.row_rules.proofs.Words.{◌≡◌, [], ◌∷◌, ◌++◌, List, ℕ, length, rules, arith, ap, ◌∙◌, map, reverse}
use Rattle.row_rules.proofs.KeyOrder.{keyed_more, all_taken}
use Rattle.row_rules.proofs.row_index.places_by_text.Goals as goal

pub loop-row-preserved : goal.loop-row-preserved
loop-row-preserved g c =
    let key : g.row.T.Denot → List ℕ = λ r. reverse (g.K.HasText.text (g.T.Has.of_row r)) in
    let l = c.loop-row in
    let row = c.row-item.result in
    let there : c.len-place.result ≡ l.row-index = let e : c.len-place.result ≡ length l.places.items = search rules in e ∙ l.invariant.long in
    let key_is : c.key.result ≡ key row = c.key.ensures ∙ ap (λ v. reverse (g.K.HasText.text v)) c.value.ensures in
    keyed_more key c.args.rows.now l.row-index l.places.items c.push.new.self.items row c.loop-row-test.true c.row-item.is l.invariant
    (c.in_ok-push.ensures.items ∙ ap (λ (k : List ℕ). l.places.items ++ (k, c.len-place.result) ∷ []) key_is ∙ ap (λ (n : ℕ). l.places.items ++ (key row, n) ∷ []) there)

pub returns-clause-within : goal.returns-clause-within
returns-clause-within g c = c.loop-row.invariant.within

pub returns-clause-rows : goal.returns-clause-rows
returns-clause-rows g c =
    c.loop-row.invariant.rows_are ∙ ap (map (λ r. (reverse (g.K.HasText.text (g.T.Has.of_row r)), r))) (all_taken c.args.rows.now c.loop-row.row-index (omega arith))
