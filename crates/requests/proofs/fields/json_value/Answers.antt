use Rattle.requests.proofs.Words.{rules, IsMemory, view}
use Rattle.requests.proofs.Json.{json_none, json_some}
use Rattle.requests.proofs.fields.json_value.Goals as goal

pub returns-in-Ok-clause-ok : goal.returns-in-Ok-clause-ok
returns-in-Ok-clause-ok c = json_some c.args.body.now (view c.in-Ok.value) c.in-Ok.ensures.ok.0 c.in-Ok.ensures.ok.1

pub returns-else-is_memory-clause-err : goal.returns-else-is_memory-clause-err
returns-else-is_memory-clause-err c = λ _.
    let no : ¬ (IsMemory c.in-Err.e) = search rules in
    (search rules, json_none c.args.body.now (c.in-Err.ensures.err no))
