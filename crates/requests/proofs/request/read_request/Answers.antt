use Rattle.requests.proofs.Words.{◌≡◌, take, None, Some, rules, HEAD_MAX, head_end}
use Rattle.requests.proofs.Readings.{too_long, too_short, no_end, some_end, whole_head, no_head}
use Rattle.requests.proofs.request.read_request.Goals as goal

pub returns-then-text-gt-LONGEST_HEAD : goal.returns-then-text-gt-LONGEST_HEAD
returns-then-text-gt-LONGEST_HEAD c = λ _.
    let e : head_end (take HEAD_MAX c.args.text.now) ≡ None = search rules in
    no_end c.args.text.now _ e (too_long c.args.text.now c.if-text-gt-LONGEST_HEAD.true)

pub returns-else-text-gt-LONGEST_HEAD : goal.returns-else-text-gt-LONGEST_HEAD
returns-else-text-gt-LONGEST_HEAD c = λ _.
    let e : head_end (take HEAD_MAX c.args.text.now) ≡ None = search rules in
    no_end c.args.text.now _ e (too_short c.args.text.now c.if-text-gt-LONGEST_HEAD.false)

pub returns-in-Ok : goal.returns-in-Ok
returns-in-Ok c = λ m.
    let e : head_end (take HEAD_MAX c.args.text.now) ≡ Some c.in-Some.end = search rules in
    let cut = whole_head c.split_at.result.0.now c.split_at.result.1.now c.in-Ok.head.method.now c.in-Ok.head.target.now c.in-Ok.head.length _ c.in-Ok.ensures.ok (c.after_head.ensures m) in
    some_end c.args.text.now c.in-Some.end _ e (rw (← c.split_at.ensures.front, ← c.split_at.ensures.back) cut)

pub returns-in-Err : goal.returns-in-Err
returns-in-Err c = λ _.
    let e : head_end (take HEAD_MAX c.args.text.now) ≡ Some c.in-Some.end = search rules in
    some_end c.args.text.now c.in-Some.end _ e (rw (← c.split_at.ensures.front, ← c.split_at.ensures.back) (no_head c.split_at.result.0.now c.split_at.result.1.now c.in-Err.ensures.err))
