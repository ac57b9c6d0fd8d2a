use Rattle.std.proofs.Common.{◌≡◌, Err, refl}
use Rattle.requests.proofs.request.after_head.Goals as goal

pub returns-in-Err : goal.returns-in-Err
returns-in-Err c = λ _.
    let e : c.args.head.length ≡ Err c.in-Err.e = (search) in
    rw e refl
