use Rattle.requests.proofs.Words.{◌≡◌, drop, add_all, listed}
use Rattle.requests.proofs.routes.add_routes.Given as goal

abbrev pub invariant-loop-route : goal.invariant-loop-route
invariant-loop-route l = add_all (listed (drop l.route-index l.list)) l.router ≡ add_all (listed l.fn.list) l.initial.router
