-- What a request asks, step by step.
use Rattle.requests.proofs.Words.{◌≡◌, ◌≢◌, ◌∙◌, ap, refl, ℕ, List, Bool, Option, Some, Err, if◌then◌else◌, ok_or, bytes_eq, Data, json, body_of, route_of, method_of, method_name, valued, posted, read_route, read_method, read_ask, Ask, Field, Method, Route, Posted, GoodsIn}

-- what is no file is JSON
as_json : (p : Posted) (body : List ℕ) → p ≢ GoodsIn → posted p body ≡ valued p (json body)
as_json GoodsIn body n = absurd (n refl)
as_json _ body n = refl

pub with_json : (p : Posted) (body : List ℕ) (d : Data) (o : Option Ask) → p ≢ GoodsIn → json body ≡ Some d → body_of p d ≡ o
    → posted p body ≡ ok_or o Field
with_json p body d o n j b = as_json p body n ∙ ap (valued p) j ∙ ap (λ a. ok_or a Field) b

pub with_route : (method target body : List ℕ) (r : Route) (b : Bool) → route_of target ≡ Some r → bytes_eq method (method_name (method_of r)) ≡ b
    → read_ask method target body ≡ (if b then read_route r target body else Err (Method (method_of r)))
with_route method target body r b e k =
    ap (λ o. read_method o method target body) e ∙ ap (λ c. if c then read_route r target body else Err (Method (method_of r))) k
