-- The first bytes of an answer of status 200.
use Rattle.house.proofs.Words.{◌≡◌, ◌≢◌, ◌∙◌, ℕ, Bool, true, false, List, sym, ◌==◌, codes, starts_with, Decides-eqb, slice_eq-Decides, status_of}

pub begins_ok : (bytes : List ℕ) (r : Bool) → r ≡ starts_with (λ a b. a == b) bytes (codes "HTTP/1.1 200") → (r ≡ true → status_of bytes ≡ codes "HTTP/1.1 200") × (r ≡ false → status_of bytes ≢ codes "HTTP/1.1 200")
begins_ok bytes r is =
    let d = slice_eq-Decides {E = λ a b. a == b} Decides-eqb (codes "HTTP/1.1 200") (status_of bytes) r is in
    ((λ yes. sym (d.0 yes)), (λ no e. let hit : r ≡ true = d.1 (sym e) in let both : true ≡ false = sym hit ∙ no in cc))
