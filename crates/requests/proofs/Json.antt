-- Bytes that are no JSON.
use Rattle.requests.proofs.Words.{◌≡◌, refl, ℕ, List, Bool, true, false, Option, Some, None, if◌then◌else◌, IsUtf8, is_utf8, IsUtf8-from_is_utf8, is_utf8-from_IsUtf8, Data, read, json}

pick : (b : Bool) (x : Option Data) → (b ≡ true → x ≡ None) → (if b then x else None) ≡ None
pick true x h = h refl
pick false x h = refl

pub json_none : (body : List ℕ) → (IsUtf8 body → read body ≡ None) → json body ≡ None
json_none body h = pick (is_utf8 body) (read body) (λ e. h (IsUtf8-from_is_utf8 body e))

pub json_some : (body : List ℕ) (d : Data) → IsUtf8 body → read body ≡ Some d → json body ≡ Some d
json_some body d u e = rw (is_utf8-from_IsUtf8 body u) e
