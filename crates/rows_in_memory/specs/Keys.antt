-- Keys of rows, each once.
use Rattle.std.specs.Prelude.{◌≡◌, Bool, if◌then◌else◌, List, [], ◌∷◌, ◌++◌}
use Rattle.std.specs.List.{list_any}
use Rattle.std.specs.BTreeSet.{BTreeSet, contains}
use Rattle.std.specs.declared.cmp.Ordering.{Ordering}

-- the key is one of these
abbrev pub has_key : {K : Type 0} → (K → K → Bool) → List K → K → Bool
has_key same keys k = list_any (same k) keys

-- the keys with one more, if it is new
abbrev pub with_key : {K : Type 0} → (K → K → Bool) → K → List K → List K
with_key same k keys = if has_key same keys k then keys else keys ++ k ∷ []

-- and with those of rows
abbrev pub with_keys : {K R : Type 0} → (K → K → Bool) → (R → K) → List R → List K → List K
with_keys same key [] keys = keys
with_keys same key (r ∷ rs) keys = with_keys same key rs (with_key same (key r) keys)

-- these keys, in their order, are those of the values
abbrev pub AreKeyed : {T K : Type 0} → (K → K → Ordering) → (T → K) → (T → T → Bool) → BTreeSet K → List T → Type 0
AreKeyed {T} {K} cmp key same keys values = (x : T) → contains cmp keys (key x) ≡ has_key same values x
