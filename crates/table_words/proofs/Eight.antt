-- A row of at most eight values, one by one.
use Rattle.table_words.proofs.Words.{◌≡◌, ◌≤◌, [], ◌∷◌, length, take, map, refl, arith, bound, bound_value, owned, ValueRef, Row, column}

pub eight : (v0 v1 v2 v3 v4 v5 v6 v7 : ValueRef) (c : Row) → length c ≤ 8 → map bound_value c ≡ c → owned v0 ≡ column c 0 → owned v1 ≡ column c 1 → owned v2 ≡ column c 2 → owned v3 ≡ column c 3 → owned v4 ≡ column c 4 → owned v5 ≡ column c 5 → owned v6 ≡ column c 6 → owned v7 ≡ column c 7 → bound (take (length c) (v0 ∷ v1 ∷ v2 ∷ v3 ∷ v4 ∷ v5 ∷ v6 ∷ v7 ∷ [])) ≡ c
eight v0 v1 v2 v3 v4 v5 v6 v7 ([]) h plain e0 e1 e2 e3 e4 e5 e6 e7 = refl
eight v0 v1 v2 v3 v4 v5 v6 v7 (a0 ∷ []) h plain e0 e1 e2 e3 e4 e5 e6 e7 = rw e0 plain
eight v0 v1 v2 v3 v4 v5 v6 v7 (a0 ∷ a1 ∷ []) h plain e0 e1 e2 e3 e4 e5 e6 e7 = rw (e0, e1) plain
eight v0 v1 v2 v3 v4 v5 v6 v7 (a0 ∷ a1 ∷ a2 ∷ []) h plain e0 e1 e2 e3 e4 e5 e6 e7 = rw (e0, e1, e2) plain
eight v0 v1 v2 v3 v4 v5 v6 v7 (a0 ∷ a1 ∷ a2 ∷ a3 ∷ []) h plain e0 e1 e2 e3 e4 e5 e6 e7 = rw (e0, e1, e2, e3) plain
eight v0 v1 v2 v3 v4 v5 v6 v7 (a0 ∷ a1 ∷ a2 ∷ a3 ∷ a4 ∷ []) h plain e0 e1 e2 e3 e4 e5 e6 e7 = rw (e0, e1, e2, e3, e4) plain
eight v0 v1 v2 v3 v4 v5 v6 v7 (a0 ∷ a1 ∷ a2 ∷ a3 ∷ a4 ∷ a5 ∷ []) h plain e0 e1 e2 e3 e4 e5 e6 e7 = rw (e0, e1, e2, e3, e4, e5) plain
eight v0 v1 v2 v3 v4 v5 v6 v7 (a0 ∷ a1 ∷ a2 ∷ a3 ∷ a4 ∷ a5 ∷ a6 ∷ []) h plain e0 e1 e2 e3 e4 e5 e6 e7 = rw (e0, e1, e2, e3, e4, e5, e6) plain
eight v0 v1 v2 v3 v4 v5 v6 v7 (a0 ∷ a1 ∷ a2 ∷ a3 ∷ a4 ∷ a5 ∷ a6 ∷ a7 ∷ []) h plain e0 e1 e2 e3 e4 e5 e6 e7 = rw (e0, e1, e2, e3, e4, e5, e6, e7) plain
eight v0 v1 v2 v3 v4 v5 v6 v7 (a0 ∷ a1 ∷ a2 ∷ a3 ∷ a4 ∷ a5 ∷ a6 ∷ a7 ∷ a8 ∷ rest) h plain e0 e1 e2 e3 e4 e5 e6 e7 = absurd (omega arith)
