-- The query of all rows as one of those that seek rows.
use Rattle.whole_tables.proofs.Words.{◌≡◌, ℕ, true, List, [], ◌∷◌, filter, refl, ap, by_rowid, in_order, Described, IsLawful, Query, IsSought, kept_rows as rows_of, found_by_key, AreAll, WholeIs}

abbrev pub whole_query : {X K : Type 0} → Described X K → List ℕ → Query X K (Unit {0})
whole_query d text = record {
  may = λ by. true;
  text = text;
  params = λ by. [];
  tests = [];
  order = by_rowid;
  wanted = λ by s. true;
  stored = λ by r. true;
}

pub whole_laws : {X K : Type 0} (d : Described X K) → IsLawful d → (text : List ℕ) → WholeIs d text → IsSought d (whole_query d text) (λ by. AreAll d)
whole_laws d laws text is = record {
  is = is;
  at = λ by r h. refl;
  at_stored = λ by r int. refl;
  ordered = λ db ready by rows a. in_order db.trees [] d.layout.tree [] d.shown rows (rows_of d laws db ready).0 a;
  finds = λ db ready by xs are. found_by_key d laws (λ k. true) db ready xs are;
}

-- a test that all pass
pub all_kept : {X : Type 0} (xs : List X) → filter (λ x. true) xs ≡ xs
all_kept [] = refl
all_kept (x ∷ xs) = ap (λ rest. x ∷ rest) (all_kept xs)
