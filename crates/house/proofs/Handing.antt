-- What a sink has written of the records that were handed to it: all of them, or a beginning.
use Rattle.house.proofs.Words.{List, [], ◌∷◌, ◌++◌, ℕ, Option, subst, sym, ap, ◌∙◌, flat_map, Appends, Appends-trans, Appends-nil, flat_map-append, Reaches, ReachesWithin, StopsWithin, AppendsBeginning, beginning_of_first, beginning_of_second}

-- `at` is what the sink's writer holds
module _ {K T : Type 0} (at : K → Option (List ℕ)) (line : T → List ℕ) (adds cuts : K → T → K → Type 0)
    (added : (before : K) (x : T) (after : K) → adds before x after → Appends (at before) (at after) (line x))
    (cut : (before : K) (x : T) (after : K) → cuts before x after → AppendsBeginning (at before) (at after) (line x)) where
  pub all_written : (before : K) (xs : List T) (after : K) → Reaches adds before xs after → Appends (at before) (at after) (flat_map line xs)
  all_written before [] after same = subst (λ k. Appends (at before) (at k) []) (sym same) (Appends-nil (at before))
  all_written before (x ∷ xs) after reached =
      let mid = reached.0 in
      Appends-trans (at before) (at mid) (at after) (line x) (flat_map line xs) (added before x mid reached.1) (all_written mid xs after reached.2)

  pub some_written : (before : K) (xs : List T) (after : K) → ReachesWithin adds before xs after → AppendsBeginning (at before) (at after) (flat_map line xs)
  some_written before xs after within = record {
    front = flat_map line within.taken;
    rest = flat_map line within.others;
    parts = ap (flat_map line) within.parts ∙ flat_map-append line within.taken within.others;
    written = all_written before within.taken after within.reached;
  }

  pub cut_written : (before : K) (xs : List T) (after : K) → StopsWithin adds cuts before xs after → AppendsBeginning (at before) (at after) (flat_map line xs)
  cut_written before xs after stopped =
      subst (AppendsBeginning (at before) (at after)) (sym (ap (flat_map line) stopped.parts ∙ flat_map-append line stopped.taken (stopped.next ∷ stopped.others)))
      (beginning_of_second (at before) (at stopped.last) (at after) (flat_map line stopped.taken) (line stopped.next ++ flat_map line stopped.others) (all_written before stopped.taken stopped.last stopped.reached)
      (beginning_of_first (at stopped.last) (at after) (line stopped.next) (flat_map line stopped.others) (cut stopped.last stopped.next after stopped.stopped)))
