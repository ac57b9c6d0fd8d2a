-- The cut is the number that `cut_of` counts.
use Prim.Native.Nat.{zero}
use Rattle.plan.proofs.Words.{◌≡◌, ℕ, suc, ◌+◌, ◌≤◌, ◌<◌, true, false, not, ◌&&◌, List, [], ◌∷◌, length, get_or, drop, refl, ap, sym, subst, ◌∙◌, inl, inr, arith, Some, if◌then◌else◌, IsCut, same_demand, same_supply, change_start, ends_in_time, count_kept, cut_of, Demand, Supply}
use Rattle.plan.proofs.Running.{drop_from}
use Rattle.plan.proofs.Changing.{IsSame, same_none, same_on, changed_here, all_same, one_ends, supplies_equal, supplies_differ, demands_equal, demands_differ, IsCounted, IsChange, counted_none, counted_more, cut_at_end, cut_at_difference, cut_at_change}

-- What is left of a list from a place on

module _ {X : Type 0} where
  more_left : (i : ℕ) (xs : List X) (x : X) (rest : List X) → drop i xs ≡ x ∷ rest → i < length xs
  more_left zero [] x rest e = let no : [] ≡ x ∷ rest = e in cc
  more_left zero (y ∷ ys) x rest e = omega arith
  more_left (suc i) [] x rest e = let no : [] ≡ x ∷ rest = e in cc
  more_left (suc i) (y ∷ ys) x rest e = let le = more_left i ys x rest e in omega arith

  none_left : (i : ℕ) (xs : List X) → drop i xs ≡ [] → length xs ≤ i
  none_left zero [] e = omega arith
  none_left zero (y ∷ ys) e = let no : y ∷ ys ≡ [] = e in cc
  none_left (suc i) [] e = omega arith
  none_left (suc i) (y ∷ ys) e = let le = none_left i ys e in omega arith

  first_left : (i : ℕ) (xs : List X) (none x : X) (rest : List X) → drop i xs ≡ x ∷ rest → get_or xs i none ≡ x
  first_left i xs none x rest e = let f : get_or xs i none ∷ drop (i + 1) xs ≡ x ∷ rest = sym (drop_from xs i none (more_left i xs x rest e)) ∙ e in cc

  rest_left : (i : ℕ) (xs : List X) (x : X) (rest : List X) → drop i xs ≡ x ∷ rest → drop (i + 1) xs ≡ rest
  rest_left i xs x rest e = let f : get_or xs i x ∷ drop (i + 1) xs ≡ x ∷ rest = sym (drop_from xs i x (more_left i xs x rest e)) ∙ e in cc

-- Where the first supply starts that changed

module _ (ss ts : List Supply) where
  change_from : (place start : ℕ) (rs qs : List Supply) → drop place ss ≡ rs → drop place ts ≡ qs → IsSame ss ts place start → IsChange ss ts (change_start start rs qs)
  change_from place start [] [] e f h =
      let old_ends = none_left place ss e in
      let new_ends = none_left place ts f in
      all_same ss ts place start (record { lot = 0; avail = 0 }) h (inl old_ends) (omega (arith, h.in_old, h.in_new))
  change_from place start [] (q ∷ qs) e f h =
      let old_ends = none_left place ss e in
      let new_more = more_left place ts q qs f in
      one_ends ss ts place start q h (inl old_ends) (λ same. omega arith)
  change_from place start (r ∷ rs) [] e f h =
      let old_more = more_left place ss r rs e in
      let new_ends = none_left place ts f in
      one_ends ss ts place start r h (inr new_ends) (λ same. omega arith)
  change_from place start (r ∷ rs) (q ∷ qs) e f h =
      let first_old = first_left place ss r r rs e in
      let first_new = first_left place ts r q qs f in
      elim (same_supply r q) as (λ b. same_supply r q ≡ b → IsChange ss ts (if b then change_start (start + r.avail) rs qs else Some start)) [
        | true ↦ λ g.
            let next = same_on ss ts place start r h (more_left place ss r rs e) (more_left place ts q qs f) (first_old ∙ supplies_equal r q (sym (ap not g)) ∙ sym first_new) in
            change_from (place + 1) (start + r.avail) rs qs (rest_left place ss r rs e) (rest_left place ts q qs f)
            (subst (λ (s : Supply). IsSame ss ts (place + 1) (start + s.avail)) first_old next)
        | false ↦ λ g. changed_here ss ts place start r h (λ same. supplies_differ r q (sym (ap not g)) (sym first_old ∙ same ∙ first_new))
      ] refl

  pub change_is : IsChange ss ts (change_start 0 ss ts)
  change_is = change_from 0 0 ss ts refl refl (same_none ss ts)

-- How many demands are kept

module _ (ds : List Demand) (ss : List Supply) (es : List Demand) (ts : List Supply) where
  no_more : (n : ℕ) → IsCut ds ss es ts n → IsCut ds ss es ts (n + 0)
  no_more n h = let same : n ≡ n + 0 = omega arith in subst (λ m. IsCut ds ss es ts m) same h

  count_from : (count stop : ℕ) (rs qs : List Demand) → drop count ds ≡ rs → drop count es ≡ qs → IsCounted ds ss es ts count stop
      → IsCut ds ss es ts (count + count_kept (change_start 0 ss ts) stop rs qs)
  count_from count stop [] qs e f h = no_more count (cut_at_end ds ss es ts count stop (record { booking = 0; need = 0 }) h (inl (none_left count ds e)))
  count_from count stop (r ∷ rs) [] e f h = no_more count (cut_at_end ds ss es ts count stop r h (inr (none_left count es f)))
  count_from count stop (r ∷ rs) (q ∷ qs) e f h =
      let first_old = first_left count ds r r rs e in
      let first_new = first_left count es r q qs f in
      let change = change_start 0 ss ts in
      let own = change_is ss ts in
      let own_stop = ap (λ (d : Demand). ends_in_time (stop + d.need) change) first_old in
      let rest = count_kept change (stop + r.need) rs qs in
      elim (same_demand r q) as (λ b. same_demand r q ≡ b → IsCut ds ss es ts (count + (if b && ends_in_time (stop + r.need) change then rest + 1 else 0))) [
        | true ↦ λ g. elim (ends_in_time (stop + r.need) change) as (λ b. ends_in_time (stop + r.need) change ≡ b → IsCut ds ss es ts (count + (if b then rest + 1 else 0))) [
          | true ↦ λ k.
              let next = counted_more ds ss es ts count stop r h change own (more_left count ds r rs e) (more_left count es q qs f)
              (first_old ∙ demands_equal r q (sym (ap not g)) ∙ sym first_new) (own_stop ∙ k) in
              let all = count_from (count + 1) (stop + r.need) rs qs (rest_left count ds r rs e) (rest_left count es q qs f)
              (subst (λ (d : Demand). IsCounted ds ss es ts (count + 1) (stop + d.need)) first_old next) in
              let same : count + 1 + rest ≡ count + (rest + 1) = omega arith in
              subst (λ n. IsCut ds ss es ts n) same all
          | false ↦ λ k. no_more count (cut_at_change ds ss es ts count stop r h change own (more_left count ds r rs e) (own_stop ∙ k))
        ] refl
        | false ↦ λ g. no_more count (cut_at_difference ds ss es ts count stop r h (λ same. demands_differ r q (sym (ap not g)) (sym first_old ∙ same ∙ first_new)))
      ] refl

  pub cut_of_is_cut : IsCut ds ss es ts (cut_of ds ss es ts)
  cut_of_is_cut =
      let same : 0 + cut_of ds ss es ts ≡ cut_of ds ss es ts = omega arith in
      subst (λ n. IsCut ds ss es ts n) same (count_from 0 0 ds es refl refl (counted_none ds ss es ts))

  -- there is one cut
  pub cut_is : (n : ℕ) → IsCut ds ss es ts n → n ≡ cut_of ds ss es ts
  cut_is n h = omega (arith, h.greatest (cut_of ds ss es ts) cut_of_is_cut.front, cut_of_is_cut.greatest n h.front)
