-- A text in an array of zeros.
use Rattle.std.proofs.Common.{◌≡◌, ℕ, ◌≤◌, List, ◌++◌, length, take, drop, replicate, ap, sym, ◌∙◌, arith}
use Rattle.std.proofs.Math.Seq.{take-append_seam}
use Rattle.std.proofs.lemmas.List.{drop-replicate}
use Rattle.std.specs.Prelude.{Bool, false, ◌&&◌, ◌==◌}
use Rattle.std.proofs.lemmas.Bool.Decides.{nat_tests}
use Rattle.values.specs.Values.{is_between}
use Rattle.values.specs.Padded.{padded, IsPadded}

pub padded_text : (n : ℕ) (s t : List ℕ) → s ≡ t → length t ≤ n → IsPadded n (s ++ drop (length t) (replicate n 0)) (length t)
padded_text n s t e h =
    let x = drop (length t) (replicate n 0) in
    let front : take (length t) (s ++ x) ≡ t = ap (λ k. take (length k) (s ++ x)) (sym e) ∙ take-append_seam s x ∙ e in
    record {
      fits = h;
      len_is = ap length front;
      rest = ap (padded n) front ∙ ap (λ z. t ++ z) (sym (drop-replicate (length t) n 0)) ∙ ap (λ k. k ++ x) (sym e);
    }

pub name_rule : (n : ℕ) (b r : Bool) → ((n == 0) ≡ false) → n ≤ 20 → r ≡ b → r ≡ is_between 1 20 n && b
name_rule n b r some few e = grind (arith, nat_tests)

pub rule : (n k : ℕ) (b r : Bool) → ((n == 0) ≡ false) → n ≤ k → r ≡ b → r ≡ is_between 1 k n && b
rule n k b r some few e = grind (arith, nat_tests)
