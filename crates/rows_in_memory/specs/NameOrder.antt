-- The order of names: by their characters, from the last one on.
use Rattle.std.specs.Prelude.{◌≡◌, ℕ, true, List, reverse}
use Rattle.std.specs.Ordering.{nat_cmp, is_eq}
use Rattle.std.specs.BTreeSet.{BTreeSet}
use Rattle.std.specs.Cmp.Lexicographic.{slice_cmp, texts_ties}
use Rattle.std.proofs.Common.{sym, ◌∙◌}
use Rattle.values.specs.Values.{same_text}
use Rattle.machine.proofs.Tests.{same_text_is, same_text_turned}
use Rattle.values.proofs.Turned.{turned_same}
use Rattle.rows_in_memory.specs.Keys.{AreKeyed}

-- one name exactly if neither is before the other
pub names_told : (n m : List ℕ) → is_eq (slice_cmp nat_cmp (reverse m) (reverse n)) ≡ same_text n m
names_told n m = sym (same_text_turned (reverse n) (reverse m) ∙ texts_ties (reverse m) (reverse n)) ∙ turned_same n m

pub names_exact : (n m : List ℕ) → same_text n m ≡ true → n ≡ m
names_exact n m e = same_text_is n m e

-- these keys are those of the names
abbrev pub AreNamesKeyed : BTreeSet (List ℕ) → List (List ℕ) → Type 0
AreNamesKeyed keys names = AreKeyed (slice_cmp nat_cmp) reverse same_text keys names
