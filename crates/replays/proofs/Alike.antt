-- Tables that find the same are one; the day stands where no day was opened.
use Rattle.replays.proofs.Words.{◌≡◌, false, [], ◌∷◌, refl, ◌∙◌, inl, inr, true≢false, ℤ, cases_Bool, Command, OpenDay, day_after_command, OneTables, is_opening, StillTheFirstDay}
use Rattle.keyed_rows.specs.Writes.{each_written}
use Rattle.whole_tables.specs.Family.{over}
use Rattle.whole_tables.specs.declared.key.TheConstants.{TABLE_NAMES}

pub one_tables : OneTables
one_tables a b h = λ i. each_written (λ n t. over n (λ k. h n k i) t) TABLE_NAMES.now a

stays : (c : Command) (day : ℤ) → is_opening c ≡ false → day_after_command c day ≡ day
stays (OpenDay c) day e = absurd (true≢false e)
stays _ day e = refl

pub still_first : StillTheFirstDay
still_first first [] e = refl
still_first first (act ∷ before) e = elim (cases_Bool (is_opening act.command)) [
  | inl opens ↦ absurd (true≢false (rw opens at e))
  | inr same ↦ stays act.command _ same ∙ still_first first before (rw same at e)
]
