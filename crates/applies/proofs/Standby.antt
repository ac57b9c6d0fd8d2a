-- The text of a whole history, applied to new books.
use Rattle.applies.proofs.Words.{◌≡◌, List, [], ◌∷◌, ◌++◌, append-nil, refl, sym, ap, subst, ◌∙◌, ℤ, Option, option_map, same_Some, MetaRow, Act, IsHistory, Tables, tables_of, history_text, act_line, newer_text, AreBooks, StandbyIsPrimary}
use Rattle.applies.proofs.Passed.{no_front, no_back}
use Rattle.applies.proofs.Fronts.{one_list}

pub text_is : (begun : ℤ) (acts : List Act) → history_text begun acts ≡ newer_text begun acts []
text_is begun [] = refl
text_is begun (act ∷ before) = ap (λ t. t ++ act_line begun act before) (text_is begun before) ∙ ap (λ l. newer_text begun before [] ++ act_line begun act l) (sym (append-nil before))

abbrev day_of : Option MetaRow → Option ℤ
day_of row = option_map (λ (m : MetaRow). m.day) row

pub new_day : (first begun : ℤ) → tables_of begun [] ≡ tables_of first [] → begun ≡ first
unfolding tables_of
new_day first begun e = same_Some begun first (ap (λ (t : Tables). day_of t.meta) e)

pub standby : StandbyIsPrimary
standby first begun acts newer told trees history began done_history done books =
    let gone = done.0 in
    let two = no_front (gone.later ++ gone.known) gone.older (sym gone.parts) in
    let older : gone.older ≡ [] = no_back (gone.later ++ gone.known) gone.older (sym gone.parts) in
    let known : gone.known ≡ [] = no_back gone.later gone.known two in
    let all : newer ++ gone.known ≡ newer = ap (λ l. newer ++ l) known ∙ append-nil newer in
    let day = new_day first begun began.tables in
    let text : newer_text first acts [] ≡ newer_text first newer [] ++ gone.rest =
    sym (text_is first acts) ∙ gone.is ∙ ap (λ l. newer_text begun l gone.older ++ gone.rest) all ∙ ap (λ l. newer_text begun newer l ++ gone.rest) older ∙ ap (λ b. newer_text b newer [] ++ gone.rest) day in
    let mine : IsHistory first newer = subst (IsHistory first) (append-nil newer) done_history in
    let same : acts ≡ newer = one_list first first acts newer gone.rest history mine gone.part text in
    subst (λ l. AreBooks first l trees) (append-nil newer ∙ sym same) books
