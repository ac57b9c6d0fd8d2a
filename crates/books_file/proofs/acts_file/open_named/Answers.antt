use Rattle.std.proofs.Common.{◌∙◌, sym, ap, refl}
use Rattle.std.specs.Prelude.{is_some}
use Rattle.std.proofs.lemmas.Result.{IfOk-weaker}
use Rattle.books_file.specs.Lines.{names_acts}
use Rattle.books_file.proofs.ActsFound.{found_beside, found_none}
use Rattle.books_file.proofs.acts_file.open_named.Goals as goal

pub returns-in-Some-clause-opened : goal.returns-in-Some-clause-opened
returns-in-Some-clause-opened g c =
    IfOk-weaker c.open_acts.result _ _ (λ acts there. found_beside _ (names_acts c.args.work.now) acts (sym c.acts_name.ensures ∙ ap is_some c.in-Some.is) there) c.open_acts.ensures

pub returns-in-None-clause-opened : goal.returns-in-None-clause-opened
returns-in-None-clause-opened g c = found_none _ (names_acts c.args.work.now) _ refl (sym c.acts_name.ensures ∙ ap is_some c.in-None.is)
