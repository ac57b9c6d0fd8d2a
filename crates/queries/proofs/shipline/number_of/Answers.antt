use Rattle.queries.proofs.Words.{sym, subst, ap, ◌∙◌, result_ok, IsUtf8, IsAscii-decimal, parse-decimal, IsUtf8-from_ascii}
use Rattle.queries.proofs.shipline.number_of.Goals as goal

pub returns-in-Ok : goal.returns-in-Ok
returns-in-Ok c n small is = c.ok.ensures.value ∙ ap result_ok (parse-decimal 64 n _ c.parse.result small small (c.in-Ok.ensures.cases.0 ∙ is) c.parse.ensures.value.0)

pub returns-in-Err : goal.returns-in-Err
returns-in-Err c n small is = absurd (c.in-Err.ensures.cases.0 (subst IsUtf8 (sym is) (IsUtf8-from_ascii _ (IsAscii-decimal n small))))
