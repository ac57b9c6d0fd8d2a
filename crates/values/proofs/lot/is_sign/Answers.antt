use Rattle.std.proofs.Common.{rules, tests}
use Rattle.std.specs.Prelude.{◌==◌, codes}
use Rattle.std.proofs.lemmas.Iterator.{YieldsList-from_slice}
use Rattle.std.proofs.lemmas.Iterator.Search.{any_from_yields_List}
use Rattle.values.proofs.lot.is_sign.Goals as goal

pub returns : goal.returns
returns c = any_from_yields_List (λ sign. c.args.c == sign) _ _ _ c.any.ensures.ran (YieldsList-from_slice (codes "!\"%&'()*+,-./:;<=>?_") cc) (λ x b q k. search (rules, tests))
