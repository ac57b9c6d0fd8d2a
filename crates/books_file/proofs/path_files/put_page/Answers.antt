use Rattle.std.proofs.Common.{◌≡◌, ◌+◌, ◌∙◌, ℕ, List, ap, arith, sym, take}
use Rattle.std.proofs.lemmas.List.{take-take}
use Rattle.std.proofs.lemmas.Result.{on_ok_weaker}
use Rattle.books_file.proofs.path_files.put_page.Goals as goal

begins : (n : ℕ) (head page : List ℕ) → take (16 + n) page ≡ head → take 16 page ≡ take 16 head
begins n head page is = sym (take-take 16 (16 + n) page (omega arith)) ∙ ap (take 16) is

pub returns : goal.returns
returns g c = on_ok_weaker c.write_all.result (λ put. (c.first_page.result, begins 92 _ _ c.first_page.ensures.head, c.first_page.ensures.rest, put)) c.write_all.ensures.bytes
