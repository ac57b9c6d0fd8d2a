-- The listener of a server, behind a reference.
use Rattle.std.proofs.Common.{◌≡◌, ◌∙◌, Option}
use Rattle.std.specs.Prelude.{is_some}
use Rattle.command_line.specs.declared.running.Work.{Work}
use Rattle.command_line.specs.declared.running.Work.TheVariants.{Make, Serve, Import, Card, Notice, History, Audit, Apply}
use Rattle.line_work.specs.Works.{Listens}

pub listens_behind : {A B : Type 0} (work : Work) (a : Option A) (b : Option B) → is_some b ≡ is_some a → Listens work a → Listens work b
listens_behind (Make day) a b same h = h
listens_behind (Serve port max log acts) a b same h = same ∙ h
listens_behind (Import file acts) a b same h = h
listens_behind (Card lot) a b same h = h
listens_behind (Notice lot) a b same h = h
listens_behind History a b same h = h
listens_behind (Audit given) a b same h = h
listens_behind (Apply file) a b same h = h
