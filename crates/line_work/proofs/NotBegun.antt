-- What is left where no work was begun.
use Rattle.line_work.proofs.Words.{StoreGhosts as Ghosts, Held, Leftover, Fault, Work, Make, Serve, Import, Card, Notice, History, Audit, Apply, IsCleanBefore, IsNotBegun}

-- whatever the work was
pub clean_before : {S : Type 0} (g : Ghosts S) (old : Held S) (work : Work) (left : Leftover S) (fault : Fault) → IsNotBegun g old work left fault → IsCleanBefore g old left
clean_before g old (Make day) left fault h = h.clean
clean_before g old (Serve port max log acts_file) left fault h = h.clean
clean_before g old (Import file acts_file) left fault h = h.clean
clean_before g old (Card lot) left fault h = h.clean
clean_before g old (Notice lot) left fault h = h.clean
clean_before g old History left fault h = h.clean
clean_before g old (Audit given) left fault h = h.clean
clean_before g old (Apply file) left fault h = h.clean
