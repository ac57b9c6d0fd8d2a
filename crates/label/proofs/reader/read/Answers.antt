use Rattle.label.proofs.Words.{◌≡◌, ◌↔◌, Ok, Err, Some, subst, sym, IsLabelOf, label_fault}
use Rattle.label.proofs.ReadLaws.{reads_exactly_labels, reads_exactly_faults}
use Rattle.label.proofs.reader.read.Goals as goal

pub returns-clause-label : goal.returns-clause-label
returns-clause-label c label =
    subst (λ r. (r ≡ Ok label) ↔ IsLabelOf c.args.today c.args.text.now label) (sym c.read_text.ensures)
    (reads_exactly_labels c.args.today c.args.text.now label)

pub returns-clause-fault : goal.returns-clause-fault
returns-clause-fault c fault =
    subst (λ r. (r ≡ Err fault) ↔ (label_fault c.args.today c.args.text.now ≡ Some fault)) (sym c.read_text.ensures)
    (reads_exactly_faults c.args.today c.args.text.now fault)
