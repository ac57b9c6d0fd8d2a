use Rattle.requests.proofs.Words.{rules, members_len-members_view}
use Rattle.requests.proofs.fields.is_object_of.Goals as goal

pub returns-in-Some : goal.returns-in-Some
returns-in-Some c = rw (← c.as_object.ensures, c.in-Some.is, members_len-members_view) search rules
