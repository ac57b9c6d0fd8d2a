use Rattle.house.proofs.Kept.{never_fails}
use Rattle.house.proofs.house.House.serve_one_logged.Goals as goal

pub returns-clause-served : goal.returns-clause-served
returns-clause-served g c clean first acts history holds read = (c.serve_one_kept.ensures.served clean first acts history holds read).0

pub returns-clause-as_before : goal.returns-clause-as_before
returns-clause-as_before g c clean read = c.serve_one_kept.ensures.as_before clean read

pub returns-clause-unread : goal.returns-clause-unread
returns-clause-unread g c failed = let u = c.serve_one_kept.ensures.unread failed in (u.0, u.1, u.2, u.4)

pub returns-clause-kept : goal.returns-clause-kept
returns-clause-kept g c = never_fails c.serve_one_kept.result.kept c.serve_one_kept.ensures.fails
