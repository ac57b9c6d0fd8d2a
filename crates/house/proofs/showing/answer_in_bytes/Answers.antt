use Rattle.std.proofs.Common.{inr}
use Rattle.house.proofs.Stepping.{ok_status}
use Rattle.house.proofs.showing.answer_in_bytes.Goals as goal

pub returns-clause-told : goal.returns-clause-told
returns-clause-told c = inr c.fault_answer.ensures

pub returns-in-Ok-clause-in_place : goal.returns-in-Ok-clause-in_place
returns-in-Ok-clause-in_place c = ok_status c.in-Ok.bytes.items c.args.answer c.in-Ok.ensures
