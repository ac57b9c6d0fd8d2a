use Rattle.house.proofs.Words.{◌≡◌, ◌≢◌, true, sym, subst, rules, ◌⊎◌, codes, state, IsSoundRequest, is_served, act_answer, acts_with, status_of, act_of, IsDone, IsUndone}
use Rattle.house.proofs.Acting.{acted}
use Rattle.house.proofs.Unanswered.{act_unanswered}
use Rattle.house.proofs.asking.act.Goals as goal

pub returns-clause-acted : goal.returns-clause-acted
returns-clause-acted g c clean first acts history holds =
    let key = c.args.key.now in
    let command = c.args.command.now in
    let yes : is_served (act_of key command) ≡ true = search rules in
    let sound : IsSoundRequest (act_of key command) = record { kind = yes; key = c.every_key_is_sound.ensures.sound; command = c.every_command_is_sound.ensures.sound } in
    subst (λ b. IsDone g.S.Store first acts c.args.books.now (act_answer first acts (act_of key command)) (acts_with first acts (act_of key command)) b c.act.new.self
    ⊎ IsUndone g.S.Store first acts c.args.books.now (acts_with first acts (act_of key command)) b c.act.new.self)
    (sym c.reply_block.ensures)
    (acted g.S.Store first acts c.args.books.now (act_of key command) yes sound history c.act.new.self holds clean c.act.ensures.survives c.act.result
    (c.act.ensures.acted clean yes first acts history holds) (c.act.ensures.kept clean yes first acts history holds))

pub returns-clause-as_before : goal.returns-clause-as_before
returns-clause-as_before g c clean ne =
    act_unanswered c.act.result (state g.S.Store c.args.books.now.conn) (state g.S.Store c.act.new.self.conn) (c.act.ensures.as_before clean) (subst (λ b. status_of b ≢ codes "HTTP/1.1 200") c.reply_block.ensures ne)
