use Rattle.house.proofs.Words.{List, refl, inr, sym, ap, ◌∙◌, true≢false, Act, IsHistory, HoldsBooks, books_of, bytes_of, sent_of}
use Rattle.house.proofs.Serving.{whole, writes, logs_sent}
use Rattle.house.proofs.Kept.{no_memory_unlike, answers_later, unanswered_later, steps_later, keeps_on, leaves_on, kept_if_told}
use Rattle.house.proofs.house.House.serve_one_kept.Goals as goal

pub returns-in-Ok-clause-served : goal.returns-in-Ok-clause-served
returns-in-Ok-clause-served g c clean first acts history holds written =
    let r = c.in-Ok.ensures.read in
    let answer = c.answer_reading-answer.result in
    let bytes = bytes_of answer in
    let steps = c.answer_reading-answer.ensures.step (c.keep-kept.ensures.clean clean) first acts history holds r.text r.read in (
      (
        record {
          text = r.text;
          bytes = bytes;
          taken = r.taken;
          whole = whole r.text bytes _ c.in-Ok.heard.reading r.read r.whole c.answer_reading-answer.ensures.memory;
          steps = steps_later g.S.Store (books_of c.args.self.now) (books_of c.answer_reading-answer.new.self) (books_of c.keep-kept.new.self) first acts r.text bytes steps clean
              (c.keep-kept.ensures.holds clean first steps.after steps.history steps.holds) c.keep-kept.ensures.survives;
          written = writes c.write_kept-answered.result _ _ _ _ c.as_bytes.ensures c.write_kept-answered.ensures.written;
        },
        logs_sent c.keep-kept.result c.write_log_line-logged.result _ _ r.text c.in-Ok.heard.text.items r.lost _ _ bytes c.in-Ok.heard.reading r.parts c.as_slice.ensures.value
            (c.sent_bytes-sent.ensures ∙ ap (sent_of c.keep-kept.result) c.as_bytes-in-Ok.ensures) c.answer_reading-answer.ensures.memory (λ none. c.keep-kept.ensures.asked (no_memory_unlike bytes none)) r.kept
            c.write_log_line-logged.ensures,
      ),
      λ begun keeps. (
        keeps_on first acts r.text answer steps.after c.keep-kept.result (λ (l : List Act). IsHistory first l × HoldsBooks g.S.Store first l (books_of c.answer_reading-answer.new.self)) (g.K.Keeper.keeps c.keep-kept.new.keeper begun)
            (c.answer_reading-answer.ensures.in_place r.text r.read) steps.step (steps.history, steps.holds)
            (λ newer is none. c.keep-kept.ensures.kept clean first begun newer acts is.0 is.1 none keeps),
        leaves_on first acts r.text bytes steps.after c.keep-kept.result (λ (l : List Act). IsHistory first l × HoldsBooks g.S.Store first l (books_of c.answer_reading-answer.new.self)) (g.K.Keeper.leaves c.keep-kept.new.keeper begun acts)
            steps.step (steps.history, steps.holds) (λ newer is. c.keep-kept.ensures.leaves clean first begun newer acts is.0 is.1 keeps),
      ),
    )

pub returns-in-Ok-clause-as_before : goal.returns-in-Ok-clause-as_before
returns-in-Ok-clause-as_before g c clean written =
    let r = c.in-Ok.ensures.read in
    let bytes = bytes_of c.answer_reading-answer.result in
    let was = books_of c.args.self.now in
    let mid = books_of c.answer_reading-answer.new.self in
    let new = books_of c.keep-kept.new.self in
    let soon = c.keep-kept.ensures.clean clean in
    let later = c.keep-kept.ensures.as_before clean in (
      record {
        text = r.text;
        reading = c.in-Ok.heard.reading;
        bytes = bytes;
        taken = r.taken;
        read = r.read;
        answer = answers_later g.S.Store was mid new c.in-Ok.heard.reading bytes (c.answer_reading-answer.ensures.answer soon) later c.keep-kept.ensures.same;
        as_before = unanswered_later g.S.Store was mid new bytes (c.answer_reading-answer.ensures.as_before soon) later;
        steps = λ first acts history holds.
            let steps = c.answer_reading-answer.ensures.step soon first acts history holds r.text r.read in
            steps_later g.S.Store was mid new first acts r.text bytes steps clean (c.keep-kept.ensures.holds clean first steps.after steps.history steps.holds) c.keep-kept.ensures.survives;
        written = writes c.write_kept-answered.result _ _ _ _ c.as_bytes.ensures c.write_kept-answered.ensures.written;
      },
      logs_sent c.keep-kept.result c.write_log_line-logged.result _ _ r.text c.in-Ok.heard.text.items r.lost _ _ bytes c.in-Ok.heard.reading r.parts c.as_slice.ensures.value
          (c.sent_bytes-sent.ensures ∙ ap (sent_of c.keep-kept.result) c.as_bytes-in-Ok.ensures) c.answer_reading-answer.ensures.memory (λ none. c.keep-kept.ensures.asked (no_memory_unlike bytes none)) r.kept
          c.write_log_line-logged.ensures,
      c.is_ok-is_ok.ensures,
    )

pub returns-in-Ok-clause-unchanged : goal.returns-in-Ok-clause-unchanged
returns-in-Ok-clause-unchanged g c clean other =
    let answer = c.answer_reading-answer in
    unanswered_later g.S.Store (books_of c.args.self.now) (books_of answer.new.self) (books_of c.keep-kept.new.self) (bytes_of answer.result) (answer.ensures.as_before (c.keep-kept.ensures.clean clean)) (c.keep-kept.ensures.as_before clean)
    (λ is. true≢false (sym (c.is_ok-is_ok.ensures.1 is) ∙ other))

pub returns-in-Ok-clause-kept : goal.returns-in-Ok-clause-kept
returns-in-Ok-clause-kept g c clean first begun acts history holds keeps =
    let r = c.in-Ok.ensures.read in
    let answer = c.answer_reading-answer.result in
    let steps = c.answer_reading-answer.ensures.step (c.keep-kept.ensures.clean clean) first acts history holds r.text r.read in
    kept_if_told g.S.Store first (g.K.Keeper.keeps c.keep-kept.new.keeper begun) (books_of c.keep-kept.new.self) _ c.keep-kept.result steps.after steps.history
    (c.keep-kept.ensures.holds clean first steps.after steps.history steps.holds)
    (keeps_on first acts r.text answer steps.after c.keep-kept.result (λ (l : List Act). IsHistory first l × HoldsBooks g.S.Store first l (books_of c.answer_reading-answer.new.self)) (g.K.Keeper.keeps c.keep-kept.new.keeper begun)
    (c.answer_reading-answer.ensures.in_place r.text r.read) steps.step (steps.history, steps.holds)
    (λ newer is none. c.keep-kept.ensures.kept clean first begun newer acts is.0 is.1 none keeps))
    c.write_kept-answered.ensures.untold

pub returns-in-Err-clause-kept : goal.returns-in-Err-clause-kept
returns-in-Err-clause-kept g c clean first begun acts history holds keeps = inr refl
