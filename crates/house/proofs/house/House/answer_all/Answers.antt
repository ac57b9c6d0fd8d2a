use Rattle.house.proofs.Words.{◌≡◌, ◌≢◌, ◌+◌, take, true, sym, ap, subst, subst₂, ◌∙◌, rules, arith, [], All, codes, map, is_ok, common_steps, state, as_before_itself, status_of, books_of, bytes_of, texts_of, StepsTo, RunsTo}
use Rattle.house.proofs.Unanswered.{run_unanswered}
use Rattle.house.proofs.Running.{run_none, run_on, texts_more, answers_more}
use Rattle.house.proofs.house.House.answer_all.Goals as goal

pub loop-request-preserved : goal.loop-request-preserved
loop-request-preserved g c =
    let was = c.loop-request.invariant in
    let pushed : is_ok c.push.result ≡ true = search rules in
    let more = rw pushed at c.push.ensures.items in
    let len = rw pushed at c.push.ensures.len in
    record {
      room = omega arith;
      full = len ∙ ap (λ n. n + 1) was.full;
      clean = λ clean. was.clean (c.answer-answer.ensures.clean clean);
      run = λ clean first acts history holds.
          let grown = run_on g.S.Store first acts (texts_of (take c.loop-request.request-index c.args.requests.now)) (map bytes_of c.loop-request.answers.items)
          (books_of c.args.self.now) (books_of c.loop-request.self) (books_of c.answer-answer.new.self) c.request-item.result.items (bytes_of c.answer-answer.result)
          (was.run (c.answer-answer.ensures.clean clean) first acts history holds)
          (λ a h b. subst (λ t. StepsTo g.S.Store first a t (bytes_of c.answer-answer.result) (books_of c.loop-request.self) (books_of c.answer-answer.new.self)) c.as_slice.ensures.value
          (c.answer-answer.ensures.step clean first a h b)) in
          subst₂ (λ texts answers. RunsTo g.S.Store first acts texts answers (books_of c.args.self.now) (books_of c.answer-answer.new.self))
          (sym (texts_more c.args.requests.now c.loop-request.request-index c.request-item.result c.loop-request-test.true c.request-item.is))
          (sym (answers_more c.loop-request.answers.items c.push.new.self.items c.answer-answer.result more)) grown;
      as_before = λ clean all.
          run_unanswered (state g.S.Store (books_of c.args.self.now).conn) (state g.S.Store (books_of c.loop-request.self).conn) (state g.S.Store (books_of c.answer-answer.new.self).conn) c.loop-request.answers.items c.answer-answer.result
          (was.as_before (c.answer-answer.ensures.clean clean)) (c.answer-answer.ensures.as_before clean) (subst (All (λ answer. status_of (bytes_of answer) ≢ codes "HTTP/1.1 200")) more all);
    }

pub loop-request-init : goal.loop-request-init
loop-request-init g c = record {
  room = c.in_ok-answers.ensures.capacity;
  full = c.in_ok-answers.ensures.len;
  clean = λ clean. clean;
  run = λ clean first acts history holds.
      subst (λ answers. RunsTo g.S.Store first acts [] (map bytes_of answers) (books_of c.args.self.now) (books_of c.args.self.now)) (sym c.in_ok-answers.ensures.items) (run_none g.S.Store first acts (books_of c.args.self.now) history holds);
  as_before = λ clean all. as_before_itself (state g.S.Store (books_of c.args.self.now).conn);
}

pub unwrap-requires : goal.unwrap-requires
unwrap-requires g c = search rules

pub returns-clause-clean : goal.returns-clause-clean
returns-clause-clean g c = c.loop-request.invariant.clean

pub returns-clause-run : goal.returns-clause-run
returns-clause-run g c clean first acts history holds =
    let all : take c.loop-request.request-index c.args.requests.now ≡ c.args.requests.now = grind (arith, common_steps) in
    subst (λ l. RunsTo g.S.Store first acts (texts_of l) (map bytes_of c.loop-request.answers.items) (books_of c.args.self.now) (books_of c.loop-request.self)) all (c.loop-request.invariant.run clean first acts history holds)

pub returns-clause-as_before : goal.returns-clause-as_before
returns-clause-as_before g c = c.loop-request.invariant.as_before
