use Rattle.texts.proofs.Words.{◌≡◌, map, Some, ap, sym, ◌∙◌, same_Some, key_read, own_key}
use Rattle.texts.proofs.Again.{key_text_again, own_again}
use Rattle.texts.proofs.key.parse_key.Goals as goal

pub returns-in-Some-clause-every : goal.returns-in-Some-clause-every
returns-in-Some-clause-every c = λ key sound is.
    let read : c.key-found.result ≡ Some key =
    c.key-found.ensures ∙ ap (λ ps. key_read (map (λ p. p.now) ps)) c.deref.ensures.value ∙ ap key_read c.in_ok-parts.ensures ∙ key_text_again c.args.text.now key sound is in
    let same = same_Some c.in-Some.key key (sym c.in-Some.is ∙ read) in
    c.own.ensures ∙ ap (own_key c.args.text.now) same ∙ own_again c.args.text.now key is

pub returns-in-None-clause-every : goal.returns-in-None-clause-every
returns-in-None-clause-every c = λ key sound is.
    sym c.in-None.is ∙ c.key-found.ensures ∙ ap (λ ps. key_read (map (λ p. p.now) ps)) c.deref.ensures.value ∙ ap key_read c.in_ok-parts.ensures
    ∙ key_text_again c.args.text.now key sound is
