use Rattle.queries.proofs.Words.{Some, None, ap, ◌∙◌, if◌then◌else◌, is_name}
use Rattle.values.specs.Values.{checked}
use Rattle.queries.specs.Traced.{before_slash}
use Rattle.queries.proofs.Slashes.{note_front}
use Rattle.queries.proofs.traced.delivery_named.Goals as goal

pub returns : goal.returns
returns c d n is sound = c.new.ensures ∙ ap (checked is_name) (c.before_slash.ensures ∙ ap before_slash is ∙ note_front d n sound) ∙ (λ i. if sound i then Some d else None)
