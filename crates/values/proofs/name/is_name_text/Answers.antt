use Rattle.std.proofs.Common.{length, sym, ◌∙◌}
use Rattle.values.proofs.Padding.{name_rule}
use Rattle.values.proofs.name.is_name_text.Goals as goal

pub returns : goal.returns
returns c = name_rule (length c.args.text.now) _ c.are_name_chars.result (sym c.is_empty.ensures ∙ c.if-is_empty.false) c.if-text-gt-NAME_MAX.false c.are_name_chars.ensures
