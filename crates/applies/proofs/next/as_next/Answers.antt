use Rattle.applies.proofs.Words.{◌≡◌, ◌<◌, ◌^◌, true, false, inr, rules, sym, ◌∙◌, true≢false, is_key_of}
use Rattle.applies.proofs.NextLine.{none_kind, none_line, is_next, placed_at}
use Rattle.applies.proofs.next.as_next.Goals as goal

pub returns-then-not-is_of : goal.returns-then-not-is_of
returns-then-not-is_of c =
    let low : c.args.number < 2 ^ 64 = search rules in
    let other : is_key_of c.args.key c.args.command ≡ false = search rules in
    inr (placed_at c.args.at.now c.args.line.now c.args.number c.args.place _ c.requires.number c.requires.place c.misplaced.ensures, none_kind c.args.at.now c.args.line.now c.args.number c.args.place c.args.key c.args.command c.requires.number low c.requires.reads other)

pub returns-in-Ok-true : goal.returns-in-Ok-true
returns-in-Ok-true c =
    let low : c.args.number < 2 ^ 64 = search rules in
    let kind : is_key_of c.args.key c.args.command ≡ true = search rules in
    is_next c.args.at.now c.args.line.now c.args.number c.args.place c.args.key c.args.command c.requires.number low c.requires.reads c.day_then-day.result c.day_then-day.ensures c.requires.place
    (record { kind = kind; key = c.every_key_is_sound.ensures.sound; command = c.every_command_is_sound.ensures.sound }) (c.in-Ok-true.ensures.0 c.in-Ok-true.field-0-test)

pub returns-in-Ok-false : goal.returns-in-Ok-false
returns-in-Ok-false c =
    let low : c.args.number < 2 ^ 64 = search rules in
    inr (
      placed_at c.args.at.now c.args.line.now c.args.number c.args.place _ c.requires.number c.requires.place c.misplaced-in-Ok-false.ensures,
      none_line c.args.at.now c.args.line.now c.args.number c.args.place c.args.key c.args.command c.requires.number low c.requires.reads c.day_then-day.result c.day_then-day.ensures
          (λ same. true≢false (sym (c.in-Ok-false.ensures.1 same) ∙ c.in-Ok-false.field-0-test)),
    )
