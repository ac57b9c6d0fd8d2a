-- Which keys are of a command's kind.
use Rattle.std.specs.Prelude.{Bool, true, false}
use Rattle.commands.specs.declared.key.Key.{Key}
use Rattle.commands.specs.declared.key.Key.TheVariants.{Plain, Line}
use Rattle.commands.specs.declared.command.Command.{Command}
use Rattle.commands.specs.declared.command.Command.TheVariants.{Receive}

-- a Receive bears a delivery and a line, and every other command a plain key
abbrev pub is_key_of : Key → Command → Bool
is_key_of (Line d n) (Receive r) = true
is_key_of (Line d n) _ = false
is_key_of (Plain k) (Receive r) = false
is_key_of (Plain k) _ = true
