-- What the definitions of this crate say of what it stands on: each word from where it is defined.
pub use Rattle.sqlite_trees.specs.Tree.{Trees}
pub use Rattle.sqlite_trees.specs.declared.store.Store.{Ghosts}
pub use Rattle.commands.specs.Spelling.{key_text, spelling}
pub use Rattle.commands.specs.declared.refusal.Refusal.{Refusal}
pub use Rattle.machine.specs.Acts.{Act, next_number}
pub use Rattle.machine.specs.Once.{IsHistory, IsSoundRequest, outcome}
pub use Rattle.machine.specs.Standing.{today, day_after_command}
pub use Rattle.store.specs.Books.{AreBooks, HoldsBooks, LeavesOnly}
pub use Rattle.store.specs.Connected.{Connected}
pub use Rattle.histories.specs.Newer.{act_line, newer_text}
pub use Rattle.histories.specs.Reading.{IsPart, IsNumbered, IsPiece, IsLine}
pub use Rattle.histories.specs.Text.{history_line, history_text}
pub use Rattle.replays.specs.Replaying.{cause, IsOpen}
