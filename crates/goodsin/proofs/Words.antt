-- What the proofs of this crate say of what it stands on: each word from where it is defined.
pub use Rattle.std.proofs.Common.{◌≡◌, ◌∙◌, ◌+◌, ◌-◌, ◌≤◌, ◌∷◌, ◌++◌, [], ℕ, zero, suc, ℤ, List, Option, Some, None, Bool, true, false, if◌then◌else◌, length, sym, ap, refl, arith, append_assoc, Result, Ok, Err, ◌≢◌, ◌<◌, option_and_then, option_map, IfSome, rules, All, length-append}
pub use Rattle.csv.specs.Reading.{expected_len}
pub use Rattle.csv.specs.Records.{fields_of}
pub use Rattle.csv.specs.declared.parser.State.{State}
pub use Rattle.commands.specs.declared.command.Command.{Command}
pub use Rattle.commands.specs.declared.key.Key.{Key}
pub use Rattle.commands.specs.declared.key.Key.TheVariants.{Line}
pub use Rattle.goodsin.specs.Files.{before, file_read, file_records, row_read, rows_read}
pub use Rattle.goodsin.specs.Reading.{AreAll, Begins, HasOther, Stands, fault_of, IsReading}
pub use Rattle.goodsin.specs.Rows.{Fields, is_header, IsReceipt, command_of, line_at, name_at, receipt_of, received, number_of}
pub use Rattle.goodsin.specs.declared.fault.FileFault.TheVariants.{Header, Row, TooManyRows, Length, Memory, Reader}
