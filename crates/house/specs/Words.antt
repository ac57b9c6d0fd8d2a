-- What the definitions of this crate say of what it stands on: each word from where it is defined.
pub use Rattle.sqlite_trees.specs.Tree.{Trees}
pub use Rattle.sqlite_trees.specs.declared.store.Store.{Ghosts}
pub use Rattle.values.specs.declared.lot.LotId.{LotId}
pub use Rattle.label.specs.Labels.{label_read}
pub use Rattle.commands.specs.Refusals.{refusal_code}
pub use Rattle.commands.specs.declared.command.Command.{Command}
pub use Rattle.commands.specs.declared.key.Key.{Key}
pub use Rattle.commands.specs.declared.refusal.Refusal.{Refusal}
pub use Rattle.texts.specs.Writing.{AppendsBeginning}
pub use Rattle.machine.specs.Acts.{Act}
pub use Rattle.machine.specs.Once.{Outcome, Accepted, Repeated, Refused, outcome, acts_after, is_key_of, FileOutcome, Taken, RefusedRow, file_outcome, acts_after_file, IsHistory}
pub use Rattle.machine.specs.Standing.{today}
pub use Rattle.store.specs.Books.{AreBooks, HoldsBooks, MayLeave, AreAsBefore}
pub use Rattle.store.specs.Connected.{Connected}
pub use Rattle.store.specs.declared.fault.Fault.{Fault}
pub use Rattle.store.specs.declared.fault.Fault.TheVariants.{Store, Foreign}
pub use Rattle.requests.specs.Requests.{IsReading}
pub use Rattle.requests.specs.declared.ask.Ask.{Ask}
pub use Rattle.requests.specs.declared.ask.Ask.TheVariants.{Do, Scan, GoodsIn, Show}
pub use Rattle.requests.specs.declared.ask.Query.{Query}
pub use Rattle.requests.specs.declared.request.Read.{Read}
pub use Rattle.requests.specs.declared.request.Read.TheVariants.{Need, Bad, Request}
pub use Rattle.wire.specs.Answers.{answer_bytes}
pub use Rattle.wire.specs.Shorts.{code_text}
pub use Rattle.wire.specs.declared.answer.Answer.{Answer}
pub use Rattle.wire.specs.declared.answer.Answer.TheVariants.{Books as BooksAnswer, OpenOrders as OpenOrdersAnswer, ItemNames as ItemNamesAnswer, Expiring as ExpiringAnswer, Bin as BinAnswer, Order as OrderAnswer, Stock as StockAnswer, Text, Picks as PicksAnswer, Figures as FiguresAnswer}
