-- What a stock card begins with.
pub use Rattle.queries.specs.Heads.{head_of_card, card_head_shown}
