use Rattle.books_schema.proofs.checking.are_tables.Goals as goal

pub returns : goal.returns
returns c = c.tables_match.ensures
