use Rattle.books_schema.proofs.Words.{List, sym, ap, subst, ◌∙◌, list_all, Schema, Table, is_harmless, BeginsWithTables}
use Rattle.books_schema.proofs.checking.has_tables.Goals as goal

pub returns : goal.returns
returns c = (
  λ yes.
      let begins : BeginsWithTables c.args.found.now.tables = subst BeginsWithTables c.as_slice.ensures (c.in_ok-begin_with_tables.ensures.0 c.if-not-branch.false) in record {
        rest = record c.args.found.now { tables = begins.others };
        is = ap (λ (tables : List Table). let s : Schema = record c.args.found.now { tables = tables } in s) begins.is;
        apart = begins.apart;
        harmless = sym (ap (list_all is_harmless) c.as_slice-2.ensures) ∙ sym c.are_harmless.ensures ∙ yes;
      },
  λ has. c.are_harmless.ensures ∙ ap (list_all is_harmless) c.as_slice-2.ensures ∙ ap (λ (s : Schema). list_all is_harmless s.indexes) has.is ∙ has.harmless,
)
