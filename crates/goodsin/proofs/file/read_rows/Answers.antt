use Rattle.goodsin.proofs.Words.{◌≡◌, ◌≢◌, ◌≤◌, ◌+◌, ◌++◌, ◌∷◌, [], true, All, Err, length, length-append, ap, sym, rules, arith, IsReceipt, Memory, Reader}
use Rattle.std.proofs.lemmas.List.Elements.{All-push, All-same}
use Rattle.goodsin.proofs.FileFacts.{file-end, file-fault, row-more}
use Rattle.goodsin.proofs.file.read_rows.Goals as goal

pub returns-in-Ok-None-clause-file : goal.returns-in-Ok-None-clause-file
returns-in-Ok-None-clause-file g c = λ memory reader text h stands header.
    let (fs, now, read, size) = c.rows.invariant.stands text h stands in
    let all = c.in-Ok-None.ensures.end c.in-Ok-None.field-0-is text (h ∷ fs) now in
    rw c.from_vec.ensures (sym (file-end c.args.today text h fs c.rows.rows.items all header read))

pub returns-in-Err-clause-file : goal.returns-in-Err-clause-file
returns-in-Err-clause-file g c = λ memory reader text h stands header.
    let (fs, now, read, size) = c.rows.invariant.stands text h stands in
    let not_memory : c.in-Err.fault ≢ Memory = λ e. memory (ap Err e) in
    let not_reader : c.in-Err.fault ≢ Reader = λ e. reader (ap Err e) in
    let counted : length c.rows.rows.items + 1 ≡ c.rows.row = c.rows.invariant.counted in
    let at : c.rows.row ≡ 1 + length fs = omega arith in
    let (f, begins, faulty) = c.in-Err.ensures.fault not_memory not_reader text (h ∷ fs) now in
    sym (file-fault c.args.today text h fs f c.rows.rows.items c.rows.row c.in-Err.fault begins header read at faulty)

pub rows-preserved : goal.rows-preserved
rows-preserved g c =
    let good : c.keep.result ≡ true = search rules in
    let items : c.keep.new.rows.items ≡ c.rows.rows.items ++ c.in-Ok-Some.receipt ∷ [] = search (rules, c.keep.ensures) in
    let on = rw c.in-Ok-Some.field-0-is at c.in-Ok-Some.ensures.on in
    let kind : IsReceipt c.in-Ok-Some.receipt = rw c.in-Ok-Some.field-0-is at c.in-Ok-Some.ensures.kind in
    let limit : c.rows.row ≤ 1000 = rw c.in-Ok-Some.field-0-is at c.in-Ok-Some.ensures.limit in
    let next = rw c.in-Ok-Some.field-0-is at c.in-Ok-Some.ensures.row in
    let counted : length c.rows.rows.items + 1 ≡ c.rows.row = c.rows.invariant.counted in
    let longer : length c.keep.new.rows.items ≡ length c.rows.rows.items + 1 = rw items (length-append c.rows.rows.items (c.in-Ok-Some.receipt ∷ [])) in
    let receipts : All IsReceipt c.rows.rows.items = c.rows.invariant.receipts in
    record {
      reading = on.0;
      seven = on.1;
      stands = λ text h stands.
          (let (fs, now, read, size) = c.rows.invariant.stands text h stands in
          let at : c.rows.row ≡ 1 + length fs = omega arith in
          let (f, more, sound) = next text (h ∷ fs) now in (
            fs ++ f ∷ [],
            more,
            rw items (row-more c.args.today c.rows.row fs f c.rows.rows.items c.in-Ok-Some.receipt read at sound),
            omega (arith, length-append fs (f ∷ []), size, longer),
          ));
      counted = omega arith;
      few = omega arith;
      receipts = All-same IsReceipt _ _ items (All-push IsReceipt c.rows.rows.items c.in-Ok-Some.receipt receipts kind);
    }
