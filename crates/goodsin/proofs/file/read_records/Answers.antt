use Rattle.goodsin.proofs.file.read_records.Goals as goal

pub returns-clause-file : goal.returns-clause-file
returns-clause-file g c = λ memory reader text stands.
    let (h, now, header) = c.in_ok-read_header.ensures.header text stands in
    c.read_rows.ensures.file memory reader text h now header
