use Rattle.goodsin.proofs.Words.{◌≢◌, ◌≡◌, Err, file_read, Memory, Reader}
use Rattle.goodsin.proofs.Steps.{on_known, start}
use Rattle.goodsin.proofs.file.read_file.Goals as goal

pub returns-clause-file : goal.returns-clause-file
returns-clause-file g c =
    let fresh = c.from_reader-reader.ensures in
    on_known (g.R.Read.remaining c.args.r) _
    (λ text. c.read_records-rows.result ≢ Err Memory → c.read_records-rows.result ≢ Err Reader → c.read_records-rows.result ≡ file_read c.args.today text)
    (λ text stands memory reader. c.read_records-rows.ensures.file memory reader text stands)
    (start g.R.Read.remaining (g.R.Read.remaining c.args.r) c.from_reader-reader.result fresh.source fresh.state)
