use Rattle.std.specs.Prelude.{codes}
use Rattle.std.proofs.lemmas.Result.{on_ok_weaker}
use Rattle.label.specs.Days.{day_text}
use Rattle.command_line.proofs.Printing.{seven_written}
use Rattle.command_line.proofs.label_line.write_label.Goals as goal

pub returns : goal.returns
returns g c =
    let at = g.W.Write.contents in
    let label = c.args.label.now in
    on_ok_weaker c.write_all-7.result
    (seven_written (at c.args.out.now) (at c.write_all.new.self) (at c.write_all-2.new.self) (at c.write_all-3.new.self) (at c.write_all-4.new.self) (at c.write_all-5.new.self) (at c.write_all-6.new.self) (at c.write_all-7.new.self)
    (codes "GTIN ") c.as_bytes.result.now (codes "\nLOT ") c.as_bytes-2.result.now (codes "\nEXPIRY ") c.text.result (codes "\n") label.gtin label.lot (day_text label.expiry) c.as_bytes.ensures.text c.as_bytes-2.ensures.text c.text.ensures
    c.in_ok-write_all.ensures.bytes c.in_ok-write_all-2.ensures.bytes c.in_ok-write_all-3.ensures.bytes c.in_ok-write_all-4.ensures.bytes c.in_ok-write_all-5.ensures.bytes c.in_ok-write_all-6.ensures.bytes)
    c.write_all-7.ensures.bytes
