use Rattle.values.proofs.Packing.{is_packed, text_back}
use Rattle.values.proofs.text_key.turned.Goals as goal

pub invariant_of-result : goal.invariant_of-result
invariant_of-result c =
    is_packed c.args.text.now c.at_the_end-bytes.result c.requires c.at_the_end-bytes.ensures (λ k. (c.type_inv.text k).fits) c.from_be_bytes-first.result c.from_be_bytes-second.result c.from_be_bytes-last.result
    c.from_be_bytes-first.ensures c.from_be_bytes-second.ensures c.from_be_bytes-last.ensures

pub returns : goal.returns
returns c =
    text_back c.args.text.now c.at_the_end-bytes.result c.requires c.at_the_end-bytes.ensures (λ k. (c.type_inv.text k).fits) c.from_be_bytes-first.result c.from_be_bytes-second.result c.from_be_bytes-last.result
    c.from_be_bytes-first.ensures c.from_be_bytes-second.ensures c.from_be_bytes-last.ensures
