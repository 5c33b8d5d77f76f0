use Rattle.std.proofs.Common.{refl}
use Rattle.frag_eval.proofs.Growing.{if_ok_map, let_grows}
use Rattle.frag_eval.proofs.lower.lower_let.Goals as goal

pub returns : goal.returns
returns c =
    if_ok_map c.set.result
    (λ done law. let_grows c.args.lowering.now c.push_read.new.lowering (record { deeds = c.push_read.new.lowering.deeds; bound = c.set.new.self; reads = c.push_read.new.lowering.reads }) c.args.found c.bytes.result.now c.args.name.now c.args.line c.in_ok-reading.reading
    c.requires c.bytes.ensures.same c.in_ok-reading.ensures refl refl law)
    c.set.ensures
