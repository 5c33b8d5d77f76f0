use Rattle.frag_rules.proofs.Gathering.{tops-begin}
use Rattle.frag_rules.proofs.parts.laid_out.Goals as goal

pub loop-first-init : goal.loop-first-init
loop-first-init c =
    rw (c.new.ensures.items, c.new-2.ensures.items) (tops-begin c.args.krate.now c.as_slice-rest.result.now c.as_slice-rest.ensures.value)
