use Rattle.frag_script.proofs.Grouping.{is_refused, is_ended}
use Rattle.frag_script.proofs.number.is_grouped.Goals as goal

pub returns-else-is_begun : goal.returns-else-is_begun
returns-else-is_begun c = is_refused c.loop-rest.is_begun c.loop-rest.rest.now c.args.text.now c.loop-rest.invariant c.if-is_begun.false c.in-len1-up.len_at_least c.if-first-ne95.false

pub returns : goal.returns
returns c = is_ended c.loop-rest.is_begun c.loop-rest.rest.now c.args.text.now c.loop-rest.invariant c.in_default.len_below
