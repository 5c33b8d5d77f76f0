-- What the next one comes to goes last, and at the end it is the whole.
use Rattle.std.proofs.Common.{map, ap}
use Rattle.dim_expand.proofs.Growing.{growing_more, growing_done}
use Rattle.svd_model.specs.Trees.{field_under}
use Rattle.dim_expand.proofs.field.unfolded_fields.Goals as goal

pub loop-key-preserved : goal.loop-key-preserved
loop-key-preserved c = λ few.
    growing_more (map field_under c.args.fields.now.entries) c.loop-key.tally.counts.entries c.push_fields.new.tally.counts.entries (map field_under c.loop-key.made.entries) (map field_under c.push_fields.new.made.entries) (map field_under c.loop-key.key-iterator) (map field_under c.next.new.self) (field_under (c.in-Some.key.now, c.in-Some.field.now))
    few (c.loop-key.invariant few) (ap (map field_under) c.in-Some.ensures.steps) c.in_ok-push_fields.ensures

pub returns : goal.returns
returns c = λ few.
    growing_done (map field_under c.args.fields.now.entries) c.loop-key.tally.counts.entries (map field_under c.loop-key.made.entries) (map field_under c.loop-key.key-iterator) (c.loop-key.invariant few) (ap (map field_under) c.in-None.ensures.steps.0)
