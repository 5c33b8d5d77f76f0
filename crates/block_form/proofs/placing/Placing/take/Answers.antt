use Rattle.std.proofs.Common.{◌∙◌, sym}
use Rattle.block_form.proofs.Extents.{field_ends}
use Rattle.block_form.proofs.Taking.{becomes}
use Rattle.block_form.proofs.placing.Placing.take.Goals as goal

pub put-requires-clause-within : goal.put-requires-clause-within
put-requires-clause-within c =
    field_ends c.args.child.now c.requires.sound (becomes c.args.self.now.end c.args.child.now (sym c.becomes_field.ensures ∙ c.if-becomes_field.true)).steps
