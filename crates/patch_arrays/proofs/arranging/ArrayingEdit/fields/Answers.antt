-- The fields as the children of a register.
use Rattle.std.proofs.Common.{map}
use Rattle.patch_arrays.proofs.Edits.{edited-in}
use Rattle.patch_arrays.specs.Arranging.{arrayed_below}
use Rattle.svd_model.specs.Trees.{field_under}
use Rattle.patch_arrays.proofs.arranging.ArrayingEdit.fields.Goals as goal

pub returns-clause-edited : goal.returns-clause-edited
unfolding arrayed_below
returns-clause-edited c =
    edited-in c.args.self.now.line c.args.self.now.pattern.now c.args.self.now.name.now (map field_under c.args.fields.now.entries) (map field_under c.arrange_map.new.entries.entries) c.arrange_map.result c.arrange_map.ensures.edited
