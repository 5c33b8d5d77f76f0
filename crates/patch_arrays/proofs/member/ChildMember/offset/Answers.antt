use Rattle.patch_arrays.proofs.ByKind.{made-start}
use Rattle.svd_model.specs.Trees.{child_tree}
use Rattle.patch_arrays.proofs.member.ChildMember.offset.Goals as goal

pub returns : goal.returns
returns c = made-start (child_tree c.args.self.now).1 c.offset_of.result c.offset_of.ensures
