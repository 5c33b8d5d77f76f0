use Rattle.std.proofs.Common.{slice_get, option_map, ap, ◌∙◌}
use Rattle.std.proofs.lemmas.Option.{slice_get-map}
use Rattle.yaml_block.specs.Nodes.{entry_under}
use Rattle.yaml_block.proofs.Nodes.{entries_under-is}
use Rattle.yaml_block.proofs.node.Entries.get.Goals as goal

pub returns : goal.returns
returns c =
    rw (entries_under-is c.args.self.now, slice_get-map) (ap (option_map entry_under) (c.at.ensures ∙ ap (λ xs. slice_get xs c.args.index) c.as_slice.ensures.value))
