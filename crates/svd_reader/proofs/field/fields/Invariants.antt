use Rattle.std.proofs.Common.{◌≡◌, ◌++◌, map, flat_map}
use Rattle.svd_keys.proofs.Loops.{left}
use Rattle.svd_text.specs.Views.{element_of}
use Rattle.svd_model.specs.Steps.{same_key}
use Rattle.svd_model.specs.Trees.{field_under}
use Rattle.svd_rows.specs.Elements.{IsDistinct}
use Rattle.svd_rows.specs.Forest.{siblings}
use Rattle.svd_reader.specs.DescribedTree.{field_at}
use Rattle.svd_reader.proofs.field.fields.Given as goal

abbrev pub invariant-loop-child : goal.invariant-loop-child
invariant-loop-child l =
    IsDistinct same_key (siblings (flat_map field_at (map element_of l.children)))
    → map field_under l.made.entries ++ flat_map field_at (left l.children l.child-index) ≡ flat_map field_at (map element_of l.children)
