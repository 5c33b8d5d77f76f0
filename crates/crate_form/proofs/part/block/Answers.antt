-- The block has the tree of its parts, and these are valid.
use Rattle.std.proofs.Common.{◌∙◌, ◌&&◌, ap}
use Rattle.std.specs.List.{list_all}
use Rattle.std.proofs.lemmas.Bool.{and_from}
use Rattle.frag_tree.specs.declared.block.Block.{Block}
use Rattle.frag_tree.specs.declared.block.Module.{Module}
use Rattle.frag_tree.specs.declared.block.Module.TheOpen.{Block-F}
use Rattle.frag_tree.specs.declared.krate.Version.TheVariants.{Two}
use Rattle.frag_tree.specs.Trees.{in_line}
use Rattle.frag_tree.specs.Validity.{valid_access, valid_block, valid_field, valid_head, valid_modules}
use Rattle.frag_tree.proofs.Trees.{block_tree-roll}
use Rattle.rust_names.specs.Identifiers.{is_identifier}
use Rattle.crate_form.specs.Parts.{units_of}
use Rattle.crate_form.proofs.Units.{valid_line}
use Rattle.crate_form.proofs.part.block.Goals as goal

pub returns : goal.returns
returns c =
    let form = c.args.form in
    let name = c.in_ok-accessor_of.field-0 in
    let parts : Block-F Module Block = record { name = name; fields = form.fields; accessors = form.accessors; modules = c.args.units } in
    let inside = in_line (units_of c.args.units.items) in
    let valid = and_from (is_identifier name) (list_all valid_field form.fields && list_all valid_access form.accessors) c.in_ok-accessor_of.ensures.form (and_from (list_all valid_field form.fields) (list_all valid_access form.accessors) c.requires.form.0 c.requires.form.1) in
    record {
      tree = block_tree-roll parts ∙ λ i. record { head = record { name = c.in_ok-accessor_of.ensures.is i; fields = form.fields; accessors = form.accessors }; inside = inside };
      valid = ap (valid_block Two) (block_tree-roll parts) ∙ and_from (valid_head (record { name = name; fields = form.fields; accessors = form.accessors })) (valid_modules Two inside) valid (valid_line (units_of c.args.units.items) c.requires.units);
    }
