-- The child and the module of a cluster.
use Rattle.std.proofs.Common.{◌∙◌, ◌∷◌, [], map, sym, ap, subst}
use Rattle.std.specs.List.{AllByRecursion}
use Rattle.block_form.specs.Children.{IsSound}
use Rattle.block_form.specs.Forms.{form_of}
use Rattle.frag_tree.specs.Trees.{in_line, one_block}
use Rattle.frag_tree.proofs.Trees.{module_tree-block}
use Rattle.svd_model.specs.declared.device.Cluster.{out-Cluster}
use Rattle.svd_model.specs.Properties.{holding}
use Rattle.svd_model.specs.Trees.{item_under, cluster_under}
use Rattle.svd_rows.specs.Forest.{siblings}
use Rattle.svd_values.specs.AccessorNames.{accessor_name}
use Rattle.crate_form.specs.Children.{children_of}
use Rattle.crate_form.specs.Modules.{modules_of}
use Rattle.crate_form.specs.Parts.{units_of, valid_unit}
use Rattle.crate_form.proofs.Elements.{block-made, child-built, unit-cluster}
use Rattle.crate_form.proofs.Sound.{children_sound}
use Rattle.crate_form.proofs.Standing.{offset-cluster, stand-cluster, stands_as}
use Rattle.crate_form.proofs.part.cluster_part.Goals as goal

pub block_form-requires : goal.block_form-requires
block_form-requires c = record { sound = subst (AllByRecursion IsSound) (sym (c.as_slice.ensures ∙ c.requires.inside.children)) (children_sound _ _ (stand-cluster c.args.outer.now c.args.key.now c.args.cluster.now c.requires.stands)) }

pub child-requires-clause-named : goal.child-requires-clause-named
child-requires-clause-named c = (stands_as c.args.outer.now (cluster_under c.args.key.now c.args.cluster.now) c.requires.stands).accessor.identifier

pub child-requires-clause-offset : goal.child-requires-clause-offset
child-requires-clause-offset c = offset-cluster c.args.outer.now c.args.key.now c.args.cluster.now c.requires.stands

pub block-requires-clause-named : goal.block-requires-clause-named
block-requires-clause-named c = (stands_as c.args.outer.now (cluster_under c.args.key.now c.args.cluster.now) c.requires.stands).accessor.identifier

pub returns : goal.returns
returns c =
    let outer = c.args.outer.now in
    let key = c.args.key.now in
    let cluster = c.args.cluster.now in
    let inner = holding ((out-Cluster cluster).props ∷ outer ∷ []) in
    let below = siblings (map item_under (out-Cluster cluster).children.items) in
    let form = c.in_ok-form.form in
    let formed = c.in_ok-form.ensures.form ∙ ap form_of (c.as_slice.ensures ∙ c.requires.inside.children) in
    let block = c.in_ok-block.block in
    record {
      child = child-built outer key cluster c.in_ok-child.child form c.in_ok-child.ensures formed;
      unit =
          module_tree-block block
          ∙ (ap one_block (c.in_ok-block.ensures.tree ∙ block-made (accessor_name key.name) form (in_line (units_of c.args.inside.units.items)) (modules_of inner below) (children_of inner below) formed c.requires.inside.units)
          ∙ sym (unit-cluster outer key cluster));
      valid = ap valid_unit (module_tree-block block) ∙ c.in_ok-block.ensures.valid;
    }
