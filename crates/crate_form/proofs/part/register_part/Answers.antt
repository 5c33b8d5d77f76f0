-- The child and the module of a register.
use Rattle.std.proofs.Common.{◌∙◌, refl, sym, ap, subst}
use Rattle.std.specs.List.{AllByRecursion}
use Rattle.frag_tree.specs.declared.krate.Version.TheVariants.{Two}
use Rattle.frag_tree.specs.Trees.{one_register}
use Rattle.frag_tree.proofs.Trees.{module_tree-register}
use Rattle.register_form.specs.declared.register.Register.{Register}
use Rattle.register_form.specs.Fields.{HasBits}
use Rattle.register_form.specs.Forms.{form_of}
use Rattle.svd_model.specs.Trees.{register_under}
use Rattle.crate_form.specs.Parts.{valid_unit}
use Rattle.crate_form.proofs.Elements.{bytes-register, child-made}
use Rattle.crate_form.proofs.Named.{register_bits}
use Rattle.crate_form.proofs.Standing.{offset-register, stands_as}
use Rattle.crate_form.proofs.part.register_part.Goals as goal

pub child-requires-clause-named : goal.child-requires-clause-named
child-requires-clause-named c = (stands_as c.args.outer.now (register_under c.args.key.now c.args.register.now) c.requires).accessor.identifier

pub child-requires-clause-offset : goal.child-requires-clause-offset
child-requires-clause-offset c = offset-register c.args.outer.now c.args.key.now c.args.register.now c.requires

pub register_form-requires : goal.register_form-requires
register_form-requires c = record { bits = subst (λ (made : Register). AllByRecursion HasBits made.fields) (sym c.in_ok-made.ensures) (register_bits c.args.outer.now c.args.key.now c.args.register.now c.requires) }

pub returns : goal.returns
returns c =
    let outer = c.args.outer.now in
    let key = c.args.key.now in
    let r = c.args.register.now in
    let made = c.in_ok-made.ensures in
    let unit = c.in_ok-register_form.field-0 in
    record {
      child = child-made outer key r c.in_ok-child.child _ c.bytes-bytes.result c.in_ok-child.ensures c.from-size.ensures (bytes-register outer key r c.in_ok-made.made c.bytes-bytes.result made c.bytes-bytes.ensures);
      unit = module_tree-register unit ∙ ap one_register (c.in_ok-register_form.ensures.form ∙ ap form_of made);
      valid = ap valid_unit (module_tree-register unit) ∙ c.in_ok-register_form.ensures.valid Two (λ is. refl);
    }
