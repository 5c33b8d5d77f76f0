-- What is inside the peripheral stands there.
use Rattle.std.proofs.Common.{List, ◌∷◌, [], map, sym, ap, ◌∙◌, subst}
use Rattle.svd_model.specs.declared.device.Item.{Item}
use Rattle.svd_model.specs.declared.props.Props.{Props}
use Rattle.svd_model.specs.Properties.{holding}
use Rattle.svd_model.specs.Trees.{item_under}
use Rattle.svd_rows.specs.Forest.{siblings}
use Rattle.crate_form.specs.Crates.{takes_indexes}
use Rattle.crate_form.specs.Elements.{HaveArrays}
use Rattle.crate_form.proofs.Standing.{props-peripheral, stand-each, stand-peripheral}
use Rattle.crate_form.proofs.Versions.{indexes-peripheral}
use Rattle.crate_form.proofs.krate.peripheral_has_arrays.Goals as goal

pub returns : goal.returns
returns c =
    let p = c.args.peripheral.now in
    let key = c.args.key.now in
    let outer = c.args.outer.now in
    let inner = holding (p.props ∷ outer ∷ []) in
    let has = subst (λ (items : List Item). HaveArrays items c.any_has_arrays.result) c.as_slice.ensures.value c.any_has_arrays.ensures in
    has inner (stand-each inner p.children.items (stand-peripheral outer key p c.requires))
    ∙ (ap (λ (props : Props). takes_indexes props (siblings (map item_under p.children.items))) (sym (props-peripheral outer key p))
    ∙ sym (indexes-peripheral outer key p))
