-- What is inside the peripheral stands there.
use Rattle.std.proofs.Common.{sym, subst}
use Rattle.svd_model.specs.declared.props.Props.{Props}
use Rattle.crate_form.specs.Elements.{AllStand}
use Rattle.crate_form.proofs.Standing.{stand-each, stand-peripheral}
use Rattle.crate_form.proofs.krate.props_inside.Goals as goal

pub returns-clause-stand : goal.returns-clause-stand
returns-clause-stand c =
    let all = stand-each _ c.args.peripheral.now.children.items (stand-peripheral c.args.outer.now c.args.key.now c.args.peripheral.now c.requires.stands) in
    subst (AllStand c.within.result) (sym c.requires.children) (subst (λ (p : Props). AllStand p c.args.peripheral.now.children.items) (sym c.within.ensures) all)
