use Rattle.std.proofs.Common.{refl}
use Rattle.indexmap.proofs.MapLemmas.{OnOk-map}
use Rattle.derive_build.proofs.Listed.{grown}
use Rattle.derive_build.specs.Nodes.{register_under}
use Rattle.derive_build.proofs.listing.add_register.Goals as goal

pub returns : goal.returns
returns c =
    OnOk-map c.add_fields.result _ _
    (λ below. grown c.args.owns.now.items c.push.new.owns.items c.add_fields.new.owns.items _ (register_under c.args.key.now c.args.register.now).0 (register_under c.args.key.now c.args.register.now).1
    c.in_ok-push.ensures refl
    (below))
    c.add_fields.ensures
