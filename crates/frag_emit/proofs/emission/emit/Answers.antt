use Rattle.std.specs.Prelude.{◌≡◌}
use Rattle.std.proofs.lemmas.Result.{IfOk-weaker}
use Rattle.crate_form.specs.Crates.{emitted}
use Rattle.crate_form.specs.Forms.{HasForm}
use Rattle.frag_tree.specs.Trees.{crate_tree}
use Rattle.frag_emit.specs.Standing.{StandsFor}
use Rattle.frag_emit.proofs.Standing.{built_form, built_stands}
use Rattle.frag_emit.proofs.emission.emit.Goals as goal

pub returns-clause-form : goal.returns-clause-form
returns-clause-form c =
    IfOk-weaker c.crate_form.result (λ krate. crate_tree krate ≡ emitted c.args.state.now) (λ krate. HasForm c.args.state.now (crate_tree krate))
    (λ krate. built_form c.args.state.now (crate_tree krate)) c.crate_form.ensures.form

pub returns-clause-stands : goal.returns-clause-stands
returns-clause-stands c =
    IfOk-weaker c.crate_form.result (λ krate. crate_tree krate ≡ emitted c.args.state.now) (λ krate. StandsFor c.args.state.now (crate_tree krate))
    (λ krate. built_stands c.device-device.result.now c.args.state.now (crate_tree krate) c.device-device.ensures.fact c.device-device.ensures.rows) c.crate_form.ensures.form
