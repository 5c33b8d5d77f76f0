use Rattle.std.proofs.Common.{◌∙◌, sym, ap, bytes_eq}
use Rattle.std.specs.List.{list_any}
use Rattle.block_form.proofs.Advancing.{any-names}
use Rattle.block_form.proofs.placing.Placing.has.Goals as goal

pub returns : goal.returns
returns c =
    let keys = c.args.self.now.names.keys in
    c.contains.ensures
    ∙ (ap (λ name. list_any (λ key. bytes_eq name key.now) keys) c.bytes-name.ensures.same
    ∙ sym (any-names c.args.child.now.name keys))
