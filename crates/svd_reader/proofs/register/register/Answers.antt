use Rattle.std.proofs.Common.{Some, map, refl, sym, ap, ◌∙◌}
use Rattle.svd_text.specs.Views.{element_of}
use Rattle.svd_reader.proofs.Made.{unplaced-register, unnamed-register, named-register}
use Rattle.svd_reader.proofs.Apart.{register-apart}
use Rattle.svd_reader.proofs.register.register.Goals as goal

pub returns-in_default : goal.returns-in_default
returns-in_default c = λ apart. unplaced-register (element_of c.args.element.now) c.in_ok-keys.keys c.in_ok-keys.ensures c.in_default.is

pub returns-in_default-name : goal.returns-in_default-name
returns-in_default-name c = λ apart. unnamed-register (element_of c.args.element.now) c.in_ok-keys.keys c.in_ok-keys.ensures c.in_default-name.is

pub returns : goal.returns
returns c = λ apart.
    let keys = c.in_ok-keys.keys in
    named-register (element_of c.args.element.now) keys c.in-Some-name.name (record { derived = keys.derived; dim = keys.dim; offset = c.from.result; alternate = keys.alternate; group = keys.group; props = keys.props; kind = keys.kind; action = keys.action; fields = c.in_ok-fields.fields }) (map element_of c.inside.result.now)
    c.in_ok-keys.ensures (c.in-Some.is ∙ ap Some (sym c.from.ensures)) c.in-Some-name.is refl refl refl refl refl refl refl c.inside.ensures
    (c.in_ok-fields.ensures (register-apart (element_of c.args.element.now) keys c.in-Some-name.name c.in-Some.offset (map element_of c.inside.result.now) c.in_ok-keys.ensures c.in-Some-name.is c.in-Some.is c.inside.ensures apart))
