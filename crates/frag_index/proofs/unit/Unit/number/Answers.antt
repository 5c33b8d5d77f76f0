use Rattle.std.proofs.Common.{ap, find, ◌∙◌}
use Rattle.std.specs.Str.{bytes_eq}
use Rattle.frag_sem.specs.ProxyTypes.{numbers_on}
use Rattle.frag_tree.specs.declared.register.RegisterModule.{RegisterModule}
use Rattle.frag_tree.specs.declared.register.NumberCall.{NumberCall}
use Rattle.frag_index.specs.Calls.{found_call}
use Rattle.frag_index.proofs.unit.Unit.number.Goals as goal

pub returns : goal.returns
returns c = λ type same.
    c.call_on.ensures
    ∙ (ap (λ key. found_call c.self.inside.numbers (key, c.args.name.now)) same
    ∙ (c.self.invariant.numbers_are type c.args.name.now ∙ ap (λ (unit : RegisterModule). find (λ (call : NumberCall). bytes_eq c.args.name.now call.name) (numbers_on type unit.values)) c.self.view_is))
