use Rattle.std.proofs.Common.{sym, ◌∙◌}
use Rattle.std.specs.Borrow.{Bor}
use Rattle.frag_tree.specs.declared.register.RegisterModule.{RegisterModule}
use Rattle.frag_types.proofs.SameNames.{any-bound}
use Rattle.frag_types.proofs.Steps.{is-there}
use Rattle.frag_types.proofs.statement.is_bound.Goals as goal

pub returns : goal.returns
returns c = c.is_some.ensures ∙ (is-there (λ (unit : Bor (Bor RegisterModule)). unit.now) c.get.result _ c.get.ensures ∙ sym (any-bound c.args.bound.now c.args.name.now))
