use Rattle.std.proofs.Common.{sym, ap, ◌∙◌, option_map}
use Rattle.std.specs.Borrow.{Bor}
use Rattle.frag_sem.specs.TextSurface.{register_calls}
use Rattle.frag_tree.specs.declared.register.RegisterModule.{RegisterModule}
use Rattle.frag_types.proofs.SameNames.{bound-names}
use Rattle.frag_types.proofs.names.bound_to.Goals as goal

pub returns : goal.returns
returns c = ap (option_map (λ (unit : Bor RegisterModule). register_calls unit.now)) (c.copied.ensures ∙ c.get.ensures) ∙ sym (bound-names c.args.bound.now c.args.name.now)
