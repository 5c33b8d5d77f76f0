use Rattle.std.proofs.Common.{ap, find, option_map, ◌∙◌}
use Rattle.std.specs.Borrow.{Bor}
use Rattle.std.specs.Str.{bytes_eq}
use Rattle.frag_sem.specs.ProxyTypes.{writers_of}
use Rattle.frag_tree.specs.declared.register.RegisterModule.{RegisterModule}
use Rattle.frag_tree.specs.declared.register.Writer.{Writer}
use Rattle.frag_index.proofs.unit.Unit.writer.Goals as goal

pub returns : goal.returns
returns c =
    ap (option_map (λ (writer : Bor Writer). writer.now)) (c.copied.ensures ∙ c.get.ensures)
    ∙ (c.self.invariant.writers_are c.args.name.now ∙ ap (λ (unit : RegisterModule). find (λ (writer : Writer). bytes_eq c.args.name.now writer.name) (writers_of unit)) c.self.view_is)
