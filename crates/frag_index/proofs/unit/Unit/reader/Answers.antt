use Rattle.std.proofs.Common.{ap, find, option_map, ◌∙◌}
use Rattle.std.specs.Borrow.{Bor}
use Rattle.std.specs.Str.{bytes_eq}
use Rattle.frag_sem.specs.ProxyTypes.{readers_of}
use Rattle.frag_tree.specs.declared.register.RegisterModule.{RegisterModule}
use Rattle.frag_tree.specs.declared.register.Reader.{Reader}
use Rattle.frag_index.proofs.unit.Unit.reader.Goals as goal

pub returns : goal.returns
returns c =
    ap (option_map (λ (reader : Bor Reader). reader.now)) (c.copied.ensures ∙ c.get.ensures)
    ∙ (c.self.invariant.readers_are c.args.name.now ∙ ap (λ (unit : RegisterModule). find (λ (reader : Reader). bytes_eq c.args.name.now reader.name) (readers_of unit)) c.self.view_is)
