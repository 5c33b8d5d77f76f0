use Rattle.std.proofs.Common.{ap, find, ◌∙◌}
use Rattle.std.specs.Str.{bytes_eq}
use Rattle.frag_sem.specs.ProxyTypes.{numbers_on, truths_on}
use Rattle.frag_tree.specs.declared.register.NumberCall.{NumberCall}
use Rattle.frag_tree.specs.declared.register.Reader.{Reader}
use Rattle.frag_tree.specs.declared.register.TruthCall.{TruthCall}
use Rattle.frag_tree.specs.declared.register.Writer.{Writer}
use Rattle.frag_index.proofs.unit.Unit.new.Goals as goal

pub invariant_of-result : goal.invariant_of-result
invariant_of-result c = record {
  readers_are = λ name. c.in_ok-readers.ensures name ∙ ap (λ readers. find (λ (reader : Reader). bytes_eq name reader.name) readers) c.readers_of.ensures;
  writers_are = λ name. c.in_ok-writers.ensures name ∙ ap (λ writers. find (λ (writer : Writer). bytes_eq name writer.name) writers) c.writers_of.ensures;
  truths_are = λ type name. c.in_ok-truths.ensures type name ∙ ap (λ values. find (λ (call : TruthCall). bytes_eq name call.name) (truths_on type values)) c.as_slice.ensures;
  numbers_are = λ type name. c.in_ok-numbers.ensures type name ∙ ap (λ values. find (λ (call : NumberCall). bytes_eq name call.name) (numbers_on type values)) c.as_slice-2.ensures;
}
