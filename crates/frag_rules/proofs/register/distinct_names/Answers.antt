use Rattle.std.proofs.Common.{◌&&◌, map, ap, ap₂, ◌∙◌}
use Rattle.frag_sem.specs.Modules.{are_distinct_names}
use Rattle.frag_rules.specs.Rules.{register_test}
use Rattle.frag_rules.proofs.RegisterTests.{same}
use Rattle.frag_rules.proofs.register.distinct_names.Goals as goal

pub returns : goal.returns
unfolding register_test
returns c =
    c.earlier-2.ensures
    ∙ ap₂ (λ a b. a && b)
    (c.marker_item.ensures ∙ (c.in_ok-marker.ensures ∙ ap (λ names. are_distinct_names (map (λ name. name) names)) c.as_slice.ensures ∙ ap are_distinct_names (same c.args.unit.now.markers)))
    (c.earlier.ensures
    ∙ ap₂ (λ a b. a && b)
    (c.reader_item.ensures ∙ (c.in_ok-reader.ensures ∙ ap (λ readers. are_distinct_names (map (λ reader. reader.name) readers)) c.readers_of.ensures))
    (c.earlier-field.ensures
    ∙ ap₂ (λ a b. a && b)
    (c.writer_item.ensures ∙ (c.in_ok-writer.ensures ∙ ap (λ writers. are_distinct_names (map (λ writer. writer.name) writers)) c.writers_of.ensures))
    c.in_ok-call.ensures))
