use Rattle.std.proofs.Common.{is_some}
use Rattle.frag_sem.specs.CrateTyping.{is_marker}
use Rattle.frag_rules.specs.Naming.{named_in}
use Rattle.frag_rules.specs.Rules.{register_test}
use Rattle.frag_rules.proofs.Misfits.{no-misfit}
use Rattle.frag_rules.proofs.RegisterTests.{is-declared}
use Rattle.frag_rules.proofs.register.reader_markers.Goals as goal

pub returns : goal.returns
unfolding register_test
returns c =
    no-misfit (λ reader. is_some (named_in c.in_ok-markers.markers reader.marker)) (λ reader. is_marker c.args.unit.now reader.marker) _ _ _ _
    (λ reader. is-declared c.args.unit.now _ _ c.as_slice.ensures c.in_ok-markers.ensures reader.marker) c.readers_of.ensures c.reader_without_marker.ensures c.reader_item.ensures
