use Rattle.std.proofs.Common.{◌-◌, length}
use Rattle.crate_form.specs.Crates.{emitted}
use Rattle.frag_tree.specs.Crates.{parts_of}
use Rattle.frag_emit.proofs.Printing.{PrintedUpTo}
use Rattle.frag_emit.proofs.emitter.print_text.Given as goal

abbrev pub invariant-loop : goal.invariant-loop
invariant-loop g l = PrintedUpTo l.fn.state l.emitter.state.now l.emitter.done (g.S.Sink.written l.fn.sink) (g.S.Sink.written l.sink) (g.S.Sink.faults l.fn.sink) (g.S.Sink.faults l.sink)

abbrev pub decreases-loop : goal.decreases-loop
decreases-loop g l = length (parts_of (emitted l.fn.state)) - l.emitter.done
