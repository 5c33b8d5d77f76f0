use Rattle.std.proofs.Common.{◌++◌, drop}
use Rattle.frag_tree.proofs.Modules.{PrintedUpTo, tops_from}
use Rattle.frag_tree.proofs.crate_text.print_blocks.Given as goal

abbrev pub invariant-loop-block : goal.invariant-loop-block
invariant-loop-block g l = PrintedUpTo (g.S.Sink.written l.fn.sink) (g.S.Sink.written l.sink) (g.S.Sink.faults l.fn.sink) (g.S.Sink.faults l.sink) (l.fn.page ++ tops_from l.blocks) l.page (tops_from (drop l.block-index l.blocks))
