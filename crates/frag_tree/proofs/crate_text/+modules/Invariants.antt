use Rattle.std.proofs.Common.{◌++◌, drop}
use Rattle.frag_tree.proofs.Modules.{PrintedUpTo, modules_from}
use Rattle.frag_tree.proofs.crate_text.+modules.Given as goal

abbrev pub invariant-print_modules-loop-part : goal.invariant-print_modules-loop-part
invariant-print_modules-loop-part g l = PrintedUpTo (g.S.Sink.written l.fn.sink) (g.S.Sink.written l.sink) (g.S.Sink.faults l.fn.sink) (g.S.Sink.faults l.sink) (l.fn.page ++ modules_from l.depth l.modules) l.page (modules_from l.depth (drop l.part-index l.modules))
