use Rattle.std.proofs.Common.{List, ◌++◌, subst, ℕ}
use Rattle.pac_io.specs.WrittenUpTo.{WrittenUpTo}
use Rattle.pac_io.proofs.WrittenUpTo.{run_of_writes}
use Rattle.frag_tree.specs.Crates.{top_text}
use Rattle.frag_tree.specs.Trees.{block_tree}
use Rattle.frag_tree.proofs.crate_text.print_top_block.Goals as goal

pub returns-clause-growth : goal.returns-clause-growth
returns-clause-growth g c =
    run_of_writes c.finish.result (g.S.Sink.written c.finish.new.sink)
    (subst (λ (xs : List ℕ). WrittenUpTo (g.S.Sink.written c.args.sink.now) (g.S.Sink.written c.print_top.new.sink) (xs ++ top_text (block_tree c.args.block.now)) c.print_top.new.page) c.new-page.ensures c.in_ok-print_top.ensures.growth)
    c.finish.ensures.growth
