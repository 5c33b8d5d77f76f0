use Rattle.std.proofs.Common.{subst, List, ℕ}
use Rattle.std.proofs.lemmas.Result.{err_from_is_err_and}
use Rattle.pac_io.specs.WrittenUpTo.{WrittenUpTo}
use Rattle.pac_io.specs.Writing.{AppendsPrefix}
use Rattle.pac_io.proofs.WrittenUpTo.{none_written, run_of_writes}
use Rattle.frag_tree.proofs.Modules.{whole_crate}
use Rattle.frag_tree.proofs.crate_text.print_crate.Goals as goal

pub returns-in_err-push_version-clause-growth : goal.returns-in_err-push_version-clause-growth
returns-in_err-push_version-clause-growth g c =
    let p = err_from_is_err_and c.from_residual.result c.from_residual.ensures.1 in rw p.1 (none_written _ _)

pub returns-in_err-push_slots-clause-growth : goal.returns-in_err-push_slots-clause-growth
returns-in_err-push_slots-clause-growth g c =
    let p = err_from_is_err_and c.from_residual-in_err-push_slots.result c.from_residual-in_err-push_slots.ensures.1 in rw p.1 (none_written _ _)

pub returns-in_err-print_blocks-clause-growth : goal.returns-in_err-print_blocks-clause-growth
returns-in_err-print_blocks-clause-growth g c =
    let p = err_from_is_err_and c.from_residual-in_err-print_blocks.result c.from_residual-in_err-print_blocks.ensures.1 in
    let whole = whole_crate c.args.krate.now c.as_slice.result.now c.deref.result.now _ c.push_version.new.page c.push_slots.new.page c.new-page.ensures c.as_slice.ensures c.deref.ensures.value c.in_ok-push_version.ensures c.in_ok-push_slots.ensures in
    rw p.1 (subst (λ (xs : List ℕ). AppendsPrefix (g.S.Sink.written c.args.sink.now) (g.S.Sink.written c.print_blocks.new.sink) xs) whole c.in_err-print_blocks.ensures.growth)

pub returns-clause-growth : goal.returns-clause-growth
returns-clause-growth g c =
    let whole = whole_crate c.args.krate.now c.as_slice.result.now c.deref.result.now _ c.push_version.new.page c.push_slots.new.page c.new-page.ensures c.as_slice.ensures c.deref.ensures.value c.in_ok-push_version.ensures c.in_ok-push_slots.ensures in
    run_of_writes c.finish.result (g.S.Sink.written c.finish.new.sink)
    (subst (λ (xs : List ℕ). WrittenUpTo (g.S.Sink.written c.args.sink.now) (g.S.Sink.written c.print_blocks.new.sink) xs c.print_blocks.new.page) whole c.in_ok-print_blocks.ensures.growth)
    c.finish.ensures.growth
