use Rattle.std.proofs.Common.{◌∙◌, ◌++◌, reverse, sym, ap, append-nil}
use Rattle.derive_from.specs.Refusals.{told_names}
use Rattle.derive_from.proofs.Ways.{path_here, further_out, less_far}
use Rattle.derive_sources.specs.Numbers.{Item, path_at}
use Rattle.derive_from.proofs.path.way_from.Goals as goal

pub loop-here-init : goal.loop-here-init
loop-here-init g c =
    ap (λ way. told_names (path_at g.all c.args.number) ++ reverse way) c.new-way.ensures.items ∙ append-nil (told_names (path_at g.all c.args.number))

pub loop-here-smaller : goal.loop-here-smaller
loop-here-smaller g c =
    less_far g.all c.args.entries.now c.args.owns.now c.requires c.loop-here.here c.entry_at-here.result.parent c.in-Some.at c.in-Some.is
    (ap (λ (item : Item). item.parent) c.entry_at-here.ensures)

pub loop-here-preserved : goal.loop-here-preserved
loop-here-preserved g c =
    further_out g.all c.args.entries.now c.args.owns.now c.requires c.loop-here.here c.entry_at-here.result.parent c.in-Some.at c.loop-here.way.items c.push_name.new.way.items _ _ c.in-Some.is
    (ap (λ (item : Item). item.parent) c.entry_at-here.ensures)
    c.name_at.ensures c.in_ok-push_name.ensures c.loop-here.invariant

pub returns : goal.returns
unfolding told_names
returns g c =
    ap (λ here. told_names (path_here g.all here) ++ reverse c.loop-here.way.items) (sym c.in_default.is) ∙ c.loop-here.invariant
