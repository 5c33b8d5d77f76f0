-- The next name, and those behind it.
use Rattle.std.proofs.Common.{Some, map, sym, ap, ◌∙◌}
use Rattle.patch_names.proofs.Clashes.{sought-found, sought-more, sought-none, sought-start}
use Rattle.patch_names.specs.Renaming.{entry_name}
use Rattle.patch_names.proofs.clash.clash_in_entries.Goals as goal

pub returns-in-Some-earlier : goal.returns-in-Some-earlier
returns-in-Some-earlier g c =
    ap (λ n. Some (c.in-Some-earlier.first, n)) c.in_ok-copy.ensures
    ∙ sym
    (sought-found c.args.prefix.now (map entry_name c.args.entries.now.entries) c.loop-key.seen.entries (map entry_name c.loop-key.key-iterator) c.in-Some.key.now.name (map entry_name c.next.new.self) c.in-Some-earlier.first
    c.loop-key.invariant (ap (map entry_name) c.in-Some.ensures.steps) (sym c.in_ok-earlier.ensures.earlier ∙ c.in-Some-earlier.is))

pub loop-key-preserved : goal.loop-key-preserved
loop-key-preserved g c =
    sought-more c.args.prefix.now (map entry_name c.args.entries.now.entries) c.loop-key.seen.entries (map entry_name c.loop-key.key-iterator) c.in-Some.key.now.name (map entry_name c.next.new.self) c.meet.new.seen.entries
    c.loop-key.invariant (ap (map entry_name) c.in-Some.ensures.steps) (sym c.in_ok-earlier.ensures.earlier ∙ c.in_default.is) (c.in_ok-earlier.ensures.kept c.in_default.is)

pub returns : goal.returns
returns g c =
    sym (sought-none c.args.prefix.now (map entry_name c.args.entries.now.entries) c.loop-key.seen.entries (map entry_name c.loop-key.key-iterator) c.loop-key.invariant (ap (map entry_name) c.in-None.ensures.steps.0))

pub loop-key-init : goal.loop-key-init
loop-key-init g c =
    sought-start c.args.prefix.now (map entry_name c.args.entries.now.entries) c.new-seen.result.entries (map entry_name c.into_iter-key-iterator.result) c.new-seen.ensures.empty (ap (map entry_name) c.into_iter-key-iterator.ensures.into_iter_gives.0)
