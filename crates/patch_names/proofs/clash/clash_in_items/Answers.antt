-- The next name, and those behind it.
use Rattle.std.proofs.Common.{refl, ◌+◌, drop, Some, map, sym, ap, ◌∙◌}
use Rattle.std.proofs.lemmas.List.{drop_all}
use Rattle.patch_names.proofs.Clashes.{next_of, sought-found, sought-more, sought-none, sought-start}
use Rattle.patch_names.specs.Renaming.{item_name}
use Rattle.patch_names.proofs.clash.clash_in_items.Goals as goal

pub returns-in-Some : goal.returns-in-Some
returns-in-Some c =
    ap (λ n. Some (c.in-Some.first, n)) c.in_ok-copy.ensures
    ∙ sym
    (sought-found c.args.prefix.now (map item_name c.args.items.now) c.loop-item.seen.entries (map item_name (drop c.loop-item.item-index c.args.items.now)) c.item-item.result.key.name (map item_name (drop (c.loop-item.item-index + 1) c.args.items.now)) c.in-Some.first
    c.loop-item.invariant (ap (map item_name) (next_of c.args.items.now c.loop-item.item-index c.item-item.result c.loop-item-test.true c.item-item.is)) (sym c.in_ok-earlier.ensures.earlier ∙ c.in-Some.is))

pub loop-item-preserved : goal.loop-item-preserved
loop-item-preserved c =
    sought-more c.args.prefix.now (map item_name c.args.items.now) c.loop-item.seen.entries (map item_name (drop c.loop-item.item-index c.args.items.now)) c.item-item.result.key.name (map item_name (drop (c.loop-item.item-index + 1) c.args.items.now)) c.meet.new.seen.entries
    c.loop-item.invariant (ap (map item_name) (next_of c.args.items.now c.loop-item.item-index c.item-item.result c.loop-item-test.true c.item-item.is)) (sym c.in_ok-earlier.ensures.earlier ∙ c.in_default.is) (c.in_ok-earlier.ensures.kept c.in_default.is)

pub returns : goal.returns
returns c =
    sym (sought-none c.args.prefix.now (map item_name c.args.items.now) c.loop-item.seen.entries (map item_name (drop c.loop-item.item-index c.args.items.now)) c.loop-item.invariant (ap (map item_name) (drop_all c.loop-item.item-index c.args.items.now c.loop-item-test.false)))

pub loop-item-init : goal.loop-item-init
loop-item-init c = sought-start c.args.prefix.now (map item_name c.args.items.now) c.new-seen.result.entries (map item_name c.args.items.now) c.new-seen.ensures.empty refl
