-- What was met and what is left decide as all items do.
use Rattle.std.proofs.Common.{◌≡◌, drop, false}
use Rattle.patch_changes.specs.Listed.{item_comes_to, twice}
use Rattle.patch_changes.proofs.items.clash.Given as goal

abbrev pub invariant-loop-item : goal.invariant-loop-item
invariant-loop-item l = twice (item_comes_to l.pattern l.name) l.seen (drop l.item-index l.items) ≡ twice (item_comes_to l.pattern l.name) false l.items
