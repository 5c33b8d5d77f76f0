-- What was seen, and that the names that are left decide.
use Rattle.std.proofs.Common.{drop, map}
use Rattle.patch_names.proofs.Clashes.{Sought}
use Rattle.patch_names.specs.Renaming.{item_name}
use Rattle.patch_names.proofs.clash.clash_in_items.Given as goal

abbrev pub invariant-loop-item : goal.invariant-loop-item
invariant-loop-item l = Sought l.prefix (map item_name l.items) l.seen.entries (map item_name (drop l.item-index l.items))
