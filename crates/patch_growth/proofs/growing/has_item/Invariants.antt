use Rattle.std.proofs.Common.{◌≡◌, drop}
use Rattle.std.specs.List.{list_any}
use Rattle.std.specs.Str.{bytes_eq}
use Rattle.patch_growth.proofs.growing.has_item.Given as goal

abbrev pub invariant-loop-item : goal.invariant-loop-item
invariant-loop-item l = list_any (λ item. bytes_eq l.name item.key.name) (drop l.item-index l.items) ≡ list_any (λ item. bytes_eq l.name item.key.name) l.items
