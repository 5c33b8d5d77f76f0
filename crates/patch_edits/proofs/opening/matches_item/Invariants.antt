use Rattle.std.proofs.Common.{◌≡◌, drop}
use Rattle.std.specs.List.{list_any}
use Rattle.glob_select.specs.Matching.{matches}
use Rattle.patch_edits.proofs.opening.matches_item.Given as goal

abbrev pub invariant-loop-item : goal.invariant-loop-item
invariant-loop-item l = list_any (λ item. matches l.pattern item.key.name) (drop l.item-index l.items) ≡ list_any (λ item. matches l.pattern item.key.name) l.items
