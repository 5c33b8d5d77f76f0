-- The keys so far.
use Rattle.std.proofs.Common.{◌≡◌, map, take}
use Rattle.derive_order.proofs.Names.{key_in}
use Rattle.derive_sources.specs.Entries.{plain}
use Rattle.derive_order.proofs.keys.name_keys.Given as goal

abbrev pub invariant-loop-entry : goal.invariant-loop-entry
invariant-loop-entry l = l.keys.items ≡ map (λ item. key_in (map plain l.entries) item.name) (map plain (take l.entry-index l.entries))
