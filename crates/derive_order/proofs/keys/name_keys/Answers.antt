use Rattle.std.proofs.Common.{◌∙◌, map, ap, arith}
use Rattle.std.proofs.lemmas.List.{length-map, take_all}
use Rattle.derive_order.proofs.Names.{are_keys, key_in}
use Rattle.derive_sources.specs.Entries.{plain}
use Rattle.derive_sources.specs.Numbers.{Item}
use Rattle.derive_order.proofs.keys.name_keys.Goals as goal

pub returns : goal.returns
returns c =
    are_keys (map plain c.args.entries.now) c.loop-entry.keys.items (omega (arith, c.requires, length-map c.args.entries.now plain))
    (c.loop-entry.invariant ∙ ap (λ entries. map (λ (item : Item). key_in (map plain c.args.entries.now) item.name) (map plain entries)) (take_all c.loop-entry.entry-index c.args.entries.now (omega (arith, c.loop-entry-test.false))))
