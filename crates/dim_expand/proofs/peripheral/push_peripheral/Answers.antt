-- The group goes last, under the name and the number that the tally gave.
use Rattle.std.proofs.Common.{refl}
use Rattle.dim_expand.proofs.Growing.{entry-pushed}
use Rattle.dim_expand.proofs.Stated.{peripheral-dim}
use Rattle.svd_model.specs.Steps.{peripheral}
use Rattle.svd_model.specs.Trees.{peripheral_under}
use Rattle.dim_expand.proofs.peripheral.push_peripheral.Goals as goal

pub returns : goal.returns
returns c = λ narrow.
    entry-pushed peripheral_under peripheral (λ entry. refl) c.args.tally.now.counts.entries c.next.new.self.counts.entries c.args.made.now.entries c.insert.new.self.entries (peripheral_under (c.args.key.now, c.args.element.now)) c.args.element.now.dim c.args.group c.in_ok-name.name c.in_ok-key.key c.in_ok-peripheral.peripheral refl refl (peripheral-dim c.args.element.now) c.in_ok-name.ensures
    (record { named = c.in_ok-key.ensures.name; number = c.in_ok-key.ensures.number; tallies = c.in_ok-key.ensures.tally })
    (c.in_ok-peripheral.ensures narrow) c.in_ok-insert.ensures.entries
