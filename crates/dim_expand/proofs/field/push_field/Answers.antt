-- The group goes last, under the name and the number that the tally gave.
use Rattle.std.proofs.Common.{refl}
use Rattle.dim_expand.proofs.Growing.{entry-pushed}
use Rattle.dim_expand.proofs.Stated.{field-dim}
use Rattle.svd_model.specs.Steps.{field}
use Rattle.svd_model.specs.Trees.{field_under}
use Rattle.dim_expand.proofs.field.push_field.Goals as goal

pub returns : goal.returns
returns c =
    entry-pushed field_under field (λ entry. refl) c.args.tally.now.counts.entries c.next.new.self.counts.entries c.args.made.now.entries c.insert.new.self.entries (field_under (c.args.key.now, c.args.element.now)) c.args.element.now.dim c.args.group c.in_ok-name.name c.in_ok-key.key c.in_ok-field.field refl refl (field-dim c.args.element.now) c.in_ok-name.ensures
    (record { named = c.in_ok-key.ensures.name; number = c.in_ok-key.ensures.number; tallies = c.in_ok-key.ensures.tally })
    c.in_ok-field.ensures c.in_ok-insert.ensures.entries
