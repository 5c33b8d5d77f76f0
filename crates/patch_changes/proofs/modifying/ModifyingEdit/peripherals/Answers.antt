use Rattle.std.proofs.Common.{None, inr, sym, ◌∙◌}
use Rattle.patch_changes.proofs.Kept.{changing-evens}
use Rattle.patch_changes.proofs.InLists.{peripheral_named, list-none, map-changed}
use Rattle.patch_changes.specs.Changes.{changed_with}
use Rattle.patch_edits.proofs.Deleting.{peripheral_tells}
use Rattle.svd_model.specs.Steps.{peripheral}
use Rattle.svd_model.specs.Trees.{peripheral_tree, peripheral_under}
use Rattle.patch_edits.proofs.Recounting.{recounts-even}
use Rattle.patch_edits.specs.Edits.{below_device}
use Rattle.patch_changes.proofs.modifying.ModifyingEdit.peripherals.Goals as goal

pub returns-then-not-matches_one-clause-edited : goal.returns-then-not-matches_one-clause-edited
unfolding changed_with
returns-then-not-matches_one-clause-edited c =
    inr (list-none c.args.self.now.line c.args.self.now.pattern.now c.args.self.now.keys.now c.args.self.now.name.now peripheral_under (λ entry. entry.0) (peripheral_tells c.args.self.now.pattern.now) peripheral_named c.args.peripherals.now.entries (sym c.matches_one.ensures ∙ c.if-not-matches_one.true))

pub returns-clause-edited : goal.returns-clause-edited
unfolding changed_with
returns-clause-edited c =
    map-changed c.args.self.now.line c.args.self.now.pattern.now c.args.self.now.keys.now c.args.self.now.name.now peripheral peripheral_tree (peripheral_tells c.args.self.now.pattern.now) peripheral_named c.args.peripherals.now.entries c.set_peripherals.new.peripherals.entries c.rename_entries.new.entries.entries c.rename_entries.result
    (sym c.matches_one.ensures ∙ c.if-not-matches_one.false) c.in-Ok.ensures c.rename_entries.ensures

pub returns-clause-counted : goal.returns-clause-counted
returns-clause-counted c =
    recounts-even below_device (changed_with c.args.self.now.line c.args.self.now.pattern.now c.args.self.now.keys.now c.args.self.now.name.now) (changing-evens c.args.self.now.line c.args.self.now.pattern.now c.args.self.now.keys.now c.args.self.now.name.now) None c.args._total.now c.args.peripherals.now.entries c.rename_entries.new.entries.entries c.rename_entries.result (returns-clause-edited c)
