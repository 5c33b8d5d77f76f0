use Rattle.std.proofs.Common.{Some, map, refl, sym, ap, ◌∙◌}
use Rattle.glob_select.specs.Matching.{matches}
use Rattle.patch_sem.specs.Selecting.{selects}
use Rattle.patch_edits.proofs.EditedTrees.{peripheral-edited}
use Rattle.patch_edits.specs.Visits.{visited}
use Rattle.svd_model.specs.Trees.{peripheral_places}
use Rattle.patch_edits.proofs.walking.one_peripheral.Goals as goal

pub returns-then-matches-clause-edited : goal.returns-then-matches-clause-edited
unfolding peripheral_places
returns-then-matches-clause-edited g c =
    peripheral-edited c.args.first.now (λ kind. visited (g.E.Edit.edit c.args.edit.now) (map selects c.args.rest.now) (Some kind)) c.args.key.now c.args.peripheral.now
    (record { derived = c.args.peripheral.now.derived; dim = c.args.peripheral.now.dim; base = c.args.peripheral.now.base; props = c.args.peripheral.now.props; children = c.in_items.new.items }) c.in_items.result
    (ap (matches c.args.first.now) (sym c.bytes.ensures.same) ∙ sym c.matches.ensures ∙ c.if-matches.true) refl c.in_items.ensures.in_peripheral
