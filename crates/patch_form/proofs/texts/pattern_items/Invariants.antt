use Rattle.patch_form.proofs.Finding.{Past}
use Rattle.patch_form.proofs.ListedTexts.{patterns_from}
use Rattle.patch_form.proofs.texts.pattern_items.Given as goal

abbrev pub invariant-loop-item : goal.invariant-loop-item
invariant-loop-item l = Past (patterns_from l.items 0) (patterns_from l.items l.item-index) l.found
