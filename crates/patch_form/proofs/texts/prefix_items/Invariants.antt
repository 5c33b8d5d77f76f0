use Rattle.patch_form.proofs.Finding.{Past}
use Rattle.patch_form.proofs.ListedTexts.{prefixes_from}
use Rattle.patch_form.proofs.texts.prefix_items.Given as goal

abbrev pub invariant-loop-item : goal.invariant-loop-item
invariant-loop-item l = Past (prefixes_from l.items 0) (prefixes_from l.items l.item-index) l.found
