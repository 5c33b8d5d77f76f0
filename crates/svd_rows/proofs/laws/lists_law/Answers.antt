use Rattle.svd_rows.proofs.Siblings.{in_children-siblings, without-siblings, replaced-siblings, renamed-siblings, siblings-append}
use Rattle.svd_rows.proofs.laws.lists_law.Goals as goal

pub returns : goal.returns
returns g c = record {
  edit = in_children-siblings;
  deletion = without-siblings;
  replacement = replaced-siblings;
  renaming = renamed-siblings;
  addition = siblings-append;
}
