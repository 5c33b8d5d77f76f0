use Rattle.svd_rows.proofs.Deleting.{rows-without_children}
use Rattle.svd_rows.proofs.Renaming.{rows-with_renamed}
use Rattle.svd_rows.proofs.laws.edits_law.Goals as goal

pub returns : goal.returns
returns g c = record {
  deletion = rows-without_children;
  renaming = rows-with_renamed;
}
