use Rattle.svd_rows.proofs.Adding.{rows-with_children}
use Rattle.svd_rows.proofs.Exchanging.{rows-with_replaced}
use Rattle.svd_rows.proofs.Keys.{rows-with_keys}
use Rattle.svd_rows.proofs.LookUps.{inside-rows, inside-none}
use Rattle.svd_rows.proofs.Standing.{element_at-stands, child_at-splits}
use Rattle.svd_rows.proofs.laws.paths_law.Goals as goal

pub returns : goal.returns
returns g c = record {
  names_one = element_at-stands;
  inside = λ same law path tree part distinct found. inside-rows same law path tree part (element_at-stands same law path tree part distinct found);
  none_inside = inside-none;
  addition = rows-with_children;
  replacement = λ same law path step made tree part child here distinct found. rows-with_replaced same law path step made tree part child here (child_at-splits same law step part.below child distinct found);
  setting = rows-with_keys;
}
