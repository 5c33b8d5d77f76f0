use Rattle.svd_rows.proofs.Finding.{filter-rows, paths-rows}
use Rattle.svd_rows.proofs.LookUps.{keys_of-rows, children_of-rows}
use Rattle.svd_rows.proofs.laws.look_ups_law.Goals as goal

pub returns : goal.returns
returns g c = record {
  found = filter-rows;
  paths = paths-rows;
  keys = keys_of-rows;
  children = children_of-rows;
}
