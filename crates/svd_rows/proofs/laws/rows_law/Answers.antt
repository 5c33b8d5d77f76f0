use Rattle.svd_rows.proofs.Counting.{count-rows}
use Rattle.svd_rows.proofs.Reading.{tree_of-rows, rows-equal}
use Rattle.svd_rows.proofs.Rows.{forest_rows-join, forest_rows-planted}
use Rattle.svd_rows.proofs.laws.rows_law.Goals as goal

pub returns : goal.returns
returns g c = record {
  siblings = forest_rows-join;
  element = forest_rows-planted;
  spelling = tree_of-rows;
  equality = rows-equal;
  counting = count-rows;
}
