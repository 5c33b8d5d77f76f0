-- Where the rows of one element stand among those of a tree.
use Rattle.std.specs.Prelude.{◌≡◌, Bool, false, List, ◌++◌, map}
use Rattle.svd_rows.specs.Edits.{within}
use Rattle.svd_rows.specs.Forest.{Tree}
use Rattle.svd_rows.specs.Paths.{exactly, is_within}
use Rattle.svd_rows.specs.RowEdits.{some_pass}
use Rattle.svd_rows.specs.Rows.{Row, rows, under_path}

-- the rows of this part of the tree stand together, no row before or after them is at or below its path,
-- and an edit of the part changes them alone
pub record Stands {S K : Type 0} (same : S → S → Bool) (path : List S) (tree part : Tree S K) : Type 0 where
  pub before : List (Row S K)
  pub after : List (Row S K)
  pub elsewhere_before : some_pass (is_within (exactly same path)) before ≡ false
  pub elsewhere_after : some_pass (is_within (exactly same path)) after ≡ false
  pub stands : rows tree ≡ before ++ (map (under_path path) (rows part) ++ after)
  pub edited : (edit : Tree S K → Tree S K) → rows (within (exactly same path) edit tree) ≡ before ++ (map (under_path path) (rows (edit part)) ++ after)
