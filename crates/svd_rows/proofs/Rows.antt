-- The rows of siblings.
use Rattle.std.proofs.Common.{◌≡◌, ◌++◌, map, refl, sym, ap, ◌∙◌, append_assoc}
use Rattle.svd_rows.specs.Forest.{Forest, Tree, leaf, node, join}
use Rattle.svd_rows.specs.Edits.{planted}
use Rattle.svd_rows.specs.Rows.{forest_rows, rows, own, under}

pub forest_rows-join : {S K : Type 0} (f g : Forest S K) → forest_rows (join f g) ≡ forest_rows f ++ forest_rows g
unfolding forest_rows join
forest_rows-join leaf g = refl
forest_rows-join (node s ks c n) g =
    ap (λ r. map (under s) (own ks ++ forest_rows c) ++ r) (forest_rows-join n g)
    ∙ sym (append_assoc (map (under s) (own ks ++ forest_rows c)) (forest_rows n) (forest_rows g))

pub forest_rows-planted : {S K : Type 0} (step : S) (tree : Tree S K) (siblings : Forest S K) → forest_rows (planted step tree siblings) ≡ map (under step) (rows tree) ++ forest_rows siblings
unfolding forest_rows rows
forest_rows-planted step tree siblings = refl
