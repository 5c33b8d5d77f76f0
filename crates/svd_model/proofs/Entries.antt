-- The entries of a map: one value written, and the steps of their keys.
use Rattle.std.proofs.Common.{◌≡◌, ℕ, false, zero, suc, List, [], ◌∷◌, map, Some, slice_get, set, refl, ap}
use Rattle.std.specs.List.{AllByRecursion, IsDistinct as AreDistinct}
use Rattle.indexmap.specs.IndexMap.{set_value_at}
use Rattle.svd_model.specs.declared.sibling.Sibling.{Sibling}
use Rattle.svd_model.specs.Keys.{Key}
use Rattle.svd_model.specs.Steps.{Step, Kind, same_key}
use Rattle.svd_model.specs.Trees.{step_of}
use Rattle.svd_model.proofs.Copies.{sibling_eq}
use Rattle.svd_rows.specs.Forest.{Tree}

-- the entry at the place has its key and the new value
pub set_value_at-set : {K X : Type 0} (es : List (K × X)) (i : ℕ) (old : K × X) (value : X) → slice_get es i ≡ Some old → set_value_at es i value ≡ set es i (old.0, value)
set_value_at-set {K = K} {X = X} [] i old value here = refl
set_value_at-set {K = K} {X = X} (e ∷ es) zero old value here =
    let same : e ≡ old = cc in
    ap (λ (x : K × X). (x.0, value) ∷ es) same
set_value_at-set {K = K} {X = X} (e ∷ es) (suc i) old value here = ap (λ r. e ∷ r) (set_value_at-set es i old value here)

-- where the keys of a map are distinct, so are the steps of what stands under them
pub distinct-steps : {X : Type 0} (kind : Kind) (tree : X → Tree Step Key) (es : List (Sibling × X)) → AreDistinct sibling_eq (map (λ entry. entry.0) es) → AreDistinct same_key (map (λ (x : Step × Tree Step Key). x.0) (map (λ entry. (step_of kind entry.0, tree entry.1)) es))
unfolding AreDistinct same_key
distinct-steps kind tree [] distinct = tt
distinct-steps {X = X} kind tree (entry ∷ es) distinct = (apart es distinct.0, distinct-steps kind tree es distinct.1)
  where
    apart : (others : List (Sibling × X)) → AllByRecursion (λ other. sibling_eq entry.0 other ≡ false) (map (λ other. other.0) others) → AllByRecursion (λ other. same_key (step_of kind entry.0) other ≡ false) (map (λ (x : Step × Tree Step Key). x.0) (map (λ other. (step_of kind other.0, tree other.1)) others))
    apart [] h = tt
    apart (other ∷ others) h = (h.0, apart others h.1)
