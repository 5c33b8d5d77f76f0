-- What the rows of an element tell of a child, however far down the element is.
use Rattle.std.proofs.Common.{◌≡◌, Bool, true, false, ◌&&◌, cond, List, [], ◌∷◌, ◌++◌, map, filter, length, drop, refl, sym, ap, ap₂, ◌∙◌}
use Rattle.svd_model.specs.Keys.{Key}
use Rattle.svd_model.specs.Steps.{Step, same_step}
use Rattle.svd_rows.specs.LookUps.{inside, seen_below}
use Rattle.svd_rows.specs.Paths.{begins, exactly, is_within}
use Rattle.svd_rows.specs.Rows.{Row}

begins-step : (path : List Step) (step : Step) (other : List Step) → begins (exactly same_step (path ++ step ∷ [])) other ≡ (begins (exactly same_step path) other && begins (exactly same_step (step ∷ [])) (drop (length path) other))
unfolding begins
begins-step [] step other = refl
begins-step (x ∷ path) step [] = refl
begins-step (x ∷ path) step (y ∷ other) = ap (λ b. same_step x y && b) (begins-step path step other) ∙ regroup (same_step x y) (begins (exactly same_step path) other) (begins (exactly same_step (step ∷ [])) (drop (length path) other))
  where
    regroup : (a b c : Bool) → (a && (b && c)) ≡ ((a && b) && c)
    regroup true b c = refl
    regroup false b c = refl

drop-step : (path : List Step) (step : Step) (other : List Step) → drop (length (path ++ step ∷ [])) other ≡ drop 1 (drop (length path) other)
drop-step [] step other = refl
drop-step (x ∷ path) step [] = refl
drop-step (x ∷ path) step (y ∷ other) = drop-step path step other

pub inside-step : (path : List Step) (step : Step) (all : List (Row Step Key)) → inside same_step (path ++ step ∷ []) all ≡ inside same_step (step ∷ []) (inside same_step path all)
unfolding inside
inside-step path step [] = refl
inside-step path step (row ∷ all) =
    ap (λ b. map (seen_below (path ++ step ∷ [])) (cond b (row ∷ filter (is_within (exactly same_step (path ++ step ∷ []))) all) (filter (is_within (exactly same_step (path ++ step ∷ []))) all))) (begins-step path step row.path)
    ∙ at (begins (exactly same_step path) row.path) (begins (exactly same_step (step ∷ [])) (drop (length path) row.path)) refl (inside-step path step all)
  where
    left : List (Row Step Key)
    left = filter (is_within (exactly same_step (path ++ step ∷ []))) all

    right : List (Row Step Key)
    right = map (seen_below path) (filter (is_within (exactly same_step path)) all)

    at : (a b : Bool) → begins (exactly same_step (step ∷ [])) (drop (length path) row.path) ≡ b → inside same_step (path ++ step ∷ []) all ≡ inside same_step (step ∷ []) (inside same_step path all)
        → map (seen_below (path ++ step ∷ [])) (cond (a && b) (row ∷ left) left) ≡ map (seen_below (step ∷ [])) (filter (is_within (exactly same_step (step ∷ []))) (map (seen_below path) (cond a (row ∷ filter (is_within (exactly same_step path)) all) (filter (is_within (exactly same_step path)) all))))
    at false b e again = again
    at true false e again = again ∙ sym (ap (λ c. map (seen_below (step ∷ [])) (cond c (seen_below path row ∷ filter (is_within (exactly same_step (step ∷ []))) right) (filter (is_within (exactly same_step (step ∷ []))) right))) e)
    at true true e again =
        ap₂ (λ (p : List Step) (rest : List (Row Step Key)). record { path = p; said = row.said } ∷ rest) (drop-step path step row.path) again
        ∙ sym (ap (λ c. map (seen_below (step ∷ [])) (cond c (seen_below path row ∷ filter (is_within (exactly same_step (step ∷ []))) right) (filter (is_within (exactly same_step (step ∷ []))) right))) e)
