-- A step that a description can hold is told as it is: so what the code does at each parent is the array.
use Rattle.std.proofs.Common.{◌≡◌, Bool, List, [], ◌∷◌, Option, Some, Ok, refl, ap, ◌∙◌}
use Rattle.patch_edits.specs.Visits.{Below, each, only_if, visited}
use Rattle.patch_sem.specs.Steps.{Outcome, ◌>>=◌}
use Rattle.svd_model.specs.Keys.{Key}
use Rattle.svd_model.specs.Steps.{Kind, Step}
use Rattle.svd_rows.specs.Elements.{Every}
use Rattle.svd_rows.specs.Forest.{leaf, node}

module _ (P : Step → List Key → Type 0) (edit other : Option Kind → Below → Outcome Below) (same : (kind : Option Kind) (f : Below) → Every P f → edit kind f ≡ other kind f) where
  each-same : (test : Step → Bool) (here there : Kind → Below → Outcome Below) → ((kind : Kind) (f : Below) → Every P f → here kind f ≡ there kind f) → (f : Below) → Every P f → each test here f ≡ each test there f
  unfolding each Every
  each-same test here there agree leaf h = refl
  each-same test here there agree (node s ks c n) h =
      ap (λ (o : Outcome Below). only_if (test s) o c >>= (λ below. each test here n >>= (λ others. Ok (node s ks below others)))) (agree s.kind c h.1)
      ∙ ap (λ (o : Outcome Below). only_if (test s) (there s.kind c) c >>= (λ below. o >>= (λ others. Ok (node s ks below others)))) (each-same test here there agree n h.2)

  -- edits that agree below what has the property agree on the whole walk
  pub visited-same : (tests : List (Step → Bool)) (kind : Option Kind) (f : Below) → Every P f → visited edit tests kind f ≡ visited other tests kind f
  unfolding visited
  visited-same [] kind f h = same kind f h
  visited-same (test ∷ tests) kind f h =
      each-same test (λ inner. visited edit tests (Some inner)) (λ inner. visited other tests (Some inner)) (λ inner g k. visited-same tests (Some inner) g k) f h
