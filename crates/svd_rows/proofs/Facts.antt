-- What holds of each element, that siblings are distinct, and how many elements there are, after edits.
use Rattle.std.proofs.Common.{◌≡◌, ℕ, ◌+◌, Bool, true, false, cond, List, [], ◌∷◌, ◌++◌, map, refl, sym, ap, ap₂, ◌∙◌, subst, arith, zero-add}
use Rattle.std.specs.List.{AllByRecursion}
use Rattle.svd_rows.specs.Edits.{in_children, replaced, renamed}
use Rattle.svd_rows.specs.Elements.{IsAbsent, IsDistinct, Every, count}
use Rattle.svd_rows.specs.Forest.{Forest, Tree, leaf, node, join, steps}

all-append : {X : Type 0} (P : X → Type 0) (xs ys : List X) → AllByRecursion P xs → AllByRecursion P ys → AllByRecursion P (xs ++ ys)
all-append P [] ys h k = k
all-append P (x ∷ xs) ys h k = (h.0, all-append P xs ys h.1 k)

module _ {S K : Type 0} where
  -- ---- the siblings of a list

  pub steps-join : (f g : Forest S K) → steps (join f g) ≡ steps f ++ steps g
  unfolding steps join
  steps-join leaf g = refl
  steps-join (node s ks c n) g = ap (λ r. s ∷ r) (steps-join n g)

  pub steps-in_children : (test : S → Bool) (edit : Tree S K → Tree S K) (f : Forest S K) → steps (in_children test edit f) ≡ steps f
  unfolding steps in_children
  steps-in_children test edit leaf = refl
  steps-in_children test edit (node s ks c n) = ap (λ r. s ∷ r) (steps-in_children test edit n)

  pub steps-renamed : (new : S → S) (f : Forest S K) → steps (renamed new f) ≡ map new (steps f)
  unfolding steps renamed
  steps-renamed new leaf = refl
  steps-renamed new (node s ks c n) = ap (λ r. new s ∷ r) (steps-renamed new n)

  -- ---- what holds of each element

  pub Every-join : (P : S → List K → Type 0) (f g : Forest S K) → Every P f → Every P g → Every P (join f g)
  unfolding Every join
  Every-join P leaf g h k = k
  Every-join P (node s ks c n) g h k = (h.0, h.1, Every-join P n g h.2 k)

  pub Every-left : (P : S → List K → Type 0) (f g : Forest S K) → Every P (join f g) → Every P f
  unfolding Every join
  Every-left P leaf g h = tt
  Every-left P (node s ks c n) g h = (h.0, h.1, Every-left P n g h.2)

  pub Every-right : (P : S → List K → Type 0) (f g : Forest S K) → Every P (join f g) → Every P g
  unfolding Every join
  Every-right P leaf g h = h
  Every-right P (node s ks c n) g h = Every-right P n g h.2

  pub Every-weaker : (P Q : S → List K → Type 0) → ((step : S) (keys : List K) → P step keys → Q step keys) → (f : Forest S K) → Every P f → Every Q f
  unfolding Every
  Every-weaker P Q less leaf h = tt
  Every-weaker P Q less (node s ks c n) h = (less s ks h.0, Every-weaker P Q less c h.1, Every-weaker P Q less n h.2)

  -- an edit of the children that pass a test keeps what holds of each, if it does so in each child
  pub Every-in_children : (P : S → List K → Type 0) (test : S → Bool) (edit : Tree S K → Tree S K) → ((step : S) (tree : Tree S K) → P step tree.keys → Every P tree.below → P step (edit tree).keys × Every P (edit tree).below) → (f : Forest S K) → Every P f → Every P (in_children test edit f)
  unfolding Every in_children
  Every-in_children P test edit each leaf h = tt
  Every-in_children P test edit each (node s ks c n) h =
      let here = cases (test s) (each s (record { keys = ks; below = c }) h.0 h.1) in
      (here.0, here.1, Every-in_children P test edit each n h.2)
    where
      cases : (b : Bool) → P s (edit (record { keys = ks; below = c })).keys × Every P (edit (record { keys = ks; below = c })).below → P s (cond b (edit (record { keys = ks; below = c })) (record { keys = ks; below = c })).keys × Every P (cond b (edit (record { keys = ks; below = c })) (record { keys = ks; below = c })).below
      cases true k = k
      cases false k = (h.0, h.1)

  pub Every-without : (P : S → List K → Type 0) (test : S → Bool) (f : Forest S K) → Every P f → Every P (replaced test (λ step child. leaf) f)
  unfolding Every replaced join
  Every-without P test leaf h = tt
  Every-without P test (node s ks c n) h = cases (test s) (Every-without P test n h.2)
    where
      cases : (b : Bool) → Every P (replaced test (λ step child. leaf) n) → Every P (cond b (replaced test (λ step child. leaf) n) (node s ks c (replaced test (λ step child. leaf) n)))
      cases true rest = rest
      cases false rest = (h.0, h.1, rest)

  -- ---- distinct siblings

  -- siblings are distinct together where each step of the first is none of the others'
  pub IsDistinct-join : (same : S → S → Bool) (f g : Forest S K) → IsDistinct same f → IsDistinct same g → AllByRecursion (λ step. IsAbsent same step g) (steps f) → IsDistinct same (join f g)
  unfolding IsDistinct join steps
  IsDistinct-join same leaf g h k apart = k
  IsDistinct-join same (node s ks c n) g h k apart = (
    subst (λ all. AllByRecursion (λ other. same s other ≡ false) all) (sym (steps-join n g)) (all-append (λ other. same s other ≡ false) (steps n) (steps g) h.0 apart.0),
    h.1,
    IsDistinct-join same n g h.2 k apart.1,
  )

  pub IsDistinct-in_children : (same : S → S → Bool) (test : S → Bool) (edit : Tree S K → Tree S K) → ((tree : Tree S K) → IsDistinct same tree.below → IsDistinct same (edit tree).below) → (f : Forest S K) → IsDistinct same f → IsDistinct same (in_children test edit f)
  unfolding IsDistinct in_children
  IsDistinct-in_children same test edit each leaf h = tt
  IsDistinct-in_children same test edit each (node s ks c n) h = (
    subst (λ all. AllByRecursion (λ other. same s other ≡ false) all) (sym (steps-in_children test edit n)) h.0,
    cases (test s) (each (record { keys = ks; below = c }) h.1),
    IsDistinct-in_children same test edit each n h.2,
  )
    where
      cases : (b : Bool) → IsDistinct same (edit (record { keys = ks; below = c })).below → IsDistinct same (cond b (edit (record { keys = ks; below = c })) (record { keys = ks; below = c })).below
      cases true k = k
      cases false k = h.1

  all-without : (P : S → Type 0) (test : S → Bool) (f : Forest S K) → AllByRecursion P (steps f) → AllByRecursion P (steps (replaced test (λ step child. leaf) f))
  unfolding steps replaced join
  all-without P test leaf h = tt
  all-without P test (node s ks c n) h = cases (test s) (all-without P test n h.1)
    where
      cases : (b : Bool) → AllByRecursion P (steps (replaced test (λ step child. leaf) n)) → AllByRecursion P (steps (cond b (replaced test (λ step child. leaf) n) (node s ks c (replaced test (λ step child. leaf) n))))
      cases true rest = rest
      cases false rest = (h.0, rest)

  pub IsDistinct-without : (same : S → S → Bool) (test : S → Bool) (f : Forest S K) → IsDistinct same f → IsDistinct same (replaced test (λ step child. leaf) f)
  unfolding IsDistinct replaced join
  IsDistinct-without same test leaf h = tt
  IsDistinct-without same test (node s ks c n) h =
      cases (test s) (IsDistinct-without same test n h.2) (all-without (λ other. same s other ≡ false) test n h.0)
    where
      cases : (b : Bool) → IsDistinct same (replaced test (λ step child. leaf) n) → IsAbsent same s (replaced test (λ step child. leaf) n) → IsDistinct same (cond b (replaced test (λ step child. leaf) n) (node s ks c (replaced test (λ step child. leaf) n)))
      cases true rest apart = rest
      cases false rest apart = (apart, h.1, rest)

  -- siblings that a coarser test tells apart are told apart by a finer one
  pub IsDistinct-finer : (same finer : S → S → Bool) → ((step other : S) → same step other ≡ false → finer step other ≡ false) → (f : Forest S K) → IsDistinct same f → IsDistinct finer f
  unfolding IsDistinct
  IsDistinct-finer same finer less leaf h = tt
  IsDistinct-finer same finer less (node s ks c n) h =
      (apart (steps n) h.0, IsDistinct-finer same finer less c h.1, IsDistinct-finer same finer less n h.2)
    where
      apart : (others : List S) → AllByRecursion (λ other. same s other ≡ false) others → AllByRecursion (λ other. finer s other ≡ false) others
      apart [] k = tt
      apart (other ∷ others) k = (less s other k.0, apart others k.1)

  -- ---- how many

  pub count-join : (test : S → Bool) (f g : Forest S K) → count test (join f g) ≡ count test f + count test g
  unfolding count join
  count-join test leaf g = sym (zero-add (count test g))
  count-join test (node s ks c n) g =
      ap (λ rest. cond (test s) 1 0 + (count test c + rest)) (count-join test n g) ∙ sums (cond (test s) 1 0) (count test c) (count test n) (count test g)
    where
      sums : (a b c d : ℕ) → a + (b + (c + d)) ≡ (a + (b + c)) + d
      sums a b c d = omega arith

  -- other steps keep a fact that holds of them too
  pub Every-renamed : (P : S → List K → Type 0) (new : S → S) → ((step : S) (keys : List K) → P step keys → P (new step) keys) → (f : Forest S K) → Every P f → Every P (renamed new f)
  unfolding Every renamed
  Every-renamed P new stays leaf h = tt
  Every-renamed P new stays (node s ks c n) h = (stays s ks h.0, h.1, Every-renamed P new stays n h.2)

  -- siblings that are replaced keep a fact that holds of those that replace them
  pub Every-replaced : (P : S → List K → Type 0) (test : S → Bool) (made : S → Tree S K → Forest S K) → ((step : S) (tree : Tree S K) → P step tree.keys → Every P tree.below → Every P (made step tree)) → (f : Forest S K) → Every P f → Every P (replaced test made f)
  unfolding Every replaced
  Every-replaced P test made holds leaf h = tt
  Every-replaced P test made holds (node s ks c n) h =
      cases (test s) (Every-replaced P test made holds n h.2)
    where
      cases : (b : Bool) → Every P (replaced test made n) → Every P (cond b (join (made s (record { keys = ks; below = c })) (replaced test made n)) (node s ks c (replaced test made n)))
      cases true rest = Every-join P (made s (record { keys = ks; below = c })) (replaced test made n) (holds s (record { keys = ks; below = c }) h.0 h.1) rest
      cases false rest = (h.0, h.1, rest)

  -- other steps that the test doesn't tell apart are counted as before
  pub count-renamed : (test : S → Bool) (new : S → S) → ((step : S) → test (new step) ≡ test step) → (f : Forest S K) → count test (renamed new f) ≡ count test f
  unfolding count renamed
  count-renamed test new stays leaf = refl
  count-renamed test new stays (node s ks c n) =
      ap₂ (λ b k. cond b 1 0 + (count test c + k)) (stays s) (count-renamed test new stays n)
