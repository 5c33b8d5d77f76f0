-- A description has one first fault at most, and none where it is derived.
use Rattle.std.proofs.Common.{◌≡◌, List, [], ◌∷◌, ◌++◌, Option, None, Some, sym, ap, ◌∙◌, subst, arith}
use Rattle.std.specs.List.{AllByRecursion}
use Rattle.derived_rows.specs.Dependence.{IsFirstOnCircle, IsOnCircle}
use Rattle.derived_rows.specs.Faults.{Fault, missing_parent, derive_cycle, too_deep, too_many, IsFault, IsFaultless, IsOrdered, first_deep, first_missing}
use Rattle.derived_rows.specs.Sources.{source_names}
use Rattle.derived_rows.proofs.Circles.{ends-stand}
use Rattle.pac_base.specs.declared.path.Step.{Step as Written}
use Rattle.svd_model.specs.Keys.{Key}
use Rattle.svd_model.specs.Steps.{Step}
use Rattle.svd_rows.specs.Rows.{Row}

not_both : {X P : Type 0} (found : Option X) (x : X) → found ≡ Some x → found ≡ None → P
not_both found x some none = absurd cc

one_some : {X : Type 0} (found : Option X) (x y : X) → found ≡ Some x → found ≡ Some y → x ≡ y
one_some found x y is also = let same : Some x ≡ Some y = sym is ∙ also in cc

-- the first of a list that passes a test, where none before it does
first_one : (P : List Step → Type 0) (before others : List (List Step)) (after rest : List (List Step)) (path other : List Step) → before ++ (path ∷ after) ≡ others ++ (other ∷ rest)
    → P path → AllByRecursion (λ p. P p → ⊥) before → P other → AllByRecursion (λ p. P p → ⊥) others → path ≡ other
first_one P [] [] after rest path other same is none also nothing = cc
first_one P [] (x ∷ others) after rest path other same is none also nothing = let head : path ≡ x = cc in absurd (nothing.0 (subst P head is))
first_one P (x ∷ before) [] after rest path other same is none also nothing = let head : other ≡ x = cc in absurd (none.0 (subst P head also))
first_one P (x ∷ before) (y ∷ others) after rest path other same is none also nothing =
    let tails : before ++ (path ∷ after) ≡ others ++ (other ∷ rest) = cc in
    first_one P before others after rest path other tails is none.1 also nothing.1

module _ (all : List (Row Step Key)) where
  missing_ordered : {P : Type 0} (path : List Step) → first_missing all ≡ Some path → IsOrdered all → P
  missing_ordered path missing ordered = not_both (first_missing all) path missing ordered.sources

  circle_ordered : {P : Type 0} (path : List Step) → IsOnCircle all path → IsOrdered all → P
  circle_ordered path circle ordered = absurd (ordered.no_circle path (ends-stand all path circle.0 path circle.1) circle)

  same_path_on : (path other : List Step) → IsFirstOnCircle all path → IsFirstOnCircle all other → path ≡ other
  same_path_on path other is also = first_one (IsOnCircle all) is.before also.before is.after also.after path other (sym is.stands ∙ also.stands) is.circle is.first also.circle also.first

  same_missing : (path other : List Step) (names more : List Written) → first_missing all ≡ Some path → source_names all path ≡ Some names → first_missing all ≡ Some other → source_names all other ≡ Some more
      → missing_parent path names ≡ missing_parent other more
  same_missing path other names more is named also renamed =
      let one : path ≡ other = one_some (first_missing all) path other is also in
      let words : names ≡ more = one_some (source_names all other) names more (subst (λ (p : List Step). source_names all p ≡ Some names) one named) renamed in
      cc

  pub one_fault : (one other : Fault) → IsFault all one → IsFault all other → one ≡ other
  one_fault (missing_parent path names) (missing_parent other more) is also = same_missing path other names more is.0 is.1 also.0 also.1
  one_fault (missing_parent path names) (derive_cycle other) is also = not_both (first_missing all) path is.0 also.0
  one_fault (missing_parent path names) (too_deep other) is also = missing_ordered path is.0 also.0
  one_fault (missing_parent path names) (too_many count) is also = missing_ordered path is.0 also.0
  one_fault (derive_cycle path) (missing_parent other more) is also = not_both (first_missing all) other also.0 is.0
  one_fault (derive_cycle path) (derive_cycle other) is also = ap derive_cycle (same_path_on path other is.1 also.1)
  one_fault (derive_cycle path) (too_deep other) is also = circle_ordered path is.1.circle also.0
  one_fault (derive_cycle path) (too_many count) is also = circle_ordered path is.1.circle also.0
  one_fault (too_deep path) (missing_parent other more) is also = missing_ordered other also.0 is.0
  one_fault (too_deep path) (derive_cycle other) is also = circle_ordered other also.1.circle is.0
  one_fault (too_deep path) (too_deep other) is also = ap too_deep (one_some (first_deep all) path other is.1 also.1)
  one_fault (too_deep path) (too_many count) is also = not_both (first_deep all) path is.1 also.1
  one_fault (too_many count) (missing_parent other more) is also = missing_ordered other also.0 is.0
  one_fault (too_many count) (derive_cycle other) is also = circle_ordered other also.1.circle is.0
  one_fault (too_many count) (too_deep other) is also = not_both (first_deep all) other also.1 is.1
  one_fault (too_many count) (too_many other) is also = ap too_many (is.3 ∙ sym also.3)

  pub no_fault : (fault : Fault) → IsFaultless all → IsFault all fault → ⊥
  no_fault (missing_parent path names) fine is = missing_ordered path is.0 fine.ordered
  no_fault (derive_cycle path) fine is = circle_ordered path is.1.circle fine.ordered
  no_fault (too_deep path) fine is = not_both (first_deep all) path is.1 fine.shallow
  no_fault (too_many count) fine is = let few = fine.few in let many = is.2 in omega (arith, few, many)
