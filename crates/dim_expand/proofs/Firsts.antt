-- The first element at fault, step by step as the code looks for it.
use Rattle.std.proofs.Common.{◌≡◌, ℕ, ◌+◌, ◌<◌, ◌≤◌, true, List, [], ◌∷◌, length, drop, get_or, map, Option, None, Some, unwrap_or, refl, sym, ap, ap₂, ◌∙◌, subst, IfOk, Result, if◌then◌else◌}
use Rattle.std.specs.Option.{option_or}
use Rattle.std.proofs.Math.ListN.{drop_of_length-le}
use Rattle.std.proofs.lemmas.List.{drop_more}
use Rattle.dim_expand.specs.declared.fault.Cause.{Cause}
use Rattle.dim_expand.specs.declared.walk.Found.{Found}
use Rattle.dim_expand.specs.Causes.{cause_at, dim_cause, stated_index}
use Rattle.dim_expand.specs.Groups.{HasDim}
use Rattle.dim_expand.specs.Marks.{has_dimension, is_marked}
use Rattle.dim_expand.specs.Walks.{first_in, first_at, first_below, named, found_here}
use Rattle.dim_expand.proofs.Stated.{field-dim}
use Rattle.svd_model.specs.declared.device.Dim.{Dim}
use Rattle.svd_model.specs.declared.device.Field.{Field}
use Rattle.svd_model.specs.declared.device.Values.{Values}
use Rattle.svd_model.specs.declared.device.Variant.{Variant}
use Rattle.svd_model.specs.declared.sibling.Sibling.{Sibling}
use Rattle.svd_model.specs.Keys.{Key}
use Rattle.svd_model.specs.Stating.{value_of, stated_dim}
use Rattle.svd_model.specs.Steps.{Step, Kind, field, set, value}
use Rattle.svd_model.specs.Trees.{field_under, field_places, numbered, set_tree, value_tree}
use Rattle.svd_rows.specs.Forest.{Tree, siblings}
use Rattle.svd_rows.specs.Ranks.{stated}

-- what is found is the same under an equal word
pub found_as : {A E : Type 0} (result : Result A E) (x y : A) → x ≡ y → IfOk result (λ found. found ≡ x) → IfOk result (λ found. found ≡ y)
found_as result x y e h = subst (λ z. IfOk result (λ found. found ≡ z)) e h

-- what is wrong with an element is told by its name and its dimension
pub cause-says : (kind : Kind) (name : List ℕ) (keys : List Key) (dim : Dim) → has_dimension kind ≡ true → HasDim keys dim → cause_at kind name keys ≡ dim_cause (is_marked name) dim.count dim.index
unfolding cause_at
cause-says kind name keys dim may says =
    ap (λ b. if b then dim_cause (is_marked name) (value_of stated_dim keys) (value_of stated_index keys) else None) may
    ∙ ap₂ (λ c i. dim_cause (is_marked name) c i) says.count says.index

-- an element that is itself at fault
pub found_itself : (kind : Kind) (name : List ℕ) (tree : Tree Step Key) (cause : Cause) (found : Found) → cause_at kind name tree.keys ≡ Some cause → found.inner ≡ [] → found.cause ≡ cause → Some found ≡ first_below kind name tree
found_itself kind name tree cause found is inner causes =
    (λ i. Some (record { inner = inner i; cause = causes i })) ∙ sym (ap (λ c. found_here c (first_in tree.below)) is)

-- an element that isn't: those below it decide
pub found_below : (kind : Kind) (name : List ℕ) (tree : Tree Step Key) → cause_at kind name tree.keys ≡ None → first_below kind name tree ≡ first_in tree.below
found_below kind name tree is = ap (λ c. found_here c (first_in tree.below)) is

-- the first sibling and those behind it
pub first_in-siblings : (x : Step × Tree Step Key) (xs : List (Step × Tree Step Key)) → first_in (siblings (x ∷ xs)) ≡ option_or (first_at x) (first_in (siblings xs))
unfolding first_in siblings
first_in-siblings x xs = refl

or_none : {A : Type 0} (o other : Option A) → o ≡ None → option_or o other ≡ other
or_none o other e = ap (λ x. option_or x other) e

module _ {A : Type 0} (under : A → Step × Tree Step Key) where
  -- where the next element has nothing, those behind it decide
  pub passed : (x : A) (xs : List A) → first_at (under x) ≡ None → first_in (siblings (map under (x ∷ xs))) ≡ first_in (siblings (map under xs))
  passed x xs e = first_in-siblings (under x) (map under xs) ∙ or_none (first_at (under x)) _ e

  -- where it has something, that is the first
  pub stopped : (x : A) (xs : List A) (found : Found) → first_at (under x) ≡ Some found → first_in (siblings (map under (x ∷ xs))) ≡ Some found
  stopped x xs found e = first_in-siblings (under x) (map under xs) ∙ ap (λ o. option_or o (first_in (siblings (map under xs)))) e

  -- the same at an index of a slice
  pub passed-at : (xs : List A) (i : ℕ) (x : A) → i < length xs → x ≡ get_or xs i x → first_at (under x) ≡ None → first_in (siblings (map under (drop i xs))) ≡ first_in (siblings (map under (drop (i + 1) xs)))
  passed-at xs i x within is e =
      ap (λ rest. first_in (siblings (map under rest))) (drop_more xs i x within ∙ ap (λ y. y ∷ drop (i + 1) xs) (sym is)) ∙ passed x (drop (i + 1) xs) e

  pub stopped-at : (xs : List A) (i : ℕ) (x : A) (found : Found) → i < length xs → x ≡ get_or xs i x → first_at (under x) ≡ Some found → first_in (siblings (map under (drop i xs))) ≡ Some found
  stopped-at xs i x found within is e =
      ap (λ rest. first_in (siblings (map under rest))) (drop_more xs i x within ∙ ap (λ y. y ∷ drop (i + 1) xs) (sym is)) ∙ stopped x (drop (i + 1) xs) found e

  -- where none is left, nothing is found
  pub none_left : (xs : List A) (i : ℕ) → length xs ≤ i → first_in (siblings (map under (drop i xs))) ≡ None
  unfolding first_in siblings
  none_left xs i past = ap (λ rest. first_in (siblings (map under rest))) (drop_of_length-le xs {i = i} past)

  pub nothing_left : (xs : List A) → xs ≡ [] → first_in (siblings (map under xs)) ≡ None
  unfolding first_in siblings
  nothing_left xs is = ap (λ rest. first_in (siblings (map under rest))) is

-- ---- sets and values have no dimension

values-pass : (n : ℕ) (all : List Variant) → first_in (numbered value n (map value_tree all)) ≡ None
unfolding first_in numbered cause_at
values-pass n [] = refl
values-pass n (x ∷ xs) = values-pass (n + 1) xs

pub sets-pass : (n : ℕ) (all : List Values) → first_in (numbered set n (map set_tree all)) ≡ None
unfolding first_in numbered cause_at
sets-pass n [] = refl
sets-pass n (x ∷ xs) =
    ap (λ o. option_or (named (unwrap_or x.name []) o) (first_in (numbered set (n + 1) (map set_tree xs)))) (values-pass 0 x.items.items)
    ∙ sets-pass (n + 1) xs

-- ---- a field

pub field-first : (key : Sibling) (element : Field) → first_at (field_under (key, element)) ≡ named key.name (found_here (dim_cause (is_marked key.name) element.dim.count element.dim.index) None)
field-first key element =
    ap₂ (λ cause rest. named key.name (found_here cause rest))
    (cause-says field key.name (stated (field_places element)) element.dim refl (field-dim element))
    (sets-pass 0 element.values.items)
