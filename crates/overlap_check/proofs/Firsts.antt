-- The first element that breaks a rule, step by step as the code looks for it.
use Rattle.std.proofs.Common.{◌≡◌, ℕ, ◌+◌, ◌<◌, ◌≤◌, true, false, cond, List, [], ◌∷◌, length, drop, get_or, map, Option, None, Some, unwrap_or, refl, sym, ap, ap₂, ◌∙◌, subst, IfOk, Result}
use Rattle.std.proofs.Math.ListN.{drop_of_length-le}
use Rattle.std.proofs.lemmas.List.{drop_more}
use Rattle.overlap_check.specs.declared.place.Place.{Place}
use Rattle.overlap_check.specs.declared.rule.Rule.{Rule}
use Rattle.overlap_check.specs.Walks.{entered, entered_by, fails, fails_field, first_in, first_at, first_below, named, or_else}
use Rattle.overlap_check.proofs.Stated.{bits_at-field, size-field}
use Rattle.pac_base.specs.declared.path.Step.{Step as Written}
use Rattle.reg_table.proofs.FieldMembers.{field-dim, field-increment}
use Rattle.svd_model.specs.declared.device.Field.{Field}
use Rattle.svd_model.specs.declared.device.Values.{Values}
use Rattle.svd_model.specs.declared.device.Variant.{Variant}
use Rattle.svd_model.specs.declared.sibling.Sibling.{Sibling}
use Rattle.svd_model.specs.Keys.{Key}
use Rattle.svd_model.specs.Stating.{value_of, stated_size}
use Rattle.svd_model.specs.Steps.{Step, Kind, set, value}
use Rattle.svd_model.specs.Trees.{field_under, field_places, numbered, set_tree, value_tree}
use Rattle.svd_rows.specs.Forest.{Tree, siblings}
use Rattle.svd_rows.specs.Ranks.{stated}

-- what is found is the same under an equal word
pub found_as : {A E : Type 0} (result : Result A E) (x y : A) → x ≡ y → IfOk result (λ found. found ≡ x) → IfOk result (λ found. found ≡ y)
found_as result x y e h = subst (λ z. IfOk result (λ found. found ≡ z)) e h

-- an element that breaks the rule itself
pub found_here : (rule : Rule) (kind : Kind) (outer place : Place) (tree : Tree Step Key) → entered tree.keys outer ≡ place → fails rule kind place tree.keys ≡ true → first_below rule kind outer tree ≡ Some []
found_here rule kind outer place tree is broken =
    ap (λ b. cond b (Some []) (first_in rule (entered tree.keys outer) tree.below)) (ap (λ p. fails rule kind p tree.keys) is ∙ broken)

-- an element that keeps it: those below it decide
pub found_below : (rule : Rule) (kind : Kind) (outer place : Place) (tree : Tree Step Key) → entered tree.keys outer ≡ place → fails rule kind place tree.keys ≡ false → first_below rule kind outer tree ≡ first_in rule place tree.below
found_below rule kind outer place tree is kept =
    ap (λ b. cond b (Some []) (first_in rule (entered tree.keys outer) tree.below)) (ap (λ p. fails rule kind p tree.keys) is ∙ kept)
    ∙ ap (λ p. first_in rule p tree.below) is

-- the first sibling and those behind it
pub first_in-siblings : (rule : Rule) (outer : Place) (x : Step × Tree Step Key) (xs : List (Step × Tree Step Key)) → first_in rule outer (siblings (x ∷ xs)) ≡ or_else (first_at rule outer x) (first_in rule outer (siblings xs))
unfolding first_in siblings
first_in-siblings rule outer x xs = refl

or_none : {A : Type 0} (o other : Option A) → o ≡ None → or_else o other ≡ other
or_none o other e = ap (λ x. or_else x other) e

module _ {A : Type 0} (under : A → Step × Tree Step Key) (rule : Rule) (outer : Place) where
  -- where the next element has nothing, those behind it decide
  pub passed : (x : A) (xs : List A) → first_at rule outer (under x) ≡ None → first_in rule outer (siblings (map under (x ∷ xs))) ≡ first_in rule outer (siblings (map under xs))
  passed x xs e = first_in-siblings rule outer (under x) (map under xs) ∙ or_none (first_at rule outer (under x)) _ e

  -- where it has something, that is the first
  pub stopped : (x : A) (xs : List A) (path : List Written) → first_at rule outer (under x) ≡ Some path → first_in rule outer (siblings (map under (x ∷ xs))) ≡ Some path
  stopped x xs path e = first_in-siblings rule outer (under x) (map under xs) ∙ ap (λ o. or_else o (first_in rule outer (siblings (map under xs)))) e

  -- the same at an index of a slice
  pub passed-at : (xs : List A) (i : ℕ) (x : A) → i < length xs → x ≡ get_or xs i x → first_at rule outer (under x) ≡ None → first_in rule outer (siblings (map under (drop i xs))) ≡ first_in rule outer (siblings (map under (drop (i + 1) xs)))
  passed-at xs i x within is e =
      ap (λ rest. first_in rule outer (siblings (map under rest))) (drop_more xs i x within ∙ ap (λ y. y ∷ drop (i + 1) xs) (sym is))
      ∙ passed x (drop (i + 1) xs) e

  pub stopped-at : (xs : List A) (i : ℕ) (x : A) (path : List Written) → i < length xs → x ≡ get_or xs i x → first_at rule outer (under x) ≡ Some path → first_in rule outer (siblings (map under (drop i xs))) ≡ Some path
  stopped-at xs i x path within is e =
      ap (λ rest. first_in rule outer (siblings (map under rest))) (drop_more xs i x within ∙ ap (λ y. y ∷ drop (i + 1) xs) (sym is))
      ∙ stopped x (drop (i + 1) xs) path e

  -- where none is left, nothing is found
  pub none_left : (xs : List A) (i : ℕ) → length xs ≤ i → first_in rule outer (siblings (map under (drop i xs))) ≡ None
  unfolding first_in siblings
  none_left xs i past = ap (λ rest. first_in rule outer (siblings (map under rest))) (drop_of_length-le xs {i = i} past)

  pub nothing_left : (xs : List A) → xs ≡ [] → first_in rule outer (siblings (map under xs)) ≡ None
  unfolding first_in siblings
  nothing_left xs is = ap (λ rest. first_in rule outer (siblings (map under rest))) is

-- ---- sets and values break no rule

values-pass : (rule : Rule) (outer : Place) (n : ℕ) (all : List Variant) → first_in rule outer (numbered value n (map value_tree all)) ≡ None
unfolding first_in numbered fails
values-pass rule outer n [] = refl
values-pass rule outer n (x ∷ xs) = values-pass rule outer (n + 1) xs

pub sets-pass : (rule : Rule) (outer : Place) (n : ℕ) (all : List Values) → first_in rule outer (numbered set n (map set_tree all)) ≡ None
unfolding first_in numbered fails
sets-pass rule outer n [] = refl
sets-pass rule outer n (x ∷ xs) =
    ap (λ o. or_else (named (unwrap_or x.name []) o) (first_in rule outer (numbered set (n + 1) (map set_tree xs)))) (values-pass rule (entered (stated (Rattle.svd_model.specs.Trees.set_places x)) outer) 0 x.items.items)
    ∙ sets-pass rule outer (n + 1) xs

-- ---- a field

size-entered : (keys : List Key) (outer : Place) → value_of stated_size keys ≡ None → (entered keys outer).size ≡ outer.size
unfolding entered entered_by
size-entered keys outer none = ap (λ o. unwrap_or o outer.size) none

-- a field breaks the rule by its bits, its members and the size that holds there
pub field-fails : (rule : Rule) (outer : Place) (key : Sibling) (element : Field) → first_at rule outer (field_under (key, element)) ≡ named key.name (cond (fails_field rule outer.size element.dim.count element.dim.step element.place) (Some []) None)
unfolding fails
field-fails rule outer key element =
    ap₂ (λ found rest. named key.name (cond found (Some []) rest))
    (λ i. fails_field rule (size-entered (stated (field_places element)) outer (size-field element) i) (field-dim element i) (field-increment element i) (bits_at-field element i))
    (sets-pass rule (entered (stated (field_places element)) outer) 0 element.values.items)
