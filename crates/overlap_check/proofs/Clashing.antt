-- The first clash, step by step as the code looks for it.
use Rattle.std.proofs.Common.{◌≡◌, ℕ, ◌+◌, ◌<◌, ◌≤◌, true, cond, List, [], ◌∷◌, ◌++◌, length, drop, get_or, map, Option, None, Some, option_map, refl, sym, ap, ap₂, ◌∙◌}
use Rattle.std.specs.Str.{bytes_eq}
use Rattle.std.proofs.lemmas.List.{drop_more}
use Rattle.std.proofs.Math.ListN.{drop_of_length-le}
use Rattle.overlap_check.specs.declared.clash.Clash.{Clash}
use Rattle.overlap_check.specs.Meetings.{met, alone, clash_named, first_clash, earlier, seen_too}
use Rattle.overlap_check.specs.Walks.{or_else}
use Rattle.svd_model.specs.declared.device.Child.{Child}
use Rattle.svd_model.specs.declared.device.Child.TheOpen.{Child-F}
use Rattle.svd_model.specs.declared.device.Child.TheOpen as opened
use Rattle.svd_model.specs.declared.device.Child.TheFolds.{fold_out-Child}
use Rattle.svd_model.specs.declared.device.Item.{Item}
use Rattle.svd_model.specs.Checking.{is_named}
use Rattle.svd_model.specs.Keys.{Key}
use Rattle.svd_model.specs.Steps.{Step, Kind, set, value}
use Rattle.svd_model.specs.Trees.{child_tree, item_under, child_layer, cluster_layer, item_layer, numbered, set_tree, value_tree}
use Rattle.svd_model.specs.declared.device.Values.{Values}
use Rattle.svd_model.specs.declared.device.Variant.{Variant}
use Rattle.svd_model.proofs.Trees.{item_under-is}
use Rattle.svd_rows.specs.Forest.{Forest, Tree, siblings}
use Rattle.svd_values.specs.AccessorNames.{accessor_name}

-- the next of a slice, and those behind it
pub next_of : {A : Type 0} (xs : List A) (i : ℕ) (x : A) → i < length xs → x ≡ get_or xs i x → drop i xs ≡ x ∷ drop (i + 1) xs
next_of xs i x within is = drop_more xs i x within ∙ ap (λ y. y ∷ drop (i + 1) xs) (sym is)

layer-named : (layer : Child-F (Kind × Tree Step Key) (Tree Step Key) (Step × Tree Step Key)) → is_named (child_layer layer).0 ≡ true
layer-named (opened.Cluster tree) = refl
layer-named (opened.Register element) = refl

child-named : (child : Child) → is_named (child_tree child).0 ≡ true
unfolding child_tree
child-named child =
    rw (fold_out-Child (Kind × Tree Step Key) (Tree Step Key) (Step × Tree Step Key) child_layer cluster_layer item_layer child) (layer-named _)

-- a child has an accessor
pub item-named : (item : Item) → is_named (item_under item).0.kind ≡ true
item-named item = ap (λ (x : Step × Tree Step Key). is_named x.0.kind) (item_under-is item) ∙ child-named item.child

pub item-below : (item : Item) → (item_under item).1.below ≡ (child_tree item.child).1.below
item-below item = ap (λ (x : Step × Tree Step Key). x.1.below) (item_under-is item)

-- ---- the next sibling

by_parts : (seen : List (List ℕ × List ℕ)) (step : Step) (below : Forest Step Key) (name : List ℕ) (rest : List (List ℕ × List ℕ) → Option Clash) → is_named step.kind ≡ true → step.name ≡ name → or_else (option_map (λ first. alone first step.name) (earlier step seen)) (or_else (clash_named step.name (first_clash [] below)) (rest (seen_too step seen))) ≡ or_else (option_map (λ first. alone first name) (met name seen)) (or_else (clash_named name (first_clash [] below)) (rest (seen ++ (accessor_name name, name) ∷ [])))
by_parts seen step below name rest named is =
    ap (λ b. or_else (option_map (λ first. alone first step.name) (cond b (met step.name seen) None)) (or_else (clash_named step.name (first_clash [] below)) (rest (cond b (seen ++ (accessor_name step.name, step.name) ∷ []) seen)))) named
    ∙ ap (λ n. or_else (option_map (λ first. alone first n) (met n seen)) (or_else (clash_named n (first_clash [] below)) (rest (seen ++ (accessor_name n, n) ∷ [])))) is

module _ {A : Type 0} (under : A → Step × Tree Step Key) (all : List A) (x : A) (others : List A) (seen : List (List ℕ × List ℕ)) (name : List ℕ) (below : Forest Step Key) where
  -- the next sibling, its name, and what is below it
  pub record Next : Type 0 where
    pub next : all ≡ x ∷ others
    pub named : is_named (under x).0.kind ≡ true
    pub name_is : (under x).0.name ≡ name
    pub below_is : (under x).1.below ≡ below

  parts : Next → first_clash seen (siblings (map under all)) ≡ or_else (option_map (λ first. alone first name) (met name seen)) (or_else (clash_named name (first_clash [] below)) (first_clash (seen ++ (accessor_name name, name) ∷ []) (siblings (map under others))))
  unfolding first_clash siblings
  parts here =
      ap (λ list. first_clash seen (siblings (map under list))) here.next
      ∙ by_parts seen (under x).0 (under x).1.below name (λ kept. first_clash kept (siblings (map under others))) here.named here.name_is
      ∙ ap (λ f. or_else (option_map (λ first. alone first name) (met name seen)) (or_else (clash_named name (first_clash [] f)) (first_clash (seen ++ (accessor_name name, name) ∷ []) (siblings (map under others))))) here.below_is

  -- it clashes with one before it
  pub clashes-here : (first : List ℕ) → Next → met name seen ≡ Some first → first_clash seen (siblings (map under all)) ≡ Some (alone first name)
  clashes-here first here is =
      parts here ∙ ap (λ o. or_else (option_map (λ f. alone f name) o) (or_else (clash_named name (first_clash [] below)) (first_clash (seen ++ (accessor_name name, name) ∷ []) (siblings (map under others))))) is

  -- two below it clash
  pub clashes-below : (clash : Clash) → Next → met name seen ≡ None → clash_named name (first_clash [] below) ≡ Some clash → first_clash seen (siblings (map under all)) ≡ Some clash
  clashes-below clash here none is =
      parts here
      ∙ ap₂ (λ o c. or_else (option_map (λ f. alone f name) o) (or_else c (first_clash (seen ++ (accessor_name name, name) ∷ []) (siblings (map under others))))) none is

  -- neither: those behind it decide
  pub clashes-behind : (kept : List (List ℕ × List ℕ)) → Next → met name seen ≡ None → clash_named name (first_clash [] below) ≡ None → kept ≡ seen ++ (accessor_name name, name) ∷ [] → first_clash seen (siblings (map under all)) ≡ first_clash kept (siblings (map under others))
  clashes-behind kept here none is more =
      parts here
      ∙ ap₂ (λ o c. or_else (option_map (λ f. alone f name) o) (or_else c (first_clash (seen ++ (accessor_name name, name) ∷ []) (siblings (map under others))))) none is
      ∙ ap (λ k. first_clash k (siblings (map under others))) (sym more)

module _ {A : Type 0} (under : A → Step × Tree Step Key) (seen : List (List ℕ × List ℕ)) where
  -- none is left
  pub clashes-none : (all : List A) → all ≡ [] → first_clash seen (siblings (map under all)) ≡ None
  unfolding first_clash siblings
  clashes-none all is = ap (λ list. first_clash seen (siblings (map under list))) is

  pub clashes-none_left : (xs : List A) (i : ℕ) → length xs ≤ i → first_clash seen (siblings (map under (drop i xs))) ≡ None
  clashes-none_left xs i past = clashes-none (drop i xs) (drop_of_length-le xs {i = i} past)

-- ---- sets and values have no accessors

values-free : (seen : List (List ℕ × List ℕ)) (n : ℕ) (all : List Variant) → first_clash seen (numbered value n (map value_tree all)) ≡ None
unfolding first_clash numbered
values-free seen n [] = refl
values-free seen n (x ∷ xs) = values-free seen (n + 1) xs

-- so nothing below a field clashes
pub sets-free : (seen : List (List ℕ × List ℕ)) (n : ℕ) (all : List Values) → first_clash seen (numbered set n (map set_tree all)) ≡ None
unfolding first_clash numbered
sets-free seen n [] = refl
sets-free seen n (x ∷ xs) =
    ap (λ o. or_else (clash_named (Rattle.std.specs.Prelude.unwrap_or x.name []) o) (first_clash seen (numbered set (n + 1) (map set_tree xs)))) (values-free [] 0 x.items.items)
    ∙ sets-free seen (n + 1) xs
