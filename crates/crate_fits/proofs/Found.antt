-- In a block in which no two elements have one accessor, each child finds its module by its element.
use Rattle.std.proofs.Common.{◌≡◌, Bool, true, false, cond, not, List, ◌∷◌, Option, Some, refl, sym, ap, ◌∙◌, subst, bytes_eq}
use Rattle.std.specs.Prelude.{⊤}
use Rattle.std.specs.List.{list_any}
use Rattle.std.proofs.lemmas.Bool.{or_parts}
use Rattle.block_form.specs.declared.child.Child.{Child}
use Rattle.block_form.specs.Children.{element_of}
use Rattle.block_form.proofs.Extents.{other_element, same_self}
use Rattle.checked_tree.specs.Names.{accessor_names}
use Rattle.crate_form.specs.Children.{child_by, child_of, children_of}
use Rattle.crate_form.specs.Modules.{module_by, module_of, modules_of}
use Rattle.crate_fits.proofs.Children.{child-name}
use Rattle.frag_sem.specs.Modules.{are_distinct, are_distinct_names, beside, modules_of as entries_of}
use Rattle.frag_sem.proofs.Lists.{both_true, turned}
use Rattle.frag_tree.specs.declared.block.Element.{Element}
use Rattle.frag_tree.specs.Trees.{Modules, ModuleTree, before}
use Rattle.reg_table.specs.Walk.{props_inside}
use Rattle.svd_model.specs.declared.props.Props.{Props}
use Rattle.svd_model.specs.Keys.{Key}
use Rattle.svd_model.specs.Stating.{is_of}
use Rattle.svd_model.specs.Steps.{Step, register}
use Rattle.svd_rows.specs.Forest.{Forest, leaf, node, steps}

-- the module of an element, and its child
abbrev pub module_here : Props → Step → List Key → Forest Step Key → ModuleTree
module_here outer step keys below = module_of (props_inside keys outer) step keys below (modules_of (props_inside keys outer) below)

abbrev pub child_here : Props → Step → List Key → Forest Step Key → Child
child_here outer step keys below = child_of (props_inside keys outer) step keys (children_of (props_inside keys outer) below)

-- each of the elements finds its module
unfoldable pub AreFound : (Element → Option ModuleTree) → Props → Forest Step Key → Type 0
AreFound look outer leaf = ⊤
AreFound look outer (node step keys below others) = (look (element_of (child_here outer step keys below)) ≡ Some (module_here outer step keys below)) × AreFound look outer others

-- the entry of a module in front of others
entry-is : (b : Bool) (props : Props) (step : Step) (keys : List Key) (below : Forest Step Key) (others : Modules) → entries_of (before (module_by b props step keys below (modules_of props below)) others) ≡ (element_of (child_by b props step keys (children_of props below)), module_by b props step keys below (modules_of props below)) ∷ entries_of others
unfolding entries_of
entry-is true props step keys below others = refl
entry-is false props step keys below others = refl

-- with one more in front that none of them is called as
found-more : (first : Child) (unit : ModuleTree) (rest : List (Element × ModuleTree)) (outer : Props) (f : Forest Step Key) → list_any (bytes_eq first.name) (accessor_names f) ≡ false → AreFound (λ wanted. beside wanted rest) outer f → AreFound (λ wanted. beside wanted ((element_of first, unit) ∷ rest)) outer f
unfolding AreFound steps
found-more first unit rest outer leaf apart found = tt
found-more first unit rest outer (node step keys below others) apart found =
    let child = child_here outer step keys below in
    let parts = or_parts (bytes_eq first.name (Rattle.svd_values.specs.AccessorNames.accessor_name step.name)) (list_any (bytes_eq first.name) (accessor_names others)) apart in
    let differ : bytes_eq child.name first.name ≡ false = turned first.name child.name (ap (bytes_eq first.name) (child-name (is_of register step) (props_inside keys outer) step keys (children_of (props_inside keys outer) below)) ∙ parts.0) in
    (ap (λ b. cond b (Some unit) (beside (element_of child) rest)) (other_element child first differ) ∙ found.0, found-more first unit rest outer others parts.1 found.1)

pub are-found : (outer : Props) (f : Forest Step Key) → are_distinct_names (accessor_names f) ≡ true → AreFound (λ wanted. beside wanted (entries_of (modules_of outer f))) outer f
unfolding AreFound are_distinct modules_of steps
are-found outer leaf distinct = tt
are-found outer (node step keys below others) distinct =
    let child = child_here outer step keys below in
    let unit = module_here outer step keys below in
    let rest = entries_of (modules_of outer others) in
    let parts = both_true (not (list_any (bytes_eq (Rattle.svd_values.specs.AccessorNames.accessor_name step.name)) (accessor_names others))) (are_distinct_names (accessor_names others)) distinct in
    let apart = ap (λ name. list_any (bytes_eq name) (accessor_names others)) (child-name (is_of register step) (props_inside keys outer) step keys (children_of (props_inside keys outer) below)) ∙ off _ parts.0 in
    subst (λ entries. AreFound (λ wanted. beside wanted entries) outer (node step keys below others)) (sym (entry-is (is_of register step) (props_inside keys outer) step keys below (modules_of outer others)))
    (ap (λ b. cond b (Some unit) (beside (element_of child) rest)) (same_self child), found-more child unit rest outer others apart (are-found outer others parts.1))
  where
    off : (b : Bool) → not b ≡ true → b ≡ false
    off true e = absurd cc
    off false e = refl
