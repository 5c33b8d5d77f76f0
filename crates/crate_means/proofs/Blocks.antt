-- The block that is emitted for checked siblings stands for them.
use Rattle.std.proofs.Common.{ℕ, ◌≡◌, ◌+◌, ◌*◌, Bool, true, false, ◌||◌, ◌⊎◌, inl, inr, List, Option, Some, None, option_map, refl, sym, ap, subst, ◌∙◌, arith}
use Rattle.std.specs.Prelude.{unwrap_or}
use Rattle.std.specs.List.{AllByRecursion}
use Rattle.std.proofs.lemmas.Bool.{false≢true}
use Rattle.block_form.specs.declared.child.Array.{Array}
use Rattle.block_form.specs.declared.child.Child.{Child}
use Rattle.block_form.specs.Children.{child_count, child_place, element_of, place_in}
use Rattle.block_form.specs.Forms.{access_of, accessors_for, is_named as has_field, taken_of}
use Rattle.block_form.specs.Laws.{LeadsTo}
use Rattle.block_form.proofs.Standing.{accessors_lead}
use Rattle.frag_tree.specs.Trees.{BlockTree}
use Rattle.frag_sem.specs.CallPlaces.{admits}
use Rattle.frag_sem.specs.Modules.{are_distinct_names}
use Rattle.frag_sem.specs.Modules as frag
use Rattle.reg_table.specs.Walk.{props_inside}
use Rattle.svd_model.specs.declared.props.Props.{Props}
use Rattle.svd_model.specs.Keys.{Key}
use Rattle.svd_model.specs.Stating.{value_of, stated_base, stated_dim, stated_increment, stated_offset, is_of, start_of}
use Rattle.svd_model.specs.Steps.{Kind, Step, cluster, peripheral, register, same_kind}
use Rattle.svd_rows.specs.Forest.{Forest, leaf, node}
use Rattle.checked_tree.specs.Blocks.{AreInBlock, InBlock, IsChild}
use Rattle.checked_tree.specs.Names.{AreSiblings}
use Rattle.checked_tree.specs.Registers.{RegisterIsChecked}
use Rattle.crate_form.specs.Children.{array_of, child_by, children_of}
use Rattle.crate_form.specs.Modules.{block_of, module_by, modules_of}
use Rattle.crate_fits.proofs.Children.{child-name, names-are, no-gaps}
use Rattle.crate_fits.proofs.Extents.{are-known}
use Rattle.crate_fits.proofs.Found.{AreFound, are-found}
use Rattle.crate_means.specs.BlockIs.{BlockIs, ChildIs, EachIs, ModuleIs}
use Rattle.crate_means.specs.RegisterIs.{RegisterIs}
use Rattle.crate_means.proofs.Registers.{register_is}

-- ---- places

count-same : (dim increment : Option ℕ) → option_map (λ (array : Array). array.count) (array_of dim increment) ≡ dim
count-same None increment = refl
count-same (Some count) increment = refl

none-before : (offset behind : ℕ) → offset + behind ≡ 0 + offset + behind
none-before offset behind = omega arith

place-same : (base : Option ℕ) → base ≡ None → (offset : ℕ) (dim increment index : Option ℕ) → admits dim index ≡ true → place_in offset (array_of dim increment) index ≡ unwrap_or base 0 + offset + unwrap_or index 0 * unwrap_or increment 0
place-same base none offset None increment None h =
    let here : offset ≡ 0 + offset + 0 * unwrap_or increment 0 = omega arith in
    here ∙ ap (λ base. unwrap_or base 0 + offset + 0 * unwrap_or increment 0) (sym none)
place-same base none offset None increment (Some index) h = absurd (false≢true h)
place-same base none offset (Some count) increment index h = none-before offset (unwrap_or index 0 * unwrap_or increment 0) ∙ ap (λ base. unwrap_or base 0 + offset + unwrap_or index 0 * unwrap_or increment 0) (sym none)

child-count : (b : Bool) (props : Props) (step : Step) (keys : List Key) (inside : List Child) → child_count (child_by b props step keys inside) ≡ value_of stated_dim keys
child-count true props step keys inside = count-same (value_of stated_dim keys) (value_of stated_increment keys)
child-count false props step keys inside = count-same (value_of stated_dim keys) (value_of stated_increment keys)

child-placed : (b : Bool) (props : Props) (step : Step) (keys : List Key) (inside : List Child) → value_of stated_base keys ≡ None → (index : Option ℕ) → admits (value_of stated_dim keys) index ≡ true → child_place (child_by b props step keys inside) index ≡ start_of keys index
child-placed true props step keys inside none index h = place-same (value_of stated_base keys) none (unwrap_or (value_of stated_offset keys) 0) (value_of stated_dim keys) (value_of stated_increment keys) index h
child-placed false props step keys inside none index h = place-same (value_of stated_base keys) none (unwrap_or (value_of stated_offset keys) 0) (value_of stated_dim keys) (value_of stated_increment keys) index h

-- ---- siblings and accessors

-- a register or a cluster is named
named-by : (kind : Kind) → (kind ≡ register) ⊎ (kind ≡ cluster) → (same_kind peripheral kind || (same_kind cluster kind || same_kind register kind)) ≡ true
named-by kind (inl is) = subst (λ kind. (same_kind peripheral kind || (same_kind cluster kind || same_kind register kind)) ≡ true) (sym is) refl
named-by kind (inr is) = subst (λ kind. (same_kind peripheral kind || (same_kind cluster kind || same_kind register kind)) ≡ true) (sym is) refl

-- accessors that lead to their children
abbrev AllLead : BlockTree → List Child → List Child → Type 0
AllLead unit taken children = AllByRecursion (λ child. LeadsTo unit child (access_of (has_field child.name taken) child)) children

abbrev Each : Props → Forest Step Key → Type 0
Each outer f = (unit : BlockTree) (taken : List Child) → AllLead unit taken (children_of outer f) → AreFound (λ wanted. frag.module_of wanted unit.inside) outer f → AreInBlock outer f → EachIs outer f unit (accessors_for taken (children_of outer f))

block-from : (outer : Props) (f : Forest Step Key) → Each outer f → (step : Step) → AreSiblings f → AreInBlock outer f → BlockIs outer f (block_of outer step f)
block-from outer f each step siblings are = record {
  distinct = siblings.names;
  each =
      each (block_of outer step f) (taken_of (children_of outer f))
      (accessors_lead (block_of outer step f) (children_of outer f) (ap are_distinct_names (names-are outer f) ∙ siblings.names) (no-gaps outer f are) (are-known outer f siblings are) refl)
      (are-found outer f siblings.names) are;
}

child-is : (b : Bool) (props : Props) (unit : BlockTree) (taken : List Child) (step : Step) (keys : List Key) (below : Forest Step Key) → Each props below → IsChild step keys
    → InBlock b (RegisterIsChecked props keys below) (AreSiblings below × AreInBlock props below)
    → LeadsTo unit (child_by b props step keys (children_of props below)) (access_of (has_field (child_by b props step keys (children_of props below)).name taken) (child_by b props step keys (children_of props below)))
    → frag.module_of (element_of (child_by b props step keys (children_of props below))) unit.inside ≡ Some (module_by b props step keys below (modules_of props below))
    → ChildIs unit step keys (ModuleIs b (RegisterIs props keys below) (BlockIs props below)) (access_of (has_field (child_by b props step keys (children_of props below)).name taken) (child_by b props step keys (children_of props below)))
child-is b props unit taken step keys below each is checked leads stands = record {
  named = named-by step.kind is.kind;
  name = child-name b props step keys (children_of props below);
  count = leads.count ∙ child-count b props step keys (children_of props below);
  place = λ index h. leads.place index (ap (λ count. admits count index) (child-count b props step keys (children_of props below)) ∙ h) ∙ child-placed b props step keys (children_of props below) is.no_base index h;
  inner = module_by b props step keys below (modules_of props below);
  stands = stands;
  inner_is = by b checked;
}
  where
    by : (b : Bool) → InBlock b (RegisterIsChecked props keys below) (AreSiblings below × AreInBlock props below) → ModuleIs b (RegisterIs props keys below) (BlockIs props below) (module_by b props step keys below (modules_of props below))
    by true checked = register_is props step keys below checked
    by false checked = block-from props below each step checked.0 checked.1

each-is : (outer : Props) (f : Forest Step Key) → Each outer f
unfolding children_of AreFound AreInBlock EachIs
each-is outer leaf unit taken lead stand are = tt
each-is outer (node step keys below others) unit taken lead stand are = (
  child-is (is_of register step) (props_inside keys outer) unit taken step keys below (each-is (props_inside keys outer) below) are.0 are.1 lead.0 stand.0,
  each-is outer others unit taken lead.1 stand.1 are.2,
)

-- The block that is emitted for checked siblings stands for them.
pub block_is : (outer : Props) (f : Forest Step Key) (step : Step) → AreSiblings f → AreInBlock outer f → BlockIs outer f (block_of outer step f)
block_is outer f step siblings are = block-from outer f (each-is outer f) step siblings are
