-- The tests of fields and accessors, as they are decided by maps.
use Rattle.std.proofs.Common.{◌≡◌, ℕ, Bool, true, false, not, ◌&&◌, List, [], ◌∷◌, map, Option, Some, None, option_map, is_some, refl, ap, ◌∙◌}
use Rattle.frag_sem.specs.CallPlaces.{field_named}
use Rattle.frag_sem.specs.CrateTyping.{body_types, holds_such, is_array, is_module, is_one, module_names, names_field, names_module}
use Rattle.frag_sem.specs.Modules.{module_name, module_of, modules_of}
use Rattle.frag_tree.specs.declared.access.Access.{Access}
use Rattle.frag_tree.specs.declared.access.Body.{Body}
use Rattle.frag_tree.specs.declared.access.Body.TheVariants as body
use Rattle.frag_tree.specs.declared.block.Element.{Element}
use Rattle.frag_tree.specs.declared.block.FieldType.{FieldType}
use Rattle.frag_tree.specs.declared.block.FieldType.TheVariants as holds
use Rattle.frag_tree.specs.declared.block.StructField.{StructField}
use Rattle.frag_tree.specs.declared.block.Module.{Module}
use Rattle.frag_tree.specs.Trees.{ModuleTree, Modules, in_line, module_tree, one_block, one_register}
use Rattle.frag_rules.specs.Bodies.{body_fits, body_leads, type_leads}
use Rattle.frag_rules.specs.Elements.{element_of}
use Rattle.frag_rules.specs.Insides.{is_there}

-- a module is found just where it is there
pub is-module : (inside modules : Modules) (element : Element) (o : Option (Unit {0})) → o ≡ option_map is_there (module_of element inside) → inside ≡ modules → is_some o ≡ is_module modules element
is-module inside modules element o is same = ap is_some is ∙ (by (module_of element inside) ∙ ap (λ modules. is_module modules element) same)
  where
    by : (m : Option ModuleTree) → is_some (option_map is_there m) ≡ is_some m
    by None = refl
    by (Some tree) = refl

pub type-leads : (leads : Element → Bool) (modules : Modules) → ((element : Element) → leads element ≡ is_module modules element) → (type : FieldType) → type_leads leads type ≡ names_module modules type
type-leads leads modules same (holds.One element) = same element
type-leads leads modules same (holds.Array element count) = same element
type-leads leads modules same (holds.Gap bytes) = refl

pub body-leads : (look : List ℕ → Option StructField) (fields : List StructField) → ((name : List ℕ) → look name ≡ field_named name fields) → (at : Body) → body_leads look at ≡ names_field fields at
body-leads look fields same (body.Field field) = ap is_some (same field)
body-leads look fields same (body.Member field) = ap is_some (same field)
body-leads look fields same (body.At offset) = refl
body-leads look fields same (body.AtIndex offset stride count) = refl

pub body-fits : (look : List ℕ → Option StructField) (fields : List StructField) → ((name : List ℕ) → look name ≡ field_named name fields) → (access : Access) (at : Body) → body_fits look access at ≡ body_types fields access at
body-fits look fields same access (body.Field field) = ap (λ o. not access.is_indexed && holds_such (is_one access.element) o) (same field)
body-fits look fields same access (body.Member field) = ap (λ o. access.is_indexed && holds_such (is_array access.element) o) (same field)
body-fits look fields same access (body.At offset) = refl
body-fits look fields same access (body.AtIndex offset stride count) = refl

-- ---- distinct names

pub names-in-line : (modules : List Module) → map (λ unit. module_name (element_of (module_tree unit))) modules ≡ module_names (in_line (map module_tree modules))
unfolding in_line modules_of
names-in-line [] = refl
names-in-line (first ∷ others) = by (module_tree first) (names-in-line others)
  where
    by : (tree : ModuleTree) → map (λ unit. module_name (element_of (module_tree unit))) others ≡ module_names (in_line (map module_tree others))
        → (module_name (element_of tree) ∷ map (λ unit. module_name (element_of (module_tree unit))) others) ≡ module_names (in_line (tree ∷ map module_tree others))
    by (one_register unit) more = ap (λ names. unit.name ∷ names) more
    by (one_block unit) more = ap (λ names. unit.head.name ∷ names) more

-- in the order of the definition
pub names-together : (fields accessors modules : Bool) → ((fields && accessors) && modules) ≡ (modules && (fields && accessors))
names-together true true true = refl
names-together true true false = refl
names-together true false true = refl
names-together true false false = refl
names-together false accessors true = refl
names-together false accessors false = refl
