-- The tests of fields and accessors, by what is found by elements and by names.
use Rattle.std.specs.Prelude.{ℕ, Bool, true, not, ◌&&◌, is_some, List, Option}
use Rattle.std.specs.List.{position}
use Rattle.frag_sem.specs.CrateTyping.{holds_such, is_array, is_one}
use Rattle.frag_tree.specs.declared.access.Access.{Access}
use Rattle.frag_tree.specs.declared.access.Body.{Body}
use Rattle.frag_tree.specs.declared.access.Body.TheVariants as body
use Rattle.frag_tree.specs.declared.block.Element.{Element}
use Rattle.frag_tree.specs.declared.block.FieldType.{FieldType}
use Rattle.frag_tree.specs.declared.block.FieldType.TheVariants as holds
use Rattle.frag_tree.specs.declared.block.StructField.{StructField}

-- the first that fails a test, by how many stand before it
abbrev pub misfit : {A : Type 0} → (A → Bool) → List A → Option ℕ
misfit test items = position (λ item. not (test item)) items

abbrev pub type_leads : (Element → Bool) → FieldType → Bool
type_leads leads (holds.One element) = leads element
type_leads leads (holds.Array element count) = leads element
type_leads leads (holds.Gap bytes) = true

abbrev pub body_leads : (List ℕ → Option StructField) → Body → Bool
body_leads find_field (body.Field field) = is_some (find_field field)
body_leads find_field (body.Member field) = is_some (find_field field)
body_leads find_field (body.At offset) = true
body_leads find_field (body.AtIndex offset stride count) = true

abbrev pub body_fits : (List ℕ → Option StructField) → Access → Body → Bool
body_fits find_field access (body.Field field) = not access.is_indexed && holds_such (is_one access.element) (find_field field)
body_fits find_field access (body.Member field) = access.is_indexed && holds_such (is_array access.element) (find_field field)
body_fits find_field access (body.At offset) = not access.is_indexed
body_fits find_field access (body.AtIndex offset stride count) = access.is_indexed
