-- The form of a block with these children.
use Rattle.std.specs.Prelude.{ℕ, ◌≡◌, Bool, true, false, List, map, Option, Some, None, is_some}
use Rattle.std.specs.Int.{next_multiple_of}
use Rattle.std.specs.List.{list_any}
use Rattle.std.specs.Str.{bytes_eq}
use Rattle.frag_tree.specs.declared.access.Access.{Access}
use Rattle.frag_tree.specs.declared.access.Body.{Body}
use Rattle.frag_tree.specs.declared.access.Body.TheVariants as body
use Rattle.frag_tree.specs.declared.block.StructField.{StructField}
use Rattle.block_form.specs.declared.child.Array.{Array}
use Rattle.block_form.specs.declared.child.Child.{Child}
use Rattle.block_form.specs.declared.form.Form.{Form}
use Rattle.block_form.specs.Children.{element_of}
use Rattle.block_form.specs.Fields.{end_from, fields_from, greatest_align, taken_from}
use Rattle.block_form.specs.Order.{IsByOffset, by_offset}

-- ---- accessors

abbrev pub names_of : List Child → List (List ℕ)
names_of children = map (λ (child : Child). child.name) children

-- one of the children has the name
abbrev pub is_named : List ℕ → List Child → Bool
is_named name children = list_any (bytes_eq name) (names_of children)

-- where an accessor finds a child: in its field where it has one, else by its offset
abbrev pub body_of : Bool → List ℕ → ℕ → Option Array → Body
body_of true name offset None = body.Field name
body_of true name offset (Some array) = body.Member name
body_of false name offset None = body.At offset
body_of false name offset (Some array) = body.AtIndex offset array.stride array.count

abbrev pub access_of : Bool → Child → Access
access_of taken child =
    record { name = child.name; is_indexed = is_some child.array; element = element_of child; body = body_of taken child.name child.offset child.array }

-- an accessor for each of the children, of which these have a field
abbrev pub accessors_for : List Child → List Child → List Access
accessors_for taken children = map (λ child. access_of (is_named child.name taken) child) children

-- ---- a block

-- the children that become fields
abbrev pub taken_of : List Child → List Child
taken_of children = taken_from 0 (by_offset children)

abbrev pub fields_of : List Child → List StructField
fields_of children = fields_from 0 0 (taken_of children)

abbrev pub accessors_of : List Child → List Access
accessors_of children = accessors_for (taken_of children) children

abbrev pub align_among : List Child → ℕ
align_among children = greatest_align (taken_of children)

-- the end of the last field, rounded up to the greatest alignment
abbrev pub size_among : List Child → ℕ
size_among children = next_multiple_of (end_from 0 (taken_of children)) (align_among children)

abbrev pub form_of : List Child → Form
form_of children =
    record { fields = fields_of children; accessors = accessors_of children; size = size_among children; align = align_among children }

-- A form of a block with these children: its struct has the fields that they give one behind the other by offset, those of one offset as they are declared; it has an accessor for each child, as they are declared; it takes what its fields take.
pub record IsFormOf (children : List Child) (form : Form) : Type 0 where
  pub order : List Child
  pub by_offset : IsByOffset children order
  pub fields : form.fields ≡ fields_from 0 0 (taken_from 0 order)
  pub accessors : form.accessors ≡ accessors_for (taken_from 0 order) children
  pub align : form.align ≡ greatest_align (taken_from 0 order)
  pub size : form.size ≡ next_multiple_of (end_from 0 (taken_from 0 order)) (greatest_align (taken_from 0 order))
