-- What the types of children say: names are identifiers, and numbers are below 2^64. So the trees that are made of them are valid.
use Rattle.std.specs.Prelude.{◌≡◌, ◌<◌, ◌^◌, true, Option, Some, None, ⊤}
use Rattle.std.specs.List.{list_all}
use Rattle.rust_names.specs.Identifiers.{IsIdentifier}
use Rattle.frag_tree.specs.Validity.{valid_access, valid_field}
use Rattle.block_form.specs.declared.child.Array.{Array}
use Rattle.block_form.specs.declared.child.Child.{Child}
use Rattle.block_form.specs.declared.form.Form.{Form}

abbrev pub ArrayIsNumbered : Option Array → Type 0
ArrayIsNumbered None = ⊤
ArrayIsNumbered (Some array) = (array.count < 2 ^ 64) × (array.stride < 2 ^ 64)

pub record IsNumbered (child : Child) : Type 0 where
  pub named : IsIdentifier child.name
  pub offset : child.offset < 2 ^ 64
  pub array : ArrayIsNumbered child.array

-- the fields and the accessors can be printed, and are read again
abbrev pub IsValid : Form → Type 0
IsValid form = (list_all valid_field form.fields ≡ true) × (list_all valid_access form.accessors ≡ true)
