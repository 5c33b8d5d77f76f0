-- What the types of a register's parts say: names are identifiers, and numbers are below 2^64. So its module is a valid tree.
use Rattle.std.specs.Prelude.{◌≡◌, ◌<◌, ◌^◌, true, Option, Some, None, ⊤}
use Rattle.std.specs.List.{AllByRecursion}
use Rattle.frag_tree.specs.declared.krate.Version.{Version}
use Rattle.frag_tree.specs.declared.register.NumberCall.{NumberCall}
use Rattle.frag_tree.specs.declared.register.RegisterModule.{RegisterModule}
use Rattle.rust_names.specs.Identifiers.{IsIdentifier}
use Rattle.frag_tree.specs.Trees.{takes_index}
use Rattle.frag_tree.specs.Validity.{valid_register}
use Rattle.register_form.specs.declared.register.Field.{Field}
use Rattle.register_form.specs.declared.register.FieldArray.{FieldArray}
use Rattle.register_form.specs.declared.register.Register.{Register}
use Rattle.register_form.specs.Forms.{has_arrays}

abbrev pub CallIsNumbered : NumberCall → Type 0
CallIsNumbered call = IsIdentifier call.name × (call.value < 2 ^ 64)

abbrev pub ArrayIsNumbered : Option FieldArray → Type 0
ArrayIsNumbered None = ⊤
ArrayIsNumbered (Some array) = (array.count < 2 ^ 64) × (array.step < 2 ^ 64)

pub record FieldIsNumbered (field : Field) : Type 0 where
  pub named : IsIdentifier field.name
  pub marked : IsIdentifier field.marker
  pub offset : field.offset < 2 ^ 64
  pub bits : field.bits < 2 ^ 64
  pub array : ArrayIsNumbered field.array
  pub tests : AllByRecursion CallIsNumbered field.tests
  pub sets : AllByRecursion CallIsNumbered field.sets

pub record RegisterIsNumbered (register : Register) : Type 0 where
  pub named : IsIdentifier register.name
  pub reset : register.reset < 2 ^ 64
  pub one : register.one < 2 ^ 64
  pub zero : register.zero < 2 ^ 64
  pub fields : AllByRecursion FieldIsNumbered register.fields

-- The module can be printed, and is read again, in a text of each version that has what its fields want.
abbrev pub IsValid : Register → RegisterModule → Type 0
IsValid register unit = (version : Version) → (has_arrays register ≡ true → takes_index version ≡ true) → valid_register version unit ≡ true
