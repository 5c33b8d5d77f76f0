-- The register module that is emitted for a checked register stands for its row.
use Rattle.std.proofs.Common.{suc, ◌≡◌, List, [], ◌∷◌, length, map, refl, sym, ap, ◌∙◌}
use Rattle.std.specs.List.{AllByRecursion}
use Rattle.reg_table.specs.declared.row.FieldRow.{FieldRow}
use Rattle.register_form.specs.Forms.{form_of}
use Rattle.svd_model.specs.declared.props.Props.{Props}
use Rattle.svd_model.specs.Keys.{Key}
use Rattle.svd_model.specs.Steps.{Step}
use Rattle.svd_rows.specs.Forest.{Forest, steps}
use Rattle.svd_values.specs.AccessorNames.{accessor_name}
use Rattle.checked_tree.specs.Registers.{FieldIsNamed, RegisterIsChecked, row_of}
use Rattle.crate_form.specs.Registers.{markers_of, register_here, written_marker}
use Rattle.crate_means.specs.RegisterIs.{RegisterIs}
use Rattle.crate_means.proofs.RegisterActs.{HasMember, IsMarked, acts}
use Rattle.crate_means.proofs.RegisterCalls.{calls}

-- ---- markers

length-map : {X Y : Type 0} (f : X → Y) (xs : List X) → length (map f xs) ≡ length xs
length-map f [] = refl
length-map f (x ∷ xs) = ap suc (length-map f xs)

some-all : (fields : List FieldRow) → AllByRecursion FieldIsNamed fields → AllByRecursion HasMember fields
some-all [] named = tt
some-all (one ∷ fields) named = (named.0.some, some-all fields named.1)

marked : (props : Props) (keys : List Key) (children : Forest Step Key) → RegisterIsChecked props keys children → IsMarked (row_of props keys children) (markers_of children)
marked props keys children checked = record {
  fits = checked.row;
  some = some-all (row_of props keys children).fields checked.named;
  same =
      length-map (λ step. written_marker step.name) (steps children)
      ∙ sym (length-map (λ step. accessor_name step.name) (steps children))
      ∙ sym (ap length checked.told)
      ∙ length-map (λ (field : FieldRow). field.name) (row_of props keys children).fields;
  distinct = checked.markers;
}

pub register_is : (props : Props) (step : Step) (keys : List Key) (children : Forest Step Key) → RegisterIsChecked props keys children → RegisterIs props keys children (form_of (register_here props step keys children))
register_is props step keys children checked = record {
  acts = acts (accessor_name step.name) (row_of props keys children) (markers_of children) (marked props keys children checked);
  calls = calls (accessor_name step.name) (row_of props keys children) (markers_of children) (marked props keys children checked);
  fields = checked.kinds;
}
