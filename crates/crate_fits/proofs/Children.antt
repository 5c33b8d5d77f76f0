-- The children of a block of which checking finds its facts have the names of its elements, and are sound.
use Rattle.std.proofs.Common.{◌≡◌, ℕ, suc, Bool, true, false, List, ◌∷◌, length, refl, ap, ap₂}
use Rattle.std.specs.List.{AllByRecursion}
use Rattle.block_form.specs.declared.child.Child.{Child}
use Rattle.block_form.specs.Children.{FitsFrom, IsSound}
use Rattle.block_form.specs.Forms.{names_of}
use Rattle.block_form.specs.Gaps.{NoGaps, gap_name}
use Rattle.block_form.proofs.Extents.{fit_is_sound}
use Rattle.block_form.proofs.Taking.{all_are}
use Rattle.checked_tree.specs.Blocks.{AreInBlock}
use Rattle.checked_tree.specs.Names.{accessor_names}
use Rattle.checked_tree.specs.Places.{ArePlaced}
use Rattle.crate_form.specs.Children.{child_by, children_of}
use Rattle.crate_form.proofs.Sound.{children_fit}
use Rattle.reg_table.specs.Walk.{props_inside}
use Rattle.svd_model.specs.declared.props.Props.{Props}
use Rattle.svd_model.specs.Keys.{Key}
use Rattle.svd_model.specs.Stating.{is_of}
use Rattle.svd_model.specs.Steps.{Step, register}
use Rattle.svd_rows.specs.Forest.{Forest, leaf, node, steps}
use Rattle.svd_values.specs.AccessorNames.{accessor_name}

-- ---- names

pub child-name : (b : Bool) (props : Props) (step : Step) (keys : List Key) (inside : List Child) → (child_by b props step keys inside).name ≡ accessor_name step.name
child-name true props step keys inside = refl
child-name false props step keys inside = refl

pub names-are : (outer : Props) (f : Forest Step Key) → names_of (children_of outer f) ≡ accessor_names f
unfolding children_of steps
names-are outer leaf = refl
names-are outer (node step keys below others) =
    ap₂ (λ name names. name ∷ names) (child-name (is_of register step) (props_inside keys outer) step keys (children_of (props_inside keys outer) below)) (names-are outer others)

pub as-many : (outer : Props) (f : Forest Step Key) → length (children_of outer f) ≡ length (steps f)
unfolding children_of steps
as-many outer leaf = refl
as-many outer (node step keys below others) = ap suc (as-many outer others)

pub no-gaps : (outer : Props) (f : Forest Step Key) → AreInBlock outer f → NoGaps (children_of outer f)
unfolding children_of AreInBlock gap_name
no-gaps outer leaf inside = tt
no-gaps outer (node step keys below others) inside = (by (is_of register step), no-gaps outer others inside.2)
  where
    by : (b : Bool) (number : ℕ) → Rattle.std.specs.Str.bytes_eq (child_by b (props_inside keys outer) step keys (children_of (props_inside keys outer) below)).name (gap_name number) ≡ false
    by true number = inside.0.accessor.no_gap number
    by false number = inside.0.accessor.no_gap number

-- ---- soundness

pub are-sound : (start : ℕ) (outer : Props) (f : Forest Step Key) → AreInBlock outer f → ArePlaced start outer f → AllByRecursion IsSound (children_of outer f)
are-sound start outer f inside placed = all_are (FitsFrom start) IsSound (children_of outer f) (λ child fits. fit_is_sound start child fits) (children_fit start outer f inside placed)
