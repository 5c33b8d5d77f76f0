-- What a fault tells: the written names of its elements.
use Rattle.std.specs.Prelude.{◌≡◌, List, [], ◌∷◌, ◌++◌, map, Option, None, Some, ⊤}
use Rattle.pac_base.specs.declared.path.Step.{Step as Written}
use Rattle.overlap_check.specs.declared.fault.CheckFault.{CheckFault}
use Rattle.overlap_check.specs.declared.fault.CheckFault.TheVariants.{BadWidth, AddressRange, Misaligned, FieldRange, FieldOverlap, RegisterOverlap, NameClash, Memory}
use Rattle.overlap_check.specs.declared.fault.Policy.{Policy}
use Rattle.overlap_check.specs.declared.fault.Policy.TheVariants.{Loose, Strict}
use Rattle.overlap_sweep.specs.declared.overlap.Shared.{Shared}
use Rattle.overlap_sweep.specs.declared.overlap.Shared.TheVariants.{Fields, Registers}
use Rattle.overlap_sweep.specs.Overlaps.{field_overlaps, register_overlaps, told_member}
use Rattle.svd_model.specs.Checking.{Fault, bad_width, address_range, misaligned, field_range, name_clash, bad_widths, past_ranges, uneven, fields_past, clashes, loose_faults}
use Rattle.svd_model.specs.Keys.{Key}
use Rattle.svd_model.specs.Steps.{Step}
use Rattle.svd_rows.specs.Rows.{Row}

-- the step of a path as it is told: the written name, and no index
abbrev pub told : Step → Written
told step = record { name = step.name; index = None }

abbrev pub told_path : List Step → List Written
told_path path = map told path

-- a fault as it is told
abbrev pub told_fault : Fault → CheckFault
told_fault (bad_width path) = BadWidth (told_path path)
told_fault (address_range path) = AddressRange (told_path path)
told_fault (misaligned path) = Misaligned (told_path path)
told_fault (field_range path) = FieldRange (told_path path)
told_fault (name_clash first second) = NameClash (told_path first) (told_path second)

-- the first of a list
abbrev pub first_of : {A : Type 0} → List A → Option A
first_of [] = None
first_of (x ∷ xs) = Some x

-- ---- overlaps

-- two members of fields, or of registers, as they are told
abbrev pub told_shared : Shared → CheckFault
told_shared (Fields overlap) = FieldOverlap overlap.first overlap.second
told_shared (Registers overlap) = RegisterOverlap overlap.first overlap.second

-- all pairs of members that share what they may not: those of fields, and then those of registers
abbrev pub overlaps : List (Row Step Key) → List Shared
overlaps all = map Fields (field_overlaps all) ++ map (λ pair. Registers (record { first = told_member pair.0; second = told_member pair.1 })) (register_overlaps all)

-- ---- all faults

-- the faults of the kinds before overlaps
abbrev pub place_faults : List (Row Step Key) → List Fault
place_faults all =
    map bad_width (bad_widths all) ++ (map address_range (past_ranges all) ++ (map misaligned (uneven all) ++ map field_range (fields_past all)))

-- those of the kind behind them
abbrev pub name_faults : List (Row Step Key) → List Fault
name_faults all = map (λ pair. name_clash pair.0 pair.1) (clashes all)

-- all faults that are asked for, as they are told: by their kinds, and in each as the document has them
abbrev pub faults : Policy → List (Row Step Key) → List CheckFault
faults Loose all = map told_fault (loose_faults all)
faults Strict all = map told_fault (place_faults all) ++ (map told_shared (overlaps all) ++ map told_fault (name_faults all))

-- the first of these faults is told; want of memory may come in its place
abbrev pub IsFirst : List CheckFault → CheckFault → Type 0
IsFirst faults Memory = ⊤
IsFirst faults fault = first_of faults ≡ Some fault
