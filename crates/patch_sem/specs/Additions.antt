-- `_add`: an element that is made, by the kind of its parent, with the registers and fields in it, behind all rows of
-- the parent (svdtools' patch documentation, narrowed).
use Rattle.std.specs.Prelude.{ℕ, Bool, true, false, ◌||◌, List, [], ◌++◌, map, codes, Option, None, Some, Ok, Err, if◌then◌else◌}
use Rattle.std.specs.List.{list_any}
use Rattle.std.specs.Option.{option_or}
use Rattle.patch_model.specs.Acts.{KeyList, Added, no_more, added}
use Rattle.svd_model.specs.Facts.{is_offset, is_derived}
use Rattle.svd_model.specs.Keys.{Key, base_address}
use Rattle.svd_model.specs.Steps.{Kind, peripheral, cluster, register, field, set, value}
use Rattle.svd_rows.specs.LookUps.{children_of}
use Rattle.svd_rows.specs.Rows.{own, under}
use Rattle.patch_sem.specs.declared.fault.PatchFault.TheVariants.{AddExists, Incomplete}
use Rattle.patch_sem.specs.Selecting.{Rows, is_named}
use Rattle.patch_sem.specs.Settings.{container_of, keys_set, keys_with}
use Rattle.patch_sem.specs.Steps.{Outcome, refused_if}

-- what is made in an element of this kind, and in the device
abbrev pub made_in : Option Kind → Kind
made_in None = peripheral
made_in (Some peripheral) = register
made_in (Some cluster) = register
made_in (Some register) = field
made_in (Some field) = value
made_in (Some set) = value
made_in (Some value) = value

-- the keys of an element that is made
abbrev pub keys_made : Kind → KeyList → List Key
keys_made kind keys = keys_with (keys_set (container_of kind) keys) []

-- of what is said of registers and fields within an element, what its kind has
abbrev pub held_by : {A : Type 0} → Kind → A → A → A → A
held_by peripheral nothing registers fields = registers
held_by cluster nothing registers fields = nothing
held_by register nothing registers fields = fields
held_by field nothing registers fields = nothing
held_by set nothing registers fields = nothing
held_by value nothing registers fields = nothing

-- the rows of elements that are made side by side, with those within each
unfoldable pub made_rows : Kind → Added → Rows
made_rows kind no_more = []
made_rows kind (added name keys registers fields others) =
    map (under (record { kind = kind; name = name; number = 0 }))
    (own (keys_made kind keys) ++ held_by kind [] (made_rows register registers) (made_rows field fields))
    ++ made_rows kind others

-- ---- what is missing

abbrev pub is_base : Key → Bool
is_base (base_address n) = true
is_base _ = false

-- the key that an element of a kind must have
abbrev pub needed : Kind → List Key → Option (List ℕ)
needed peripheral keys = if list_any is_base keys then None else Some (codes "baseAddress")
needed cluster keys = None
needed register keys = if list_any is_offset keys then None else Some (codes "addressOffset")
needed field keys = if list_any (λ key. is_offset key || is_derived key) keys then None else Some (codes "bitOffset")
needed set keys = None
needed value keys = None

-- the first key that is missing: an element's own, then those within it
unfoldable pub first_missing : Kind → Added → Option (List ℕ)
first_missing kind no_more = None
first_missing kind (added name keys registers fields others) =
    option_or (needed kind (keys_made kind keys))
    (option_or (held_by kind None (first_missing register registers) (first_missing field fields)) (first_missing kind others))

abbrev pub unless_missing : {A : Type 0} → ℕ → Option (List ℕ) → Outcome A → Outcome A
unless_missing line None rest = rest
unless_missing line (Some key) rest = Err (Incomplete line key)

unfoldable pub adding : ℕ → Kind → List ℕ → KeyList → Added → Added → Rows → Outcome Rows
adding line kind name keys registers fields all =
    refused_if (list_any (is_named name) (children_of all)) (AddExists line name)
    (unless_missing line (first_missing kind (added name keys registers fields no_more))
    (Ok (all ++ made_rows kind (added name keys registers fields no_more))))
