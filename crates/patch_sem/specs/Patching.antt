-- What a patch does to a description (svdtools' patch documentation, narrowed): its commands one after the other, each at
-- each of its parents in turn, up to the first fault.
use Rattle.std.specs.Prelude.{ℕ, nat_le, not, List, [], ◌∷◌, map, Option, Some, Ok, Err}
use Rattle.patch_model.specs.Acts.{Order, PatternItems, Deed, opens, deletes, copies, modifies, modifies_device, adds, strips, arrays}
use Rattle.svd_model.specs.Counting.{told_count}
use Rattle.svd_model.specs.Facts.{element_limit, elements_of}
use Rattle.svd_model.specs.Steps.{Step, Kind, field, same_step}
use Rattle.svd_model.specs.declared.counted.Counted.TheVariants.{Elements}
use Rattle.svd_rows.specs.LookUps.{element_paths, inside}
use Rattle.svd_rows.specs.Paths.{exactly, is_within}
use Rattle.svd_rows.specs.RowEdits.{exchanged, without}
use Rattle.svd_rows.specs.Rows.{under_path}
use Rattle.svd_schema.specs.declared.container.Container.TheVariants as container
use Rattle.patch_sem.specs.declared.fault.PatchFault.TheVariants.{NoMatch, TooMany}
use Rattle.patch_sem.specs.Additions.{adding, made_in}
use Rattle.patch_sem.specs.Arrays.{arraying}
use Rattle.patch_sem.specs.Copying.{copying}
use Rattle.patch_sem.specs.Modifying.{modifying}
use Rattle.patch_sem.specs.Selecting.{Rows, kind_at, selected, selects}
use Rattle.patch_sem.specs.Settings.{keys_set, with_keys}
use Rattle.patch_sem.specs.Steps.{Outcome, ◌>>=◌, refused_if, unless_none}
use Rattle.patch_sem.specs.Stripping.{stripping}

-- opening a pattern changes nothing, but it must match
unfoldable pub opening : ℕ → PatternItems → Rows → Outcome Rows
opening line pattern all = unless_none line (selected pattern all) (Ok all)

-- every matching child is taken away, with all that stands below it
unfoldable pub deleting : ℕ → PatternItems → Rows → Outcome Rows
deleting line pattern all = unless_none line (selected pattern all) (Ok (without (selects pattern ∷ []) all))

-- what a command does at one of its parents: to the parent's rows, seen from it
unfoldable pub done_at : ℕ → Deed → Option Kind → Rows → Outcome Rows
done_at line (opens pattern) kind all = opening line pattern all
done_at line (deletes pattern) kind all = deleting line pattern all
done_at line (copies name from keys) kind all = copying line name from keys all
done_at line (modifies pattern keys) kind all = modifying line pattern keys all
done_at line (modifies_device keys) kind all = Ok (with_keys [] (keys_set container.Device keys) all)
done_at line (adds name keys registers fields) kind all = adding line (made_in kind) name keys registers fields all
done_at line (strips prefix) kind all = stripping line prefix all
done_at line (arrays pattern name) kind all = arraying line pattern name all

-- a field has no children for a patch, so no command finds any there
abbrev pub acted : ℕ → Deed → Option Kind → Rows → Outcome Rows
acted line deed (Some field) all = Err (NoMatch line)
acted line deed kind all = done_at line deed kind all

-- the rows in which those at and below this path are others, seen from it
unfoldable pub put_inside : List Step → Rows → Rows → Rows
put_inside path new all = exchanged (is_within (exactly same_step path)) (map (under_path path) new) all

-- there may be no more elements than that
unfoldable pub within_limit : Rows → Outcome Rows
within_limit all = refused_if (not (nat_le (elements_of all) element_limit)) (TooMany Elements (told_count (elements_of all))) (Ok all)

-- a command at one of its parents
unfoldable pub applied_at : Order → List Step → Rows → Outcome Rows
applied_at order path all =
    acted order.line order.deed (kind_at path) (inside same_step path all) >>= (λ new. within_limit (put_inside path new all))

-- a command at one parent after the other
unfoldable pub applied_to : Order → List (List Step) → Rows → Outcome Rows
applied_to order [] all = Ok all
applied_to order (path ∷ paths) all = applied_at order path all >>= applied_to order paths

-- where a command acts: at the device for a key of the device, else at its parents, which are the elements whose steps its
-- patterns match one by one, in document order
abbrev pub places_of : Deed → List PatternItems → Rows → List (List Step)
places_of (modifies_device keys) parents all = [] ∷ []
places_of deed parents all = element_paths (map selects parents) all

-- a command at all its parents
unfoldable pub applied : Order → Rows → Outcome Rows
applied order all = applied_to order (places_of order.deed order.parents all) all

-- all commands, one after the other
unfoldable pub patched : List Order → Rows → Outcome Rows
patched [] all = Ok all
patched (order ∷ orders) all = applied order all >>= patched orders
