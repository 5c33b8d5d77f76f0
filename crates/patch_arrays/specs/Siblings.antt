-- When siblings are apart, and when two elements say the same but for name and offset.
use Rattle.std.specs.Prelude.{Bool, cond, not, ◌||◌, filter}
use Rattle.patch_sem.specs.Additions.{is_base}
use Rattle.patch_sem.specs.Arrays.{is_told}
use Rattle.patch_sem.specs.Likeness.{same_rows}
use Rattle.patch_sem.specs.Selecting.{is_patched}
use Rattle.svd_model.specs.Facts.{is_offset}
use Rattle.svd_model.specs.Keys.{Key}
use Rattle.svd_model.specs.Steps.{Step, same_key}
use Rattle.svd_rows.specs.Forest.{Tree}
use Rattle.svd_rows.specs.Rows.{rows}

-- is one of them known to patches, and the other not?
abbrev pub unlike_kinds : Step → Step → Bool
unlike_kinds one other = cond (is_patched one.kind) (not (is_patched other.kind)) (is_patched other.kind)

-- the two have one key, or only one of them is known to patches
abbrev pub clashes : Step → Step → Bool
clashes one other = same_key one other || unlike_kinds one other

abbrev pub is_alike_key : Key → Bool
is_alike_key key = not (is_offset key || is_base key)

-- the keys of an element beside its offset, and what stands below it
abbrev pub told : Tree Step Key → Tree Step Key
told tree = record { keys = filter is_alike_key tree.keys; below = tree.below }

-- the test of likeness, among the flat rows of both
abbrev pub same_told : Tree Step Key → Tree Step Key → Bool
same_told one other = same_rows (filter is_told (rows one)) (filter is_told (rows other))
