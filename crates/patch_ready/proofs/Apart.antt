-- Elements that a patch adds side by side, whose names are the keys of one mapping.
use Rattle.std.proofs.Common.{ℕ, Bool, true, false, List, [], ◌∷◌, ◌++◌, codes, if◌then◌else◌}
use Rattle.std.specs.Str.{bytes_eq}
use Rattle.patch_model.specs.Acts.{Added}
use Rattle.patch_model.specs.Orders.{added_at, added_below, added_in, added_under}
use Rattle.patch_ready.proofs.Unique.{AreUnique, IsAmong, IsUnique, among_last, among_more, apart_back, key_fresh, others_unique, value_unique}
use Rattle.patch_ready.specs.Ready.{AreApart, IsNew}
use Rattle.yaml_block.specs.Trees.{Tree, EntryTrees, nothing, scalar, list, mapping, no_entries, entry}

is_new : (before : List (List ℕ)) (name : List ℕ) (named : EntryTrees) → IsAmong name before → AreUnique before named → IsNew name (added_in named)
is_new before name no_entries among unique = tt
is_new before name (entry line key tree others) among unique = (
  apart_back key name (among (bytes_eq key) (key_fresh before line key tree others unique)),
  is_new (before ++ key ∷ []) name others (among_more name key before among) (others_unique before line key tree others unique),
)

either : (here : Bool) (x y : Added) → AreApart x → AreApart y → AreApart (if here then x else y)
either true x y one other = one
either false x y one other = other

mutual
  unfolding AreApart

  in_apart : (before : List (List ℕ)) (named : EntryTrees) → AreUnique before named → AreApart (added_in named)
  in_apart before no_entries unique = tt
  in_apart before (entry line name tree others) unique = (
    is_new (before ++ name ∷ []) name others (among_last name before) (others_unique before line name tree others unique),
    under_apart (codes "registers") tree (value_unique before line name tree others unique),
    under_apart (codes "fields") tree (value_unique before line name tree others unique),
    in_apart (before ++ name ∷ []) others (others_unique before line name tree others unique),
  )

  pub under_apart : (key : List ℕ) (tree : Tree) → IsUnique tree → AreApart (added_under key tree)
  under_apart key nothing unique = tt
  under_apart key (scalar text) unique = tt
  under_apart key (list items) unique = tt
  under_apart key (mapping named) unique = at_apart key [] named unique

  at_apart : (key : List ℕ) (before : List (List ℕ)) (named : EntryTrees) → AreUnique before named → AreApart (added_at key named)
  at_apart key before no_entries unique = tt
  at_apart key before (entry line other tree others) unique =
      either (bytes_eq other key) (added_below tree) (added_at key others)
      (below_apart tree (value_unique before line other tree others unique))
      (at_apart key (before ++ other ∷ []) others (others_unique before line other tree others unique))

  below_apart : (tree : Tree) → IsUnique tree → AreApart (added_below tree)
  below_apart nothing unique = tt
  below_apart (scalar text) unique = tt
  below_apart (list items) unique = tt
  below_apart (mapping named) unique = in_apart [] named unique
