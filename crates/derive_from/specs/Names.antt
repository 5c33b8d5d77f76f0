-- The elements that the code lists, and the names that they add to paths that are told.
use Rattle.std.specs.Prelude.{◌≡◌, ℕ, List, [], map, Option, None, Some}
use Rattle.derive_build.specs.declared.own.Own.{Own}
use Rattle.derive_build.specs.Nodes.{own_node}
use Rattle.derive_from.specs.Refusals.{told_name}
use Rattle.derive_sources.specs.declared.entry.Entry.{Entry}
use Rattle.derive_sources.specs.Entries.{plain}
use Rattle.derive_sources.specs.Numbers.{Item, Rows, AreNumbered}
use Rattle.svd_model.specs.Steps.{Kind}

-- the name that an element adds to a path; the device adds none
abbrev pub name_by : Option Kind → List ℕ → List (List ℕ)
name_by None name = []
name_by (Some kind) name = told_name kind name

abbrev pub told_own : Own → List (List ℕ)
told_own own = name_by (own_node own).kind (own_node own).name

abbrev pub told_item : Item → List (List ℕ)
told_item item = name_by item.kind item.name

-- the elements of the rows are listed, as entries and by reference
pub record AreListed (all : Rows) (entries : List Entry) (owns : List Own) : Type 0 where
  pub numbered : AreNumbered all (map plain entries)
  pub named : map told_own owns ≡ map told_item (map plain entries)
