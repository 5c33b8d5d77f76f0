-- The name that a copy is made of, and the name of an array.
use Rattle.std.proofs.Common.{◌≡◌, ℕ, Bool, true, false, List, [], ◌∷◌, ◌++◌, Option, Some, codes, refl, ap, subst, ◌∙◌}
use Rattle.std.specs.Str.{bytes_eq}
use Rattle.yaml_block.specs.Trees.{Tree, EntryTrees, nothing, scalar, list, mapping, no_entries, entry}
use Rattle.patch_form.specs.declared.form.Form.TheVariants.{Name}
use Rattle.patch_form.specs.declared.form.KeyKind.{KeyKind}
use Rattle.patch_form.specs.declared.form.KeyKind.TheVariants.{Used}
use Rattle.patch_form.specs.Unmet.{AllMet}
use Rattle.patch_form.specs.Demands.{At, Demand, absent, present, at_key, each_key, key_demands, place_demands}
use Rattle.glob_select.specs.Refusals.{IsPattern}
use Rattle.patch_form.specs.Mappings.{array_entry, copy_entry, from_there, name_there}
use Rattle.patch_model.specs.Orders.{NamedAt, NamedBy}
use Rattle.patch_form.specs.Parts.{entries_in}
use Rattle.patch_form.specs.Words.{key_kind, element_keys}

pub met_left : (xs ys : List Demand) → AllMet (xs ++ ys) → AllMet xs
met_left [] ys met = tt
met_left (x ∷ xs) ys met = (met.0, met_left xs ys met.1)

pub met_right : (xs ys : List Demand) → AllMet (xs ++ ys) → AllMet ys
met_right [] ys met = met
met_right (x ∷ xs) ys met = met_right xs ys met.1

-- where a key is there, its value is held to be a name
abbrev NamedIfThere : At → Type 0
NamedIfThere absent = Unit {0}
NamedIfThere (present line tree) = NamedAt (present line tree)

value_named : (line : ℕ) (tree : Tree) → AllMet (key_demands (Some (Used Name)) line tree) → NamedAt (present line tree)
value_named line nothing met = met.0
value_named line (scalar text) met = met.0
value_named line (list items) met = met.0
value_named line (mapping inside) met = met.0

named_by : (key : List ℕ) (line : ℕ) (other : List ℕ) (tree : Tree) (others : EntryTrees) (same : Bool) → bytes_eq other key ≡ same → (bytes_eq other key ≡ true → key_kind other ≡ Some (Used Name))
    → AllMet (key_demands (key_kind other) line tree) → NamedIfThere (at_key key others) → NamedIfThere (at_key key (entry line other tree others))
named_by key line other tree others true is kind here more = rw is (value_named line tree (subst (λ (k : Option KeyKind). AllMet (key_demands k line tree)) (kind is) here))
named_by key line other tree others false is kind here more = rw is more

pub named_there : (key : List ℕ) → ((other : List ℕ) → bytes_eq other key ≡ true → key_kind other ≡ Some (Used Name)) → (inside : EntryTrees) → AllMet (each_key inside) → NamedIfThere (at_key key inside)
named_there key kind no_entries met = tt
named_there key kind (entry line other tree others) met =
    named_by key line other tree others (bytes_eq other key) refl (kind other) (met_left (key_demands (key_kind other) line tree) (each_key others) met) (named_there key kind others (met_right (key_demands (key_kind other) line tree) (each_key others) met))

from_kind : key_kind (codes "from") ≡ Some (Used Name)
unfolding key_kind element_keys
from_kind = refl

from_named : (line : ℕ) (at : At) → AllMet (from_there line at) → NamedIfThere at → NamedAt at
from_named line absent met named = met.0
from_named line (present other tree) met named = named

module _ (line : ℕ) (name : List ℕ) where
  pub copy_named : (tree : Tree) → ((other : List ℕ) → bytes_eq other (codes "from") ≡ true → other ≡ codes "from") → AllMet (copy_entry line name tree) → NamedAt (at_key (codes "from") (entries_in tree))
  copy_named nothing same met = absurd met.1.0
  copy_named (scalar text) same met = absurd met.1.0
  copy_named (list items) same met = absurd met.1.0
  copy_named (mapping inside) same met =
      let keys = met_left (each_key inside ++ place_demands line inside) (from_there line (at_key (codes "from") inside)) met.1 in
      let there = met_right (each_key inside ++ place_demands line inside) (from_there line (at_key (codes "from") inside)) met.1 in
      from_named line (at_key (codes "from") inside) there
      (named_there (codes "from") (λ other is. ap key_kind (same other is) ∙ from_kind) inside (met_left (each_key inside) (place_demands line inside) keys))

name_kind : key_kind (codes "name") ≡ Some (Used Name)
unfolding key_kind element_keys
name_kind = refl

by_name : (line : ℕ) (target : List ℕ) (at : At) → AllMet (name_there line target at) → NamedIfThere at → NamedBy target at × IsPattern target
by_name line target absent met named = (met.0, (met.0.items ∷ [], met.0.spelled))
by_name line target (present other tree) met named = (named, met.0)

module _ (line : ℕ) (target : List ℕ) where
  pub array_met : (tree : Tree) → ((other : List ℕ) → bytes_eq other (codes "name") ≡ true → other ≡ codes "name") → AllMet (array_entry line target tree) → NamedBy target (at_key (codes "name") (entries_in tree)) × IsPattern target
  array_met nothing same met = (met.0, (met.0.items ∷ [], met.0.spelled))
  array_met (scalar text) same met = absurd met.0
  array_met (list items) same met = absurd met.0
  array_met (mapping inside) same met =
      let keys = met_left (each_key inside ++ place_demands line inside) (name_there line target (at_key (codes "name") inside)) met in
      let there = met_right (each_key inside ++ place_demands line inside) (name_there line target (at_key (codes "name") inside)) met in
      by_name line target (at_key (codes "name") inside) there
      (named_there (codes "name") (λ other is. ap key_kind (same other is) ∙ name_kind) inside (met_left (each_key inside) (place_demands line inside) keys))
