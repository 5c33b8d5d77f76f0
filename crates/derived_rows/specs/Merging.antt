-- What an element takes from its source: the keys that it doesn't state, and the children that it has none of its own
-- for (this project's own rules).
use Rattle.std.specs.Prelude.{ℕ, ◌+◌, Bool, true, false, ◌&&◌, ◌||◌, not, cond, nat_eq, List, [], ◌∷◌, ◌++◌, Option, Some}
use Rattle.std.specs.List.{list_all, list_any}
use Rattle.std.specs.Str.{bytes_eq}
use Rattle.pac_base.specs.Names.{is_word_byte}
use Rattle.svd_model.specs.Keys.{Key, rank, derived_from, device_name, dim_count, dim_increment, dim_index}
use Rattle.svd_model.specs.Steps.{Step, Kind, field, set}
use Rattle.svd_rows.specs.Ranks.{set_key}

-- ---- keys

-- the last name of a path holds the mark `%s`; the device's path has no name
unfoldable pub is_marked_at : List Step → Bool
is_marked_at [] = false
is_marked_at (step ∷ []) = not (list_all is_word_byte step.name)
is_marked_at (step ∷ next ∷ path) = is_marked_at (next ∷ path)

-- the key isn't taken from a source, by an element whose own name holds the mark `%s` or doesn't
abbrev pub stays_behind : Bool → Key → Bool
stays_behind marked (device_name name) = true
stays_behind marked (derived_from path) = true
stays_behind marked (dim_count n) = not marked
stays_behind marked (dim_increment n) = not marked
stays_behind marked (dim_index index) = not marked
stays_behind marked _ = false

-- one of the keys states what this one does, whatever value
unfoldable pub is_stated : List Key → Key → Bool
is_stated keys key = list_any (λ other. nat_eq (rank other) (rank key)) keys

-- the keys with one of the source's in its place, where it is taken
unfoldable pub with_taken : Bool → Key → List Key → List Key
with_taken marked key keys = cond (stays_behind marked key || is_stated keys key) keys (set_key rank key keys)

-- the own keys, and those of the source that aren't stated
unfoldable pub taken : Bool → List Key → List Key → List Key
taken marked own [] = own
taken marked own (key ∷ source) = taken marked (with_taken marked key own) source

-- ---- children

abbrev pub has_same_name : {X : Type 0} → (Step × X) → (Step × X) → Bool
has_same_name child other = bytes_eq child.0.name other.0.name

-- one of these has the written name of this child
unfoldable pub has_named : {X : Type 0} → List (Step × X) → (Step × X) → Bool
has_named children child = list_any (has_same_name child) children

-- the first of these that has the written name of the child, whatever its kind, else the child
unfoldable pub replaced_by : {X : Type 0} → List (Step × X) → (Step × X) → (Step × X)
replaced_by [] child = child
replaced_by (own ∷ others) child = cond (has_same_name child own) own (replaced_by others child)

-- The source's children that stand behind these, each replaced by the first own child of its name. A name may come
-- again among enumerated values: where an own one has it, it stands in the place of the first, and the others are left out.
unfoldable pub kept : {X : Type 0} → List (Step × X) → List (Step × X) → List (Step × X) → List (Step × X)
kept before [] own = []
kept before (child ∷ source) own =
    cond (has_named own child && has_named before child) [] (replaced_by own child ∷ []) ++ kept (before ++ child ∷ []) source own

-- the own children that stand behind these, but for the first of each name that the source has
unfoldable pub added : {X : Type 0} → List (Step × X) → List (Step × X) → List (Step × X) → List (Step × X)
added before source [] = []
added before source (child ∷ own) =
    cond (has_named source child && not (has_named before child)) [] (child ∷ []) ++ added (before ++ child ∷ []) source own

-- the source's children in their order, each replaced by the own child of its name where there is one; then the other
-- own children
unfoldable pub merged : {X : Type 0} → List (Step × X) → List (Step × X) → List (Step × X)
merged source own = kept [] source own ++ added [] source own

-- enumerated values are numbered by their places
unfoldable pub renumbered : {X : Type 0} → ℕ → List (Step × X) → List (Step × X)
renumbered n [] = []
renumbered n (child ∷ children) =
    (record { kind = child.0.kind; name = child.0.name; number = n }, child.1) ∷ renumbered (n + 1) children

-- the own sets of a field, where there are any, stand in the place of all sets of its source
abbrev pub sets_of : {X : Type 0} → List (Step × X) → List (Step × X) → List (Step × X)
sets_of source [] = source
sets_of source (first ∷ others) = first ∷ others

-- the children of an element of this kind, where these are its source's and these its own
abbrev pub children_by : {X : Type 0} → Option Kind → List (Step × X) → List (Step × X) → List (Step × X)
children_by (Some field) source own = sets_of source own
children_by (Some set) source own = renumbered 0 (merged source own)
children_by kind source own = merged source own
