-- The rules of typing that speak of one block.
use Rattle.std.proofs.Common.{◌≡◌, ℕ, ◌+◌, ◌-◌, Bool, true, false, cond, List, [], ◌∷◌, ◌++◌, Option, Some, None, option_map, refl, ap, ◌∙◌, if◌then◌else◌, nat_lt, bytes_eq}
use Rattle.std.specs.Option.{is_some}
use Rattle.std.specs.List.{AllByRecursion, list_all}
use Rattle.std.proofs.lemmas.Bool.{and_from}
use Rattle.frag_tree.specs.declared.block.StructField.{StructField}
use Rattle.frag_tree.specs.declared.access.Access.{Access}
use Rattle.frag_sem.specs.CallPlaces.{field_named}
use Rattle.frag_sem.specs.CrateTyping.{body_has_members, body_types, holds_such, is_array, is_module, is_one, names_field, names_module, type_has_members}
use Rattle.block_form.specs.declared.child.Array.{Array}
use Rattle.block_form.specs.declared.child.Child.{Child}
use Rattle.block_form.specs.Children.{IsSound, child_end, element_of, field_of, has_members, held}
use Rattle.block_form.specs.Fields.{fields_from}
use Rattle.block_form.specs.Forms.{access_of, accessors_for, body_of, fields_of, is_named, taken_of}
use Rattle.block_form.specs.Gaps.{NoGaps, gap_field}
use Rattle.block_form.specs.Laws.{BodiesFit, CountsAreSome, PathsLead}
use Rattle.block_form.proofs.Extents.{same_self}
use Rattle.block_form.proofs.Names.{Owns, apart, find_own, owns}
use Rattle.block_form.proofs.Standing.{field_found}
use Rattle.block_form.proofs.Taking.{all_are, taken_have}

-- ---- a test of each field, and of each accessor

-- gaps pass, and so does the field of each child
fields_pass : (test : StructField → Bool) (end gaps : ℕ) (taken : List Child) → ((number bytes : ℕ) → test (gap_field number bytes) ≡ true) → AllByRecursion (λ child. test (field_of child) ≡ true) taken
    → list_all test (fields_from end gaps taken) ≡ true
unfolding fields_from
fields_pass test end gaps [] of_gap all = refl
fields_pass test end gaps (child ∷ others) of_gap all = by (nat_lt end child.offset) (λ n. fields_pass test (child_end child) n others of_gap all.1)
  where
    by : (b : Bool) → ((n : ℕ) → list_all test (fields_from (child_end child) n others) ≡ true)
        → list_all test ((if b then gap_field gaps (child.offset - end) ∷ [] else []) ++ (field_of child ∷ fields_from (child_end child) (if b then gaps + 1 else gaps) others)) ≡ true
    by true more = rw (of_gap gaps (child.offset - end), all.0) (more (gaps + 1))
    by false more = rw all.0 (more gaps)

pub accessors_pass : (test : Access → Bool) (taken children : List Child) → AllByRecursion (λ child. test (access_of (is_named child.name taken) child) ≡ true) children → list_all test (accessors_for taken children) ≡ true
accessors_pass test taken [] all = refl
accessors_pass test taken (child ∷ others) all =
    and_from (test (access_of (is_named child.name taken) child)) (list_all test (accessors_for taken others)) all.0 (accessors_pass test taken others all.1)

-- ---- paths

pub paths_lead : PathsLead
paths_lead modules children all = (
  fields_pass (λ field. names_module modules field.holds) 0 0 (taken_of children) (λ number bytes. refl)
      (taken_have (λ child. names_module modules (field_of child).holds ≡ true) children (all_are (λ child. is_module modules (element_of child) ≡ true) (λ child. names_module modules (field_of child).holds ≡ true) children (λ child is. names child.array child is) all)),
  accessors_pass (λ access. is_module modules access.element) (taken_of children) children all,
)
  where
    names : (array : Option Array) (child : Child) → is_module modules (element_of child) ≡ true → names_module modules (held (element_of child) array) ≡ true
    names None child is = is
    names (Some array) child is = is

-- ---- counts

pub counts_are_some : CountsAreSome
counts_are_some children sound = (
  fields_pass (λ field. type_has_members field.holds) 0 0 (taken_of children) (λ number bytes. refl)
      (taken_have (λ child. type_has_members (field_of child).holds ≡ true) children (all_are IsSound (λ child. type_has_members (field_of child).holds ≡ true) children (λ child sound. holds child child.array sound.some) sound)),
  accessors_pass (λ access. body_has_members access.body) (taken_of children) children
      (all_are IsSound (λ child. body_has_members (access_of (is_named child.name (taken_of children)) child).body ≡ true) children (λ child sound. bodies child (is_named child.name (taken_of children)) child.array sound.some) sound),
)
  where
    holds : (child : Child) (array : Option Array) → has_members (option_map (λ (array : Array). array.count) array) ≡ true → type_has_members (held (element_of child) array) ≡ true
    holds child None some = refl
    holds child (Some array) some = some

    bodies : (child : Child) (taken : Bool) (array : Option Array) → has_members (option_map (λ (array : Array). array.count) array) ≡ true → body_has_members (body_of taken child.name child.offset array) ≡ true
    bodies child true None some = refl
    bodies child true (Some array) some = refl
    bodies child false None some = refl
    bodies child false (Some array) some = some

-- ---- bodies

-- the field of an accessor's body is that of its child
record Fits (children : List Child) (child : Child) (taken : Bool) : Type 0 where
  names : names_field (fields_of children) (access_of taken child).body ≡ true
  types : body_types (fields_of children) (access_of taken child) (access_of taken child).body ≡ true

fits : (children : List Child) (child : Child) (taken : Bool) → field_named child.name (fields_of children) ≡ option_map field_of (cond taken (Some child) None) → Fits children child taken
fits children child taken found = record { names = named taken child.array refl found; types = typed taken child.array refl found }
  where
    named : (taken : Bool) (array : Option Array) → child.array ≡ array → field_named child.name (fields_of children) ≡ option_map field_of (cond taken (Some child) None) → names_field (fields_of children) (body_of taken child.name child.offset array) ≡ true
    named true None e found = ap is_some found
    named true (Some array) e found = ap is_some found
    named false None e found = refl
    named false (Some array) e found = refl

    typed : (taken : Bool) (array : Option Array) → child.array ≡ array → field_named child.name (fields_of children) ≡ option_map field_of (cond taken (Some child) None)
        → body_types (fields_of children) (record { name = child.name; is_indexed = is_some array; element = element_of child; body = body_of taken child.name child.offset array }) (body_of taken child.name child.offset array) ≡ true
    typed true None e found =
        ap (holds_such (is_one (element_of child))) found ∙ (ap (λ o. is_one (element_of child) (held (element_of child) o)) e ∙ same_self child)
    typed true (Some array) e found =
        ap (holds_such (is_array (element_of child))) found ∙ (ap (λ o. is_array (element_of child) (held (element_of child) o)) e ∙ same_self child)
    typed false None e found = refl
    typed false (Some array) e found = refl

pub bodies_fit : BodiesFit
bodies_fit children distinct no_gaps = (
  accessors_pass (λ access. names_field (fields_of children) access.body) (taken_of children) children (each (λ child fits. fits.names)),
  accessors_pass (λ access. body_types (fields_of children) access access.body) (taken_of children) children (each (λ child fits. fits.types)),
)
  where
    each_fits : (some : List Child) → NoGaps some → AllByRecursion (λ child. Owns child children) some → AllByRecursion (λ child. Fits children child (is_named child.name (taken_of children))) some
    each_fits [] gaps own = tt
    each_fits (child ∷ others) gaps own =
        let owned = taken_have (λ other. bytes_eq child.name other.name ≡ true → other ≡ child) children own.0 in
        (fits children child (is_named child.name (taken_of children)) (field_found child.name 0 0 (taken_of children) gaps.0 ∙ ap (option_map field_of) (find_own child (taken_of children) owned)), each_fits others gaps.1 own.1)

    each : {P : Child → Type 0} → ((child : Child) → Fits children child (is_named child.name (taken_of children)) → P child) → AllByRecursion P children
    each {P} of = all_are (λ child. Fits children child (is_named child.name (taken_of children))) P children of (each_fits children no_gaps (owns children (apart children distinct)))
