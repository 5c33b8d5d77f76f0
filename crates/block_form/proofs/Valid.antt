-- The form of children is a valid tree.
use Rattle.std.proofs.Common.{◌≡◌, ℕ, suc, ◌+◌, ◌-◌, ◌<◌, ◌^◌, Bool, true, false, ◌&&◌, List, [], ◌∷◌, ◌++◌, if◌then◌else◌, drop, length, get_or, drop-cons, Option, Some, None, refl, sym, subst, ◌∙◌, arith, add-one, nat_lt}
use Rattle.std.specs.Int.{next_multiple_of}
use Rattle.std.specs.List.{AllByRecursion, list_all}
use Rattle.std.proofs.lemmas.Bool.{and_from}
use Rattle.std.proofs.lemmas.Bool.Decides.{nat_tests}
use Rattle.frag_tree.specs.declared.access.Access.{Access}
use Rattle.rust_names.specs.Identifiers.{is_identifier}
use Rattle.frag_tree.specs.Validity.{is_number, valid_access, valid_body, valid_element, valid_field, valid_type}
use Rattle.block_form.specs.declared.child.Array.{Array}
use Rattle.block_form.specs.declared.child.Child.{Child}
use Rattle.block_form.specs.declared.child.ChildKind.{ChildKind}
use Rattle.block_form.specs.declared.child.ChildKind.TheVariants as kind
use Rattle.block_form.specs.declared.placing.Placing.{Placing}
use Rattle.block_form.specs.Children.{child_end, element_named, element_of, field_of, held}
use Rattle.block_form.specs.Fields.{fields_from}
use Rattle.block_form.specs.Forms.{access_of, accessors_of, body_of, form_of, is_named, taken_of}
use Rattle.block_form.specs.Gaps.{gap_field, gap_name}
use Rattle.block_form.specs.Placings.{IsWhole}
use Rattle.block_form.specs.Numbers.{ArrayIsNumbered, IsNumbered, IsValid}
use Rattle.block_form.proofs.GapNames.{gap-identifier}
use Rattle.block_form.proofs.Rules.{accessors_pass}
use Rattle.block_form.proofs.Taking.{all_are, taken_have}

below : (n : ℕ) → n < 2 ^ 64 → is_number n ≡ true
below n less = grind (arith, nat_tests)

element_valid : (child : Child) → IsNumbered child → valid_element (element_of child) ≡ true
element_valid child is = by child.kind
  where
    by : (k : ChildKind) → valid_element (element_named k child.name) ≡ true
    by kind.Register = is.named
    by kind.Block = is.named

field_valid : (child : Child) → IsNumbered child → valid_field (field_of child) ≡ true
field_valid child is = and_from (is_identifier child.name) (valid_type (held (element_of child) child.array)) is.named (by child.array is.array)
  where
    by : (array : Option Array) → ArrayIsNumbered array → valid_type (held (element_of child) array) ≡ true
    by None numbers = element_valid child is
    by (Some array) numbers = and_from (valid_element (element_of child)) (is_number array.count) (element_valid child is) (below array.count numbers.0)

fields_valid : (end gaps : ℕ) (taken : List Child) → AllByRecursion IsNumbered taken → list_all valid_field (fields_from end gaps taken) ≡ true
unfolding fields_from
fields_valid end gaps [] all = refl
fields_valid end gaps (child ∷ others) all = by (nat_lt end child.offset) (λ n. fields_valid (child_end child) n others all.1)
  where
    gap_valid : valid_field (gap_field gaps (child.offset - end)) ≡ true
    gap_valid = let less = all.0.offset in and_from (is_identifier (gap_name gaps)) (is_number (child.offset - end)) (gap-identifier gaps) (below (child.offset - end) (omega arith))

    by : (b : Bool) → ((n : ℕ) → list_all valid_field (fields_from (child_end child) n others) ≡ true)
        → list_all valid_field ((if b then gap_field gaps (child.offset - end) ∷ [] else []) ++ (field_of child ∷ fields_from (child_end child) (if b then gaps + 1 else gaps) others)) ≡ true
    by true more = rw (gap_valid, field_valid child all.0) (more (gaps + 1))
    by false more = rw (field_valid child all.0) (more gaps)

access_valid : (taken : Bool) (child : Child) → IsNumbered child → valid_access (access_of taken child) ≡ true
access_valid taken child is =
    and_from (is_identifier child.name) (valid_element (element_of child) && valid_body (body_of taken child.name child.offset child.array)) is.named
    (and_from (valid_element (element_of child)) (valid_body (body_of taken child.name child.offset child.array)) (element_valid child is) (by taken child.array is.array))
  where
    by : (taken : Bool) (array : Option Array) → ArrayIsNumbered array → valid_body (body_of taken child.name child.offset array) ≡ true
    by true None numbers = is.named
    by true (Some array) numbers = is.named
    by false None numbers = below child.offset is.offset
    by false (Some array) numbers =
        and_from (is_number child.offset) (is_number array.stride && is_number array.count) (below child.offset is.offset)
        (and_from (is_number array.stride) (is_number array.count) (below array.stride numbers.1) (below array.count numbers.0))

pub form_valid : (children : List Child) → AllByRecursion IsNumbered children → IsValid (form_of children)
form_valid children all = (
  fields_valid 0 0 (taken_of children) (taken_have IsNumbered children all),
  accessors_pass valid_access (taken_of children) children (all_are IsNumbered (λ child. valid_access (access_of (is_named child.name (taken_of children)) child) ≡ true) children (λ child is. access_valid (is_named child.name (taken_of children)) child is) all),
)

-- one child more is known, of those from a place on
pub one_more : (children : List Child) (i : ℕ) (child : Child) → i < length children → child ≡ get_or children i child → IsNumbered child → AllByRecursion IsNumbered (drop (i + 1) children) → AllByRecursion IsNumbered (drop i children)
one_more children i child within is numbers rest =
    subst (AllByRecursion IsNumbered) (sym (drop-cons children i child within ∙ λ j. is' j ∷ drop (add j) children)) (numbers, rest)
  where
    is' : get_or children i child ≡ child
    is' = sym is

    add : suc i ≡ i + 1
    add = sym (add-one i)

-- what is put together of a struct and accessors is the form
pub formed : (children : List Child) (placing : Placing) (accessors : List Access) (size : ℕ) → IsWhole placing (taken_of children) → accessors ≡ accessors_of children → size ≡ next_multiple_of placing.end placing.align
    → record { fields = placing.fields; accessors = accessors; size = size; align = placing.align } ≡ form_of children
formed children placing accessors size whole is rounded =
    λ i. record { fields = whole.fields i; accessors = is i; size = (rounded ∙ λ j. next_multiple_of (whole.end j) (whole.align j)) i; align = whole.align i }
