-- What the laws of this crate say, each as one statement.
use Rattle.std.specs.Prelude.{ℕ, ◌≡◌, ◌+◌, ◌%◌, ◌≤◌, ◌<◌, ◌^◌, true, List, map, length, Option, Some}
use Rattle.std.specs.List.{AllByRecursion, list_all}
use Rattle.frag_tree.specs.declared.access.Access.{Access}
use Rattle.frag_tree.specs.Trees.{BlockHead, BlockTree, Modules}
use Rattle.frag_sem.specs.CallPlaces.{admits, count_of, offset_of}
use Rattle.frag_sem.specs.CrateTyping.{body_has_members, body_types, is_module, names_field, names_module, type_has_members}
use Rattle.frag_sem.specs.Layout.{Extents, block_extent, extents}
use Rattle.frag_sem.specs.Modules.{are_distinct_names, beside}
use Rattle.block_form.specs.declared.child.Child.{Child}
use Rattle.block_form.specs.declared.form.Form.{Form}
use Rattle.block_form.specs.Children.{FitsFrom, IsAlignment, IsSound, child_count, child_extent, child_place, element_of}
use Rattle.block_form.specs.Forms.{IsFormOf, access_of, accessors_of, align_among, fields_of, form_of, is_named, names_of, size_among, taken_of}
use Rattle.block_form.specs.Gaps.{NoGaps}

-- ---- premises

-- no two children have one name
abbrev pub HaveNames : List Child → Type 0
HaveNames children = are_distinct_names (names_of children) ≡ true

-- each child's module takes what the child says
abbrev pub AreKnown : Extents → List Child → Type 0
AreKnown known children = AllByRecursion (λ child. beside (element_of child) known ≡ Some (child_extent child)) children

-- ---- the form

-- Children have one form and no other.
abbrev pub FormIs : Type 0
FormIs = (children : List Child) → IsFormOf children (form_of children)

abbrev pub OneForm : Type 0
OneForm = (children : List Child) (form : Form) → IsFormOf children form → form ≡ form_of children

-- ---- layout

-- An accessor has as many members as the child, and leads to the child's place, or that of the member of an index.
pub record LeadsTo (unit : BlockTree) (child : Child) (access : Access) : Type 0 where
  pub count : count_of unit access ≡ child_count child
  pub place : (index : Option ℕ) → admits (child_count child) index ≡ true → offset_of unit access index ≡ child_place child index

-- Each accessor leads to its child.
abbrev pub AccessorsLead : Type 0
AccessorsLead =
    (unit : BlockTree) (children : List Child)
    → HaveNames children → NoGaps children → AreKnown (extents unit.inside) children → unit.head.fields ≡ fields_of children
    → AllByRecursion (λ child. LeadsTo unit child (access_of (is_named child.name (taken_of children)) child)) children

-- ---- extents

-- A block takes what its form says.
abbrev pub ExtentIs : Type 0
ExtentIs =
    (known : Extents) (head : BlockHead) (children : List Child) → AreKnown known children → head.fields ≡ fields_of children
    → block_extent head known ≡ record { size = size_among children; align = align_among children }

-- A block is aligned as a register is, and is at most 2^64 bytes long.
abbrev pub ExtentFits : Type 0
ExtentFits = (children : List Child) → AllByRecursion IsSound children → IsAlignment (align_among children) × (size_among children ≤ 2 ^ 64)

-- A block whose children all stand at addresses of their alignment and end in the address range does so itself, with what fills it up at its end.
abbrev pub BlockFits : Type 0
BlockFits =
    (start : ℕ) (children : List Child) → start ≤ 2 ^ 64 → AllByRecursion (FitsFrom start) children
    → (start % align_among children ≡ 0) × (start + size_among children ≤ 2 ^ 64)

-- Such children are sound.
abbrev pub FitIsSound : Type 0
FitIsSound = (start : ℕ) (child : Child) → FitsFrom start child → IsSound child

-- Where there is just one module for each child, which takes what the child says, each is found.
abbrev pub EachIsKnown : Type 0
EachIsKnown = (children : List Child) → HaveNames children → AreKnown (map (λ child. (element_of child, child_extent child)) children) children

-- ---- rules of typing

-- The fields have distinct names, and so have the accessors.
abbrev pub NamesDiffer : Type 0
NamesDiffer =
    (children : List Child) → length children < 2 ^ 64 → HaveNames children → NoGaps children
    → (are_distinct_names (map (λ field. field.name) (fields_of children)) ≡ true) × (are_distinct_names (map (λ access. access.name) (accessors_of children)) ≡ true)

-- Where each child has its module, each field and each accessor names one.
abbrev pub PathsLead : Type 0
PathsLead =
    (modules : Modules) (children : List Child) → AllByRecursion (λ child. is_module modules (element_of child) ≡ true) children
    → (list_all (λ field. names_module modules field.holds) (fields_of children) ≡ true) × (list_all (λ access. is_module modules access.element) (accessors_of children) ≡ true)

-- The accessors name fields of the struct, and fit them.
abbrev pub BodiesFit : Type 0
BodiesFit =
    (children : List Child) → HaveNames children → NoGaps children
    → (list_all (λ access. names_field (fields_of children) access.body) (accessors_of children) ≡ true)
    × (list_all (λ access. body_types (fields_of children) access access.body) (accessors_of children) ≡ true)

-- Arrays and indexed accessors have members.
abbrev pub CountsAreSome : Type 0
CountsAreSome =
    (children : List Child) → AllByRecursion IsSound children
    → (list_all (λ field. type_has_members field.holds) (fields_of children) ≡ true) × (list_all (λ access. body_has_members access.body) (accessors_of children) ≡ true)
