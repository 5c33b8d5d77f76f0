-- What a node is held to: a list of demands, each at a line; the fault is the first that isn't met, by line and then by kind
-- (svdtools' patch commands, narrowed).
use Rattle.std.specs.Prelude.{ℕ, List, [], ◌∷◌, ◌++◌, Option, Some, None, codes, if◌then◌else◌}
use Rattle.std.specs.Str.{bytes_eq}
use Rattle.glob_select.specs.Refusals.{IsPattern}
use Rattle.yaml_block.specs.Trees.{Tree, EntryTrees, nothing, scalar, list, mapping, no_entries, entry}
use Rattle.patch_form.specs.declared.fault.FaultKind.{FaultKind}
use Rattle.patch_form.specs.declared.fault.FaultKind.TheVariants.{UnknownKey, BadValue}
use Rattle.patch_form.specs.declared.form.Form.{Form}
use Rattle.patch_form.specs.declared.form.Form.TheVariants.{Name}
use Rattle.patch_form.specs.declared.form.KeyKind.{KeyKind}
use Rattle.patch_form.specs.declared.form.KeyKind.TheVariants.{Used, Children, PassedOver}
use Rattle.patch_form.specs.Forms.{HasForm, AreOrdered, IsPositive, IsMarked, NamesArray, trimmed}
use Rattle.patch_form.specs.Words.{key_kind}

-- what is wanted
pub data Wanted : Type 0 where
  never : Wanted
  of_form : Form → List ℕ → Wanted
  pattern : List ℕ → Wanted
  ordered : List ℕ → List ℕ → Wanted
  positive : List ℕ → Wanted
  marked : List ℕ → Wanted
  names_array : List ℕ → Wanted

abbrev pub IsMet : Wanted → Type 0
IsMet never = ⊥
IsMet (of_form form text) = HasForm form text
IsMet (pattern text) = IsPattern text
IsMet (ordered low high) = AreOrdered low high
IsMet (positive text) = IsPositive text
IsMet (marked text) = IsMarked text
IsMet (names_array text) = NamesArray text

-- a demand at a line, and the fault that it is not to meet it
pub record Demand : Type 0 where
  pub line : ℕ
  pub kind : FaultKind
  pub wanted : Wanted

abbrev pub one : ℕ → FaultKind → Wanted → List Demand
one line kind wanted = record { line = line; kind = kind; wanted = wanted } ∷ []

-- ---- the keys of an element

-- the scalar, trimmed, has the form
abbrev pub value_of_form : ℕ → Form → Tree → List Demand
value_of_form line form nothing = one line BadValue never
value_of_form line form (scalar text) = one line BadValue (of_form form (trimmed text))
value_of_form line form (list items) = one line BadValue never
value_of_form line form (mapping named) = one line BadValue never

-- the first entry of a key
pub data At : Type 0 where
  absent : At
  present : ℕ → Tree → At

abbrev pub at_key : List ℕ → EntryTrees → At
at_key key no_entries = absent
at_key key (entry line other tree others) = if bytes_eq other key then present line tree else at_key key others

abbrev pub both_or_none : ℕ → At → At → List Demand
both_or_none line absent absent = []
both_or_none line absent (present other tree) = one line BadValue never
both_or_none line (present other tree) absent = one line BadValue never
both_or_none line (present other tree) (present another value) = []

abbrev pub lowest_first : At → At → List Demand
lowest_first (present line (scalar low)) (present other (scalar high)) = one other BadValue (ordered (trimmed low) (trimmed high))
lowest_first low high = []

abbrev pub some_width : At → List Demand
some_width (present line (scalar width)) = one line BadValue (positive (trimmed width))
some_width width = []

-- a place by a lowest and a highest bit where both stand, else by a width
abbrev pub place_or_width : At → At → At → List Demand
place_or_width (present line low) (present other high) width = lowest_first (present line low) (present other high)
place_or_width low high width = some_width width

-- a range of bits counts before the other forms of a place
abbrev pub place_by : At → At → At → At → List Demand
place_by (present line range) low high width = []
place_by absent low high width = place_or_width low high width

-- what the keys of an element ask of one another; the line is that of the entry that has the keys
abbrev pub place_demands : ℕ → EntryTrees → List Demand
place_demands line named =
    both_or_none line (at_key (codes "lsb") named) (at_key (codes "msb") named)
    ++ place_by (at_key (codes "bitRange") named) (at_key (codes "lsb") named) (at_key (codes "msb") named) (at_key (codes "bitWidth") named)

abbrev mutual
  -- a key among the keys of an element
  pub key_demands : Option KeyKind → ℕ → Tree → List Demand
  key_demands None line nothing = one line UnknownKey never
  key_demands None line (scalar text) = one line UnknownKey never
  key_demands None line (list items) = one line UnknownKey never
  key_demands None line (mapping named) = one line UnknownKey never
  key_demands (Some PassedOver) line nothing = []
  key_demands (Some PassedOver) line (scalar text) = []
  key_demands (Some PassedOver) line (list items) = []
  key_demands (Some PassedOver) line (mapping named) = []
  key_demands (Some (Used form)) line nothing = one line BadValue never
  key_demands (Some (Used form)) line (scalar text) = one line BadValue (of_form form (trimmed text))
  key_demands (Some (Used form)) line (list items) = one line BadValue never
  key_demands (Some (Used form)) line (mapping named) = one line BadValue never
  key_demands (Some Children) line nothing = one line BadValue never
  key_demands (Some Children) line (scalar text) = one line BadValue never
  key_demands (Some Children) line (list items) = one line BadValue never
  key_demands (Some Children) line (mapping named) = addition_demands named

  pub each_key : EntryTrees → List Demand
  each_key no_entries = []
  each_key (entry line key tree others) = key_demands (key_kind key) line tree ++ each_key others

  -- the keys of an element, or nothing
  pub element_demands : ℕ → Tree → List Demand
  element_demands line nothing = []
  element_demands line (scalar text) = one line BadValue never
  element_demands line (list items) = one line BadValue never
  element_demands line (mapping named) = each_key named ++ place_demands line named

  -- new names with their keys
  pub addition_demands : EntryTrees → List Demand
  addition_demands no_entries = []
  addition_demands (entry line name tree others) = one line BadValue (of_form Name name) ++ (element_demands line tree ++ addition_demands others)
