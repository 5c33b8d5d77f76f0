-- What the commands and the opened patterns of a mapping are held to (svdtools' patch commands, narrowed).
use Rattle.std.specs.Prelude.{ℕ, Bool, true, false, List, [], ◌++◌, Option, Some, None, codes}
use Rattle.yaml_block.specs.Trees.{Tree, ItemTrees, EntryTrees, nothing, scalar, list, mapping, no_items, item, no_entries, entry}
use Rattle.patch_form.specs.declared.fault.FaultKind.TheVariants.{UnknownCommand, UnknownKey, BadValue, BadPattern}
use Rattle.patch_form.specs.declared.form.Form.TheVariants.{Name}
use Rattle.patch_form.specs.declared.form.KeyKind.{KeyKind}
use Rattle.patch_form.specs.declared.form.KeyKind.TheVariants.{Used, Children, PassedOver}
use Rattle.patch_form.specs.declared.word.KeyWord.{KeyWord}
use Rattle.patch_form.specs.declared.word.KeyWord.TheVariants.{Command, Ignored, Unknown, Pattern}
use Rattle.patch_form.specs.declared.word.Word.{Word}
use Rattle.patch_form.specs.declared.word.Word.TheVariants.{Delete, Copy, Modify, Add, Strip, Array}
use Rattle.patch_form.specs.Demands.{Demand, At, absent, present, at_key, never, of_form, pattern, marked, names_array, one, value_of_form, element_demands, addition_demands}
use Rattle.patch_form.specs.Forms.{trimmed}
use Rattle.patch_form.specs.Words.{key_word, device_key}

-- ---- patterns and prefixes, alone or in a list

abbrev pub pattern_item : ℕ → Tree → List Demand
pattern_item line nothing = one line BadValue never
pattern_item line (scalar text) = one line BadPattern (pattern text)
pattern_item line (list inside) = one line BadValue never
pattern_item line (mapping inside) = one line BadValue never

abbrev pub pattern_items : ItemTrees → List Demand
pattern_items no_items = []
pattern_items (item line tree others) = pattern_item line tree ++ pattern_items others

abbrev pub prefix_item : ℕ → Tree → List Demand
prefix_item line nothing = one line BadValue never
prefix_item line (scalar text) = []
prefix_item line (list inside) = one line BadValue never
prefix_item line (mapping inside) = one line BadValue never

abbrev pub prefix_items : ItemTrees → List Demand
prefix_items no_items = []
prefix_items (item line tree others) = prefix_item line tree ++ prefix_items others

-- ---- an entry of a command

-- a copy has `from` among its keys
abbrev pub from_there : ℕ → At → List Demand
from_there line absent = one line BadValue never
from_there line (present other tree) = []

abbrev pub from_in : ℕ → Tree → List Demand
from_in line nothing = one line BadValue never
from_in line (scalar text) = []
from_in line (list inside) = []
from_in line (mapping inside) = from_there line (at_key (codes "from") inside)

abbrev pub copy_entry : ℕ → List ℕ → Tree → List Demand
copy_entry line name tree = one line BadValue (of_form Name name) ++ (element_demands line tree ++ from_in line tree)

-- a key of the device
abbrev pub device_demands : Option KeyKind → ℕ → Tree → List Demand
device_demands None line tree = one line UnknownKey never
device_demands (Some (Used form)) line tree = value_of_form line form tree
device_demands (Some Children) line tree = one line UnknownKey never
device_demands (Some PassedOver) line tree = []

abbrev pub modify_by : Option (Option KeyKind) → ℕ → List ℕ → Tree → List Demand
modify_by (Some kind) line target tree = device_demands kind line tree
modify_by None line target tree = one line BadPattern (pattern target) ++ element_demands line tree

-- at the device, a name of the description's row of `device` is a key of the device itself
abbrev pub modify_entry : Bool → ℕ → List ℕ → Tree → List Demand
modify_entry true line target tree = modify_by (device_key target) line target tree
modify_entry false line target tree = modify_by None line target tree

abbrev pub name_marked : At → List Demand
name_marked absent = []
name_marked (present line nothing) = []
name_marked (present line (scalar name)) = one line BadValue (marked (trimmed name))
name_marked (present line (list inside)) = []
name_marked (present line (mapping inside)) = []

-- The name of an array holds `%s`. Where there is none, the pattern names the array.
abbrev pub name_there : ℕ → List ℕ → At → List Demand
name_there line target absent = one line BadValue (names_array target)
name_there line target (present other tree) = one line BadPattern (pattern target) ++ name_marked (present other tree)

abbrev pub name_in : ℕ → List ℕ → Tree → List Demand
name_in line target nothing = one line BadValue (names_array target)
name_in line target (scalar text) = []
name_in line target (list inside) = []
name_in line target (mapping inside) = name_there line target (at_key (codes "name") inside)

abbrev pub array_entry : ℕ → List ℕ → Tree → List Demand
array_entry line target tree = element_demands line tree ++ name_in line target tree

-- an entry of `_copy`, `_modify` or `_array`
abbrev pub word_entry : Word → Bool → ℕ → List ℕ → Tree → List Demand
word_entry Delete device line key tree = []
word_entry Copy device line key tree = copy_entry line key tree
word_entry Modify device line key tree = modify_entry device line key tree
word_entry Add device line key tree = []
word_entry Strip device line key tree = []
word_entry Array device line key tree = array_entry line key tree

abbrev pub word_entries : Word → Bool → EntryTrees → List Demand
word_entries word device no_entries = []
word_entries word device (entry line key tree others) = word_entry word device line key tree ++ word_entries word device others

-- the value of `_delete` and `_strip`: a text or a list of texts
abbrev pub delete_demands : ℕ → Tree → List Demand
delete_demands line nothing = one line BadValue never
delete_demands line (scalar text) = one line BadPattern (pattern text)
delete_demands line (list inside) = pattern_items inside
delete_demands line (mapping inside) = one line BadValue never

abbrev pub strip_demands : ℕ → Tree → List Demand
strip_demands line nothing = one line BadValue never
strip_demands line (scalar text) = []
strip_demands line (list inside) = prefix_items inside
strip_demands line (mapping inside) = one line BadValue never

-- the value of the other commands: a mapping
abbrev pub entries_demands : (EntryTrees → List Demand) → ℕ → Tree → List Demand
entries_demands inside_demands line nothing = one line BadValue never
entries_demands inside_demands line (scalar text) = one line BadValue never
entries_demands inside_demands line (list inside) = one line BadValue never
entries_demands inside_demands line (mapping inside) = inside_demands inside

abbrev pub command_demands : Word → Bool → ℕ → Tree → List Demand
command_demands Delete device line tree = delete_demands line tree
command_demands Copy device line tree = entries_demands (word_entries Copy device) line tree
command_demands Modify device line tree = entries_demands (word_entries Modify device) line tree
command_demands Add device line tree = entries_demands addition_demands line tree
command_demands Strip device line tree = strip_demands line tree
command_demands Array device line tree = entries_demands (word_entries Array device) line tree

-- ---- a mapping

-- an entry of a mapping, with what an opened mapping in it is held to
abbrev pub entry_demands : KeyWord → Bool → ℕ → List ℕ → Tree → List Demand → List Demand
entry_demands (Command word) device line key tree opened = command_demands word device line tree
entry_demands Ignored device line key tree opened = []
entry_demands Unknown device line key tree opened = one line UnknownCommand never
entry_demands Pattern device line key tree opened = one line BadPattern (pattern key) ++ opened

abbrev mutual
  pub mapping_demands : Bool → EntryTrees → List Demand
  mapping_demands device no_entries = []
  mapping_demands device (entry line key tree others) = entry_demands (key_word key) device line key tree (opened_demands line tree) ++ mapping_demands device others

  -- what is opened is a mapping, or nothing
  pub opened_demands : ℕ → Tree → List Demand
  opened_demands line nothing = []
  opened_demands line (scalar text) = one line BadValue never
  opened_demands line (list inside) = one line BadValue never
  opened_demands line (mapping inside) = mapping_demands false inside

-- all demands on a patch
abbrev pub patch_demands : Tree → List Demand
patch_demands nothing = []
patch_demands (scalar text) = []
patch_demands (list inside) = []
patch_demands (mapping named) = mapping_demands true named
