-- What a part of a patch is held to before its commands are made.
use Rattle.std.specs.Prelude.{ℕ, Bool, List, [], ◌++◌, Option, Some, None}
use Rattle.glob_select.specs.Refusals.{IsPattern}
use Rattle.yaml_block.specs.Trees.{Tree, ItemTrees, EntryTrees, nothing, scalar, list, mapping, no_entries, entry}
use Rattle.patch_form.specs.declared.fault.FaultKind.TheVariants.{BadValue, BadPattern}
use Rattle.patch_form.specs.declared.form.Form.TheVariants.{Name}
use Rattle.patch_form.specs.declared.word.KeyWord.{KeyWord}
use Rattle.patch_form.specs.declared.word.KeyWord.TheVariants.{Command, Ignored, Unknown, Pattern}
use Rattle.patch_form.specs.declared.word.TextWord.{TextWord}
use Rattle.patch_form.specs.declared.word.TextWord.TheVariants as texts
use Rattle.patch_form.specs.declared.word.Word.{Word}
use Rattle.patch_form.specs.declared.word.Word.TheVariants.{Delete, Copy, Modify, Add, Strip, Array}
use Rattle.patch_form.specs.Unmet.{AllMet}
use Rattle.patch_form.specs.Demands.{Demand, addition_demands, each_key, element_demands, of_form, one, pattern}
use Rattle.patch_form.specs.Mappings.{array_entry, command_demands, copy_entry, delete_demands, modify_entry, opened_demands, pattern_item, pattern_items, prefix_item, prefix_items, strip_demands}

-- the keys of an element meet their demands, where it has keys
abbrev pub AreKeysMet : Tree → Type 0
AreKeysMet nothing = Unit {0}
AreKeysMet (scalar text) = Unit {0}
AreKeysMet (list items) = Unit {0}
AreKeysMet (mapping named) = AllMet (each_key named)

-- what is added meets its demands
abbrev pub AreAdditionsMet : Tree → Type 0
AreAdditionsMet nothing = Unit {0}
AreAdditionsMet (scalar text) = Unit {0}
AreAdditionsMet (list items) = Unit {0}
AreAdditionsMet (mapping named) = AllMet (addition_demands named)

-- a new name with its keys
abbrev pub addition_entry : ℕ → List ℕ → Tree → List Demand
addition_entry line name tree = one line BadValue (of_form Name name) ++ element_demands line tree

-- an entry of a command's mapping
abbrev pub deed_demands : Word → Bool → ℕ → List ℕ → Tree → List Demand
deed_demands Delete device line key tree = one line BadPattern (pattern key)
deed_demands Copy device line key tree = copy_entry line key tree
deed_demands Modify device line key tree = modify_entry device line key tree
deed_demands Add device line key tree = addition_entry line key tree
deed_demands Strip device line key tree = []
deed_demands Array device line key tree = array_entry line key tree

-- each entry of a command's mapping meets its demands
abbrev pub EachDeed : Word → Bool → EntryTrees → Type 0
EachDeed word device no_entries = Unit {0}
EachDeed word device (entry line key tree others) = AllMet (deed_demands word device line key tree) × EachDeed word device others

-- the commands of which a text is one, alone or in a list; a mapping gives the others
abbrev pub text_word : Word → Option TextWord
text_word Delete = Some texts.Delete
text_word Copy = None
text_word Modify = None
text_word Add = None
text_word Strip = Some texts.Strip
text_word Array = None

-- a text of a command, alone and in a list
abbrev pub IsTextMet : TextWord → List ℕ → Type 0
IsTextMet texts.Delete text = IsPattern text
IsTextMet texts.Strip text = Unit {0}

abbrev pub text_demands : TextWord → ℕ → Tree → List Demand
text_demands texts.Delete line tree = pattern_item line tree
text_demands texts.Strip line tree = prefix_item line tree

abbrev pub item_demands : TextWord → ItemTrees → List Demand
item_demands texts.Delete items = pattern_items items
item_demands texts.Strip items = prefix_items items

abbrev pub texts_demands : TextWord → ℕ → Tree → List Demand
texts_demands texts.Delete line tree = delete_demands line tree
texts_demands texts.Strip line tree = strip_demands line tree

-- the value of a key, where the key is a command
abbrev pub command_part : KeyWord → Bool → ℕ → Tree → List Demand
command_part (Command word) device line tree = command_demands word device line tree
command_part Ignored device line tree = []
command_part Unknown device line tree = []
command_part Pattern device line tree = []

-- a pattern and what it opens, where the key is a pattern
abbrev pub opened_part : KeyWord → ℕ → List ℕ → Tree → List Demand
opened_part (Command word) line key tree = []
opened_part Ignored line key tree = []
opened_part Unknown line key tree = []
opened_part Pattern line key tree = one line BadPattern (pattern key) ++ opened_demands line tree
