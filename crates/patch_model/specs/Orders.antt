-- The commands of a mapping in the order in which they are carried out: `_delete`, `_copy`, `_modify`, `_add`, `_strip`, `_array`, then each
-- opened pattern in the order of the file, with the commands of its mapping behind it (svdtools' patch commands, narrowed).
use Rattle.std.specs.Prelude.{ℕ, Bool, true, false, not, ◌&&◌, ◌||◌, ◌==◌, List, [], ◌∷◌, ◌++◌, Option, Some, None, codes, if◌then◌else◌}
use Rattle.std.specs.Str.{bytes_eq}
use Rattle.glob_select.specs.Reading.{alternatives_of}
use Rattle.yaml_block.specs.Trees.{Tree, ItemTrees, EntryTrees, nothing, scalar, list, mapping, no_items, item, no_entries, entry}
use Rattle.patch_form.specs.declared.form.KeyKind.{KeyKind}
use Rattle.patch_form.specs.declared.form.KeyKind.TheVariants.{Used, Children, PassedOver}
use Rattle.patch_form.specs.declared.word.KeyWord.{KeyWord}
use Rattle.patch_form.specs.declared.word.KeyWord.TheVariants.{Command, Ignored, Unknown, Pattern}
use Rattle.patch_form.specs.declared.word.Word.{Word}
use Rattle.patch_form.specs.declared.word.Word.TheVariants.{Delete, Copy, Modify, Add, Strip, Array}
use Rattle.patch_form.specs.declared.word.TextWord.{TextWord}
use Rattle.patch_form.specs.declared.word.TextWord.TheVariants as texts
use Rattle.patch_model.specs.Acts.{KeyList, PatternItems, Added, AddedOne, no_more, added, Deed, opens, deletes, copies, modifies, modifies_device, adds, strips, arrays, Order}
use Rattle.patch_form.specs.Demands.{At, absent, present, at_key}
use Rattle.patch_form.specs.Forms.{NamesArray, array_name, first_alternative, trimmed}
use Rattle.patch_form.specs.declared.word.Purpose.{Purpose}
use Rattle.patch_form.specs.declared.word.Purpose.TheVariants.{Copying, Modifying, Adding}
use Rattle.pac_base.specs.Names.{IsName}
use Rattle.patch_form.specs.Parts.{entries_in, scalar_of}
use Rattle.patch_form.specs.Words.{key_word, key_kind, device_key}

abbrev pub keeps_name : Purpose → Bool
keeps_name Copying = false
keeps_name Modifying = true
keeps_name Adding = false

-- `name` counts for renaming alone, `from` is never among the keys
abbrev pub counts : Purpose → List ℕ → Bool
counts purpose key = not (bytes_eq key (codes "from")) && (keeps_name purpose || not (bytes_eq key (codes "name")))

abbrev pub is_used : Option KeyKind → Bool
is_used None = false
is_used (Some (Used form)) = true
is_used (Some Children) = false
is_used (Some PassedOver) = false

abbrev pub with_text : List ℕ → Option (List ℕ) → KeyList
with_text key None = []
with_text key (Some text) = (key, trimmed text) ∷ []

-- a used key that counts, with its value
abbrev pub kept_key : Bool → Option KeyKind → List ℕ → Tree → KeyList
kept_key counting kind key tree = if counting && is_used kind then with_text key (scalar_of tree) else []

abbrev pub kept_keys : Purpose → EntryTrees → KeyList
kept_keys purpose no_entries = []
kept_keys purpose (entry line key tree others) = kept_key (counts purpose key) (key_kind key) key tree ++ kept_keys purpose others

abbrev pub keys_of : Purpose → Tree → KeyList
keys_of purpose tree = kept_keys purpose (entries_in tree)

-- the value of a key
abbrev pub text_or_nothing : Option (List ℕ) → List ℕ
text_or_nothing None = []
text_or_nothing (Some text) = trimmed text

abbrev pub text_there : At → List ℕ
text_there absent = []
text_there (present line tree) = text_or_nothing (scalar_of tree)

-- a key is there, and its value is a name
abbrev pub NamedText : Option (List ℕ) → Type 0
NamedText None = ⊥
NamedText (Some text) = IsName (trimmed text)

abbrev pub NamedAt : At → Type 0
NamedAt absent = ⊥
NamedAt (present line tree) = NamedText (scalar_of tree)

abbrev pub text_of : List ℕ → Tree → List ℕ
text_of key tree = text_there (at_key key (entries_in tree))

abbrev mutual
  -- the elements that are added by new names with their keys
  pub added_in : EntryTrees → Added
  added_in no_entries = no_more
  added_in (entry line name tree others) = added name (keys_of Adding tree) (added_under (codes "registers") tree) (added_under (codes "fields") tree) (added_in others)

  -- those that stand at a key
  pub added_under : List ℕ → Tree → Added
  added_under key nothing = no_more
  added_under key (scalar text) = no_more
  added_under key (list items) = no_more
  added_under key (mapping named) = added_at key named

  pub added_at : List ℕ → EntryTrees → Added
  added_at key no_entries = no_more
  added_at key (entry line other tree others) = if bytes_eq other key then added_below tree else added_at key others

  pub added_below : Tree → Added
  added_below nothing = no_more
  added_below (scalar text) = no_more
  added_below (list items) = no_more
  added_below (mapping named) = added_in named

-- one element that is added
abbrev pub added_one : List ℕ → Tree → AddedOne
added_one name tree = record { name = name; keys = keys_of Adding tree; registers = added_under (codes "registers") tree; fields = added_under (codes "fields") tree }

abbrev pub order : ℕ → List PatternItems → Deed → List Order
order line parents deed = record { line = line; parents = parents; deed = deed } ∷ []

-- texts, alone or in a list, each one command
abbrev pub text_order : (List ℕ → Deed) → List PatternItems → ℕ → Tree → List Order
text_order deed parents line nothing = []
text_order deed parents line (scalar text) = order line parents (deed text)
text_order deed parents line (list inside) = []
text_order deed parents line (mapping inside) = []

abbrev pub item_orders : (List ℕ → Deed) → List PatternItems → ItemTrees → List Order
item_orders deed parents no_items = []
item_orders deed parents (item line tree others) = text_order deed parents line tree ++ item_orders deed parents others

abbrev pub texts_orders : (List ℕ → Deed) → List PatternItems → ℕ → Tree → List Order
texts_orders deed parents line nothing = []
texts_orders deed parents line (scalar text) = order line parents (deed text)
texts_orders deed parents line (list inside) = item_orders deed parents inside
texts_orders deed parents line (mapping inside) = []

-- the key of the device, where it is used
abbrev pub device_kept : Option KeyKind → List ℕ → Tree → KeyList
device_kept kind key tree = kept_key true kind key tree

abbrev pub modify_deed : Option (Option KeyKind) → List ℕ → Tree → Deed
modify_deed (Some kind) target tree = modifies_device (device_kept kind target tree)
modify_deed None target tree = modifies (alternatives_of target) (keys_of Modifying tree)

abbrev pub modify_at : Bool → List ℕ → Tree → Deed
modify_at true target tree = modify_deed (device_key target) target tree
modify_at false target tree = modify_deed None target tree

-- the name of an array: its own, or its pattern's
abbrev pub name_by : List ℕ → At → List ℕ
name_by target absent = array_name (first_alternative (alternatives_of target))
name_by target (present line tree) = text_there (present line tree)

-- the name of an array, where it has one
abbrev pub NamedBy : List ℕ → At → Type 0
NamedBy target absent = NamesArray target
NamedBy target (present line tree) = NamedText (scalar_of tree)

abbrev pub name_for : List ℕ → Tree → List ℕ
name_for target tree = name_by target (at_key (codes "name") (entries_in tree))

-- what an entry of a command does
abbrev pub entry_deed : Word → Bool → List ℕ → Tree → Deed
entry_deed Delete device key tree = deletes (alternatives_of key)
entry_deed Copy device key tree = copies key (text_of (codes "from") tree) (keys_of Copying tree)
entry_deed Modify device key tree = modify_at device key tree
entry_deed Add device key tree = adds key (keys_of Adding tree) (added_under (codes "registers") tree) (added_under (codes "fields") tree)
entry_deed Strip device key tree = strips key
entry_deed Array device key tree = arrays (alternatives_of key) (name_for key tree)

abbrev pub entry_orders : Word → Bool → List PatternItems → EntryTrees → List Order
entry_orders word device parents no_entries = []
entry_orders word device parents (entry line key tree others) = order line parents (entry_deed word device key tree) ++ entry_orders word device parents others

abbrev pub entries_orders : Word → Bool → List PatternItems → Tree → List Order
entries_orders word device parents tree = entry_orders word device parents (entries_in tree)

-- what a text of a command does
abbrev pub text_deed : TextWord → List ℕ → Deed
text_deed texts.Delete text = deletes (alternatives_of text)
text_deed texts.Strip text = strips text

-- the commands that the value of a command's key gives
abbrev pub word_orders : Word → Bool → List PatternItems → ℕ → Tree → List Order
word_orders Delete device parents line tree = texts_orders (text_deed texts.Delete) parents line tree
word_orders Copy device parents line tree = entries_orders Copy device parents tree
word_orders Modify device parents line tree = entries_orders Modify device parents tree
word_orders Add device parents line tree = entries_orders Add device parents tree
word_orders Strip device parents line tree = texts_orders (text_deed texts.Strip) parents line tree
word_orders Array device parents line tree = entries_orders Array device parents tree

-- the place of a command among those of one mapping
abbrev pub place : Word → ℕ
place Delete = 0
place Copy = 1
place Modify = 2
place Add = 3
place Strip = 4
place Array = 5

abbrev pub is_word : Word → Word → Bool
is_word one other = place one == place other

abbrev pub orders_at : Word → KeyWord → Bool → List PatternItems → ℕ → Tree → List Order
orders_at word (Command other) device parents line tree = if is_word word other then word_orders other device parents line tree else []
orders_at word Ignored device parents line tree = []
orders_at word Unknown device parents line tree = []
orders_at word Pattern device parents line tree = []

-- the commands of one word among the entries of a mapping
abbrev pub orders_of : Word → Bool → List PatternItems → EntryTrees → List Order
orders_of word device parents no_entries = []
orders_of word device parents (entry line key tree others) = orders_at word (key_word key) device parents line tree ++ orders_of word device parents others

-- those that come last among the commands of a mapping
abbrev pub later_orders : Bool → List PatternItems → EntryTrees → List Order
later_orders device parents named = orders_of Add device parents named ++ (orders_of Strip device parents named ++ orders_of Array device parents named)

-- the commands of a mapping, without its opened patterns
abbrev pub own_orders : Bool → List PatternItems → EntryTrees → List Order
own_orders device parents named =
    orders_of Delete device parents named ++ (orders_of Copy device parents named ++ (orders_of Modify device parents named
    ++ (orders_of Add device parents named ++ (orders_of Strip device parents named ++ orders_of Array device parents named))))

abbrev pub opened_at : KeyWord → List PatternItems → ℕ → List ℕ → List Order → List Order
opened_at (Command word) parents line key inside = []
opened_at Ignored parents line key inside = []
opened_at Unknown parents line key inside = []
opened_at Pattern parents line key inside = order line parents (opens (alternatives_of key)) ++ inside

abbrev mutual
  -- the opened patterns, each with the commands of its mapping behind it
  pub opened_orders : List PatternItems → EntryTrees → List Order
  opened_orders parents no_entries = []
  opened_orders parents (entry line key tree others) = opened_at (key_word key) parents line key (orders_below (parents ++ alternatives_of key ∷ []) tree) ++ opened_orders parents others

  -- the commands of an opened mapping
  pub orders_below : List PatternItems → Tree → List Order
  orders_below parents nothing = []
  orders_below parents (scalar text) = []
  orders_below parents (list items) = []
  orders_below parents (mapping named) = own_orders false parents named ++ opened_orders parents named

abbrev pub mapping_orders : Bool → List PatternItems → EntryTrees → List Order
mapping_orders device parents named = own_orders device parents named ++ opened_orders parents named

-- all commands of a patch
abbrev pub patch_orders : Tree → List Order
patch_orders nothing = []
patch_orders (scalar text) = []
patch_orders (list items) = []
patch_orders (mapping named) = mapping_orders true [] named
