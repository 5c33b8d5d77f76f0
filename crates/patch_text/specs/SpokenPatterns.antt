-- The patterns of which the commands of a patch speak are those that its texts spell: a command's parents are spelled by the keys of the
-- mappings round it, and the pattern of what it does by the text that stands in its place (svdtools' patch commands, narrowed).
use Rattle.std.specs.Prelude.{◌≡◌, ◌⊎◌, ℕ, List, [], ◌∷◌, ⊤}
use Rattle.std.specs.List.{AllByRecursion}
use Rattle.glob_select.specs.Spelling.{SpellsPattern}
use Rattle.patch_form.specs.declared.word.KeyWord.TheVariants.{Command, Pattern}
use Rattle.patch_form.specs.declared.word.Word.{Word}
use Rattle.patch_form.specs.declared.word.Word.TheVariants.{Delete, Modify, Array}
use Rattle.patch_form.specs.Parts.{entries_in}
use Rattle.patch_form.specs.Words.{key_word}
use Rattle.patch_model.specs.Acts.{Deed, Order, PatternItems, arrays, deletes, modifies, opens}
use Rattle.patch_model.specs.Answers.{AreOrders}
use Rattle.patch_model.specs.Readings.{IsReadAs, Spelling, commanded}
use Rattle.yaml_block.specs.Trees.{Tree, ItemTrees, EntryTrees, scalar, list, mapping, no_items, item, no_entries, entry}

-- the entry is one of the mapping's
abbrev pub HasEntry : EntryTrees → ℕ → List ℕ → Tree → Type 0
HasEntry no_entries line key tree = ⊥
HasEntry (entry number other inside others) line key tree =
    ((number ≡ line) × (other ≡ key) × (inside ≡ tree)) ⊎ HasEntry others line key tree

-- the item is one of the list's
abbrev pub HasItem : ItemTrees → ℕ → Tree → Type 0
HasItem no_items line tree = ⊥
HasItem (item number inside others) line tree = ((number ≡ line) × (inside ≡ tree)) ⊎ HasItem others line tree

-- the keys, none of which is a command's, lead from mapping to mapping, from the first to this one
abbrev pub LeadTo : List (List ℕ) → Tree → EntryTrees → Type 0
LeadTo [] tree named = tree ≡ mapping named
LeadTo (key ∷ keys) tree named =
    (line : ℕ) × (inside : Tree) × HasEntry (entries_in tree) line key inside × (key_word key ≡ Pattern) × LeadTo keys inside named

-- each pattern is spelled by the key in its place
abbrev pub AreSpelled : List PatternItems → List (List ℕ) → Type 0
AreSpelled [] [] = ⊤
AreSpelled [] (key ∷ keys) = ⊥
AreSpelled (pattern ∷ patterns) [] = ⊥
AreSpelled (pattern ∷ patterns) (key ∷ keys) = SpellsPattern pattern key × AreSpelled patterns keys

-- a key of the mapping that is no command's
abbrev pub IsOpened : EntryTrees → ℕ → List ℕ → Type 0
IsOpened named line key = (inside : Tree) × HasEntry named line key inside × (key_word key ≡ Pattern)

-- a text in the value of `_delete`: the value itself, or an item of it
abbrev pub IsDeleted : EntryTrees → ℕ → List ℕ → Type 0
IsDeleted named line text =
    (at : ℕ) × (key : List ℕ) × (value : Tree) × HasEntry named at key value × (key_word key ≡ Command Delete)
    × (((at ≡ line) × (value ≡ scalar text)) ⊎ ((items : ItemTrees) × (value ≡ list items) × HasItem items line (scalar text)))

-- a key in the value of a command
abbrev pub IsTarget : Word → EntryTrees → ℕ → List ℕ → Type 0
IsTarget word named line target =
    (at : ℕ) × (key : List ℕ) × (value : EntryTrees) × (inside : Tree) × HasEntry named at key (mapping value)
    × (key_word key ≡ Command word) × HasEntry value line target inside

-- the pattern of what a command does is spelled by a text of the mapping in which the command stands, on its line
abbrev pub IsSpelledIn : EntryTrees → ℕ → Deed → Type 0
IsSpelledIn named line (opens pattern) = (text : List ℕ) × IsOpened named line text × SpellsPattern pattern text
IsSpelledIn named line (deletes pattern) = (text : List ℕ) × IsDeleted named line text × SpellsPattern pattern text
IsSpelledIn named line (modifies pattern keys) = (text : List ℕ) × IsTarget Modify named line text × SpellsPattern pattern text
IsSpelledIn named line (arrays pattern name) = (text : List ℕ) × IsTarget Array named line text × SpellsPattern pattern text
IsSpelledIn named line _ = ⊤

-- the command stands in this mapping, to which these keys lead
pub record SpeaksAsSpelled (tree : Tree) (order : Order) : Type 0 where
  pub keys : List (List ℕ)
  pub named : EntryTrees
  pub lead : LeadTo keys tree named
  pub parents : AreSpelled order.parents keys
  pub deed : IsSpelledIn named order.line order.deed

-- each command of a patch speaks of the patterns that its texts spell
abbrev pub CommandsSpeakAsSpelled : Type 0
CommandsSpeakAsSpelled = (tree : Tree) (orders : List Order) → AreOrders tree orders → AllByRecursion (SpeaksAsSpelled tree) orders

-- each command to which the bytes of a patch come speaks of the patterns that texts of the node spell
abbrev pub TextsSpeakAsSpelled : Type 0
TextsSpeakAsSpelled = (bytes : List ℕ) (orders : List Order) → IsReadAs bytes (commanded orders) → Spelling bytes (λ tree. AllByRecursion (SpeaksAsSpelled tree) orders)
