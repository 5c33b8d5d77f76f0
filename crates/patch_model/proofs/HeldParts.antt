-- What is met of a whole is met of its parts.
use Rattle.std.proofs.Common.{ℕ, Bool, List}
use Rattle.yaml_block.specs.Trees.{Tree, ItemTrees, EntryTrees, nothing, scalar, list, mapping, item, no_entries, entry}
use Rattle.patch_form.specs.declared.word.KeyWord.{KeyWord}
use Rattle.patch_form.specs.declared.word.KeyWord.TheVariants.{Command, Ignored, Unknown, Pattern}
use Rattle.patch_form.specs.declared.word.TextWord.{TextWord}
use Rattle.patch_form.specs.declared.word.TextWord.TheVariants as texts
use Rattle.patch_form.specs.declared.word.Word.{Word}
use Rattle.patch_form.specs.declared.word.Word.TheVariants.{Add}
use Rattle.patch_form.specs.Unmet.{AllMet}
use Rattle.patch_form.specs.Demands.{Demand, addition_demands, element_demands}
use Rattle.patch_model.specs.Held.{EachDeed, IsTextMet, command_part, deed_demands, item_demands, opened_part, text_demands, texts_demands}
use Rattle.patch_form.specs.Mappings.{entries_demands, entry_demands, opened_demands, pattern_item, pattern_items, prefix_item, prefix_items, word_entries, word_entry}
use Rattle.patch_form.specs.Parts.{entries_in}
use Rattle.patch_model.proofs.Copying.{met_left, met_right}

-- the entries of a command's mapping

module _ (word : Word) (device : Bool) where
  pub each_deed : ((line : ℕ) (key : List ℕ) (tree : Tree) → AllMet (word_entry word device line key tree) → AllMet (deed_demands word device line key tree)) → (named : EntryTrees) → AllMet (word_entries word device named) → EachDeed word device named
  each_deed more no_entries met = tt
  each_deed more (entry line key tree others) met =
      (more line key tree (met_left (word_entry word device line key tree) (word_entries word device others) met), each_deed more others (met_right (word_entry word device line key tree) (word_entries word device others) met))

pub each_addition : (device : Bool) (named : EntryTrees) → AllMet (addition_demands named) → EachDeed Add device named
each_addition device no_entries met = tt
each_addition device (entry line name tree others) met =
    ((met.0, met_left (element_demands line tree) (addition_demands others) met.1), each_addition device others (met_right (element_demands line tree) (addition_demands others) met.1))

pub entries_met : (inside : EntryTrees → List Demand) (P : EntryTrees → Type 0) (line : ℕ) (tree : Tree) → ((named : EntryTrees) → AllMet (inside named) → P named) → AllMet (entries_demands inside line tree) → P (entries_in tree)
entries_met inside P line nothing more met = absurd met.0
entries_met inside P line (scalar text) more met = absurd met.0
entries_met inside P line (list items) more met = absurd met.0
entries_met inside P line (mapping named) more met = more named met

-- the texts of a command

pub items_met : (word : TextWord) (line : ℕ) (tree : Tree) (others : ItemTrees) → AllMet (item_demands word (item line tree others)) → AllMet (text_demands word line tree) × AllMet (item_demands word others)
items_met texts.Delete line tree others met = (met_left (pattern_item line tree) (pattern_items others) met, met_right (pattern_item line tree) (pattern_items others) met)
items_met texts.Strip line tree others met = (met_left (prefix_item line tree) (prefix_items others) met, met_right (prefix_item line tree) (prefix_items others) met)

pub scalar_met : (word : TextWord) (line : ℕ) (text : List ℕ) → AllMet (texts_demands word line (scalar text)) → IsTextMet word text
scalar_met texts.Delete line text met = met.0
scalar_met texts.Strip line text met = tt

pub list_met : (word : TextWord) (line : ℕ) (items : ItemTrees) → AllMet (texts_demands word line (list items)) → AllMet (item_demands word items)
list_met texts.Delete line items met = met
list_met texts.Strip line items met = met

-- an entry of a mapping

module _ (device : Bool) (line : ℕ) (key : List ℕ) (tree : Tree) where
  pub command_met : (word : KeyWord) → AllMet (entry_demands word device line key tree (opened_demands line tree)) → AllMet (command_part word device line tree)
  command_met (Command word) met = met
  command_met Ignored met = tt
  command_met Unknown met = tt
  command_met Pattern met = tt

  pub opened_met : (word : KeyWord) → AllMet (entry_demands word device line key tree (opened_demands line tree)) → AllMet (opened_part word line key tree)
  opened_met (Command word) met = tt
  opened_met Ignored met = tt
  opened_met Unknown met = tt
  opened_met Pattern met = met
