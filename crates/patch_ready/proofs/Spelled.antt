-- The commands of a patch, in the order in which a mapping gives them.
use Rattle.std.proofs.Common.{ℕ, Bool, true, false, List, [], ◌∷◌, ◌++◌, Option, Some, None, codes, refl, sym, subst, if◌then◌else◌}
use Rattle.glob_select.specs.Reading.{alternatives_of}
use Rattle.patch_form.specs.Mappings.{command_demands, entry_demands, mapping_demands, modify_by, modify_entry, opened_demands, patch_demands}
use Rattle.patch_form.specs.Parts.{entries_in}
use Rattle.patch_form.specs.Unmet.{AllMet}
use Rattle.patch_form.specs.Words.{device_key, key_word}
use Rattle.patch_form.specs.declared.form.KeyKind.{KeyKind}
use Rattle.patch_form.specs.declared.word.KeyWord.{KeyWord}
use Rattle.patch_form.specs.declared.word.KeyWord.TheVariants.{Command, Ignored, Unknown, Pattern}
use Rattle.patch_form.specs.declared.word.TextWord.{TextWord}
use Rattle.patch_form.specs.declared.word.TextWord.TheVariants as texts
use Rattle.patch_form.specs.declared.word.Word.{Word}
use Rattle.patch_form.specs.declared.word.Word.TheVariants.{Delete, Copy, Modify, Add, Strip, Array}
use Rattle.patch_model.proofs.Copying.{met_left, met_right}
use Rattle.patch_model.proofs.HeldParts.{command_met, opened_met}
use Rattle.patch_model.proofs.TextWords.{deeds_met}
use Rattle.patch_model.specs.Acts.{Order, PatternItems}
use Rattle.patch_model.specs.Held.{EachDeed, command_part, deed_demands, opened_part}
use Rattle.patch_model.specs.Orders.{entries_orders, entry_deed, entry_orders, is_word, item_orders, modify_at, modify_deed, opened_at, opened_orders, orders_at, orders_below, orders_of, own_orders, patch_orders, text_deed, text_order, texts_orders, word_orders}
use Rattle.patch_ready.proofs.Apart.{under_apart}
use Rattle.patch_ready.proofs.NewNames.{new_name_met}
use Rattle.patch_ready.proofs.Unique.{AreUnique, IsUnique, inside_unique, others_unique, value_unique}
use Rattle.patch_ready.specs.Ready.{AreReady, IsReadyDeed, SpelledAreReady}
use Rattle.yaml_block.specs.Trees.{Tree, ItemTrees, EntryTrees, nothing, scalar, list, mapping, no_items, item, no_entries, entry}

both : (xs ys : List Order) → AreReady xs → AreReady ys → AreReady (xs ++ ys)
both [] ys one other = other
both (x ∷ xs) ys one other = (one.0, both xs ys one.1 other)

-- ---- what an entry does

by_key : (line : ℕ) (target : List ℕ) (tree : Tree) (found : Option (Option KeyKind)) → AllMet (modify_by found line target tree) → IsReadyDeed (modify_deed found target tree)
by_key line target tree (Some kind) met = tt
by_key line target tree None met = new_name_met line tree met.1

modify_ready : (device : Bool) (line : ℕ) (target : List ℕ) (tree : Tree) → AllMet (modify_entry device line target tree) → IsReadyDeed (modify_at device target tree)
modify_ready true line target tree met = by_key line target tree (device_key target) met
modify_ready false line target tree met = by_key line target tree None met

deed_ready : (word : Word) (device : Bool) (line : ℕ) (key : List ℕ) (tree : Tree) → IsUnique tree → AllMet (deed_demands word device line key tree) → IsReadyDeed (entry_deed word device key tree)
deed_ready Delete device line key tree unique met = tt
deed_ready Copy device line key tree unique met = tt
deed_ready Modify device line key tree unique met = modify_ready device line key tree met
deed_ready Add device line key tree unique met = (under_apart (codes "registers") tree unique, under_apart (codes "fields") tree unique)
deed_ready Strip device line key tree unique met = tt
deed_ready Array device line key tree unique met = tt

each_ready : (word : Word) (device : Bool) (parents : List PatternItems) (before : List (List ℕ)) (named : EntryTrees) → AreUnique before named → EachDeed word device named → AreReady (entry_orders word device parents named)
each_ready word device parents before no_entries unique met = tt
each_ready word device parents before (entry line key tree others) unique met = (
  deed_ready word device line key tree (value_unique before line key tree others unique) met.0,
  each_ready word device parents (before ++ key ∷ []) others (others_unique before line key tree others unique) met.1,
)

-- ---- texts, alone or in a list

text_deed_ready : (word : TextWord) (text : List ℕ) → IsReadyDeed (text_deed word text)
text_deed_ready texts.Delete text = tt
text_deed_ready texts.Strip text = tt

text_ready : (word : TextWord) (parents : List PatternItems) (line : ℕ) (tree : Tree) → AreReady (text_order (text_deed word) parents line tree)
text_ready word parents line nothing = tt
text_ready word parents line (scalar text) = (text_deed_ready word text, tt)
text_ready word parents line (list items) = tt
text_ready word parents line (mapping named) = tt

items_ready : (word : TextWord) (parents : List PatternItems) (items : ItemTrees) → AreReady (item_orders (text_deed word) parents items)
items_ready word parents no_items = tt
items_ready word parents (item line tree others) =
    both (text_order (text_deed word) parents line tree) (item_orders (text_deed word) parents others) (text_ready word parents line tree) (items_ready word parents others)

texts_ready : (word : TextWord) (parents : List PatternItems) (line : ℕ) (tree : Tree) → AreReady (texts_orders (text_deed word) parents line tree)
texts_ready word parents line nothing = tt
texts_ready word parents line (scalar text) = (text_deed_ready word text, tt)
texts_ready word parents line (list items) = items_ready word parents items
texts_ready word parents line (mapping named) = tt

-- ---- a mapping

module _ (device : Bool) (parents : List PatternItems) where
  entries_ready : (word : Word) (tree : Tree) → IsUnique tree → EachDeed word device (entries_in tree) → AreReady (entries_orders word device parents tree)
  entries_ready word tree unique met = each_ready word device parents [] (entries_in tree) (inside_unique tree unique) met

  word_ready : (word : Word) (line : ℕ) (tree : Tree) → IsUnique tree → AllMet (command_demands word device line tree) → AreReady (word_orders word device parents line tree)
  word_ready Delete line tree unique met = texts_ready texts.Delete parents line tree
  word_ready Copy line tree unique met = entries_ready Copy tree unique (deeds_met device line tree Copy refl met)
  word_ready Modify line tree unique met = entries_ready Modify tree unique (deeds_met device line tree Modify refl met)
  word_ready Add line tree unique met = entries_ready Add tree unique (deeds_met device line tree Add refl met)
  word_ready Strip line tree unique met = texts_ready texts.Strip parents line tree
  word_ready Array line tree unique met = entries_ready Array tree unique (deeds_met device line tree Array refl met)

  where_ready : (here : Bool) (orders : List Order) → AreReady orders → AreReady (if here then orders else [])
  where_ready true orders ready = ready
  where_ready false orders ready = tt

  at_ready : (word : Word) (key : KeyWord) (line : ℕ) (tree : Tree) → IsUnique tree → AllMet (command_part key device line tree) → AreReady (orders_at word key device parents line tree)
  at_ready word (Command other) line tree unique met = where_ready (is_word word other) (word_orders other device parents line tree) (word_ready other line tree unique met)
  at_ready word Ignored line tree unique met = tt
  at_ready word Unknown line tree unique met = tt
  at_ready word Pattern line tree unique met = tt

  of_ready : (word : Word) (before : List (List ℕ)) (named : EntryTrees) → AreUnique before named → AllMet (mapping_demands device named) → AreReady (orders_of word device parents named)
  of_ready word before no_entries unique met = tt
  of_ready word before (entry line key tree others) unique met =
      let here = met_left (entry_demands (key_word key) device line key tree (opened_demands line tree)) (mapping_demands device others) met in
      let behind = met_right (entry_demands (key_word key) device line key tree (opened_demands line tree)) (mapping_demands device others) met in
      both (orders_at word (key_word key) device parents line tree) (orders_of word device parents others)
      (at_ready word (key_word key) line tree (value_unique before line key tree others unique) (command_met device line key tree (key_word key) here))
      (of_ready word (before ++ key ∷ []) others (others_unique before line key tree others unique) behind)

  own_ready : (before : List (List ℕ)) (named : EntryTrees) → AreUnique before named → AllMet (mapping_demands device named) → AreReady (own_orders device parents named)
  own_ready before named unique met =
      let of = λ (word : Word). of_ready word before named unique met in
      let to = λ (word : Word). orders_of word device parents named in
      both (to Delete) (to Copy ++ (to Modify ++ (to Add ++ (to Strip ++ to Array)))) (of Delete)
      (both (to Copy) (to Modify ++ (to Add ++ (to Strip ++ to Array))) (of Copy)
      (both (to Modify) (to Add ++ (to Strip ++ to Array)) (of Modify)
      (both (to Add) (to Strip ++ to Array) (of Add)
      (both (to Strip) (to Array) (of Strip) (of Array)))))

-- ---- what is opened

at_opened : (key : KeyWord) (parents : List PatternItems) (line : ℕ) (text : List ℕ) (tree : Tree) (inside : List Order) → (AllMet (opened_demands line tree) → AreReady inside) → AllMet (opened_part key line text tree) → AreReady (opened_at key parents line text inside)
at_opened (Command word) parents line text tree inside ready met = tt
at_opened Ignored parents line text tree inside ready met = tt
at_opened Unknown parents line text tree inside ready met = tt
at_opened Pattern parents line text tree inside ready met = (tt, ready met.1)

mutual
  opened_ready : (device : Bool) (parents : List PatternItems) (before : List (List ℕ)) (named : EntryTrees) → AreUnique before named → AllMet (mapping_demands device named) → AreReady (opened_orders parents named)
  opened_ready device parents before no_entries unique met = tt
  opened_ready device parents before (entry line key tree others) unique met =
      both (opened_at (key_word key) parents line key (orders_below (parents ++ alternatives_of key ∷ []) tree)) (opened_orders parents others)
      (at_opened (key_word key) parents line key tree (orders_below (parents ++ alternatives_of key ∷ []) tree)
      (below_ready (parents ++ alternatives_of key ∷ []) line tree (value_unique before line key tree others unique))
      (opened_met device line key tree (key_word key) (met_left (entry_demands (key_word key) device line key tree (opened_demands line tree)) (mapping_demands device others) met)))
      (opened_ready device parents (before ++ key ∷ []) others (others_unique before line key tree others unique)
      (met_right (entry_demands (key_word key) device line key tree (opened_demands line tree)) (mapping_demands device others) met))

  below_ready : (parents : List PatternItems) (line : ℕ) (tree : Tree) → IsUnique tree → AllMet (opened_demands line tree) → AreReady (orders_below parents tree)
  below_ready parents line nothing unique met = tt
  below_ready parents line (scalar text) unique met = tt
  below_ready parents line (list items) unique met = tt
  below_ready parents line (mapping named) unique met =
      both (own_orders false parents named) (opened_orders parents named) (own_ready false parents [] named unique met) (opened_ready false parents [] named unique met)

patch_ready : (tree : Tree) → IsUnique tree → AllMet (patch_demands tree) → AreReady (patch_orders tree)
patch_ready nothing unique met = tt
patch_ready (scalar text) unique met = tt
patch_ready (list items) unique met = tt
patch_ready (mapping named) unique met =
    both (own_orders true [] named) (opened_orders [] named) (own_ready true [] [] named unique met) (opened_ready true [] [] named unique met)

-- the commands of a patch that block text spells are ready
pub spelled_ready : SpelledAreReady
spelled_ready bytes tree orders block are = subst AreReady (sym are.are) (patch_ready tree block.unique are.met)
