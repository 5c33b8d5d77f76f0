-- The commands of a patch, in the order in which a mapping gives them, each with the texts that spell its patterns.
use Rattle.std.proofs.Common.{◌≡◌, ℕ, Bool, true, false, List, [], ◌∷◌, ◌++◌, Option, Some, None, codes, refl, sym, subst, inl, inr, if◌then◌else◌}
use Rattle.std.specs.List.{AllByRecursion}
use Rattle.std.proofs.lemmas.Slice.Eq.{bytes_eq-Decides}
use Rattle.glob_select.specs.Items.{Item}
use Rattle.glob_select.specs.Reading.{alternatives_of}
use Rattle.glob_select.specs.Refusals.{IsPattern}
use Rattle.glob_select.specs.Spelling.{SpellsPattern}
use Rattle.glob_select.proofs.Alternatives.{pattern_again}
use Rattle.patch_form.specs.Mappings.{command_demands, entry_demands, mapping_demands, modify_by, modify_entry, opened_demands, patch_demands}
use Rattle.patch_form.specs.Parts.{entries_in}
use Rattle.patch_form.specs.Unmet.{AllMet}
use Rattle.patch_form.specs.Words.{device_key, key_word}
use Rattle.patch_form.specs.declared.form.KeyKind.{KeyKind}
use Rattle.patch_form.specs.declared.word.KeyWord.{KeyWord}
use Rattle.patch_form.specs.declared.word.KeyWord.TheVariants.{Command, Ignored, Unknown, Pattern}
use Rattle.patch_form.specs.declared.word.TextWord.{TextWord}
use Rattle.patch_form.specs.declared.word.TextWord.TheVariants as texts
use Rattle.patch_form.specs.declared.word.Word.{Word}
use Rattle.patch_form.specs.declared.word.Word.TheVariants.{Delete, Copy, Modify, Add, Strip, Array}
use Rattle.patch_model.proofs.Copying.{array_met, met_left, met_right}
use Rattle.patch_model.proofs.HeldParts.{command_met, items_met, list_met, opened_met, scalar_met}
use Rattle.patch_model.proofs.TextWords.{deeds_met}
use Rattle.patch_model.specs.Acts.{Deed, Order, PatternItems, opens}
use Rattle.patch_model.specs.Held.{EachDeed, IsTextMet, command_part, deed_demands, item_demands, opened_part, text_demands, texts_demands}
use Rattle.patch_model.specs.Orders.{entries_orders, entry_deed, entry_orders, is_word, item_orders, modify_at, modify_deed, opened_at, opened_orders, orders_at, orders_below, orders_of, own_orders, patch_orders, text_deed, text_order, texts_orders, word_orders}
use Rattle.patch_text.specs.SpokenPatterns.{AreSpelled, CommandsSpeakAsSpelled, HasEntry, HasItem, IsDeleted, IsSpelledIn, IsTarget, LeadTo, SpeaksAsSpelled}
use Rattle.yaml_block.specs.Trees.{Tree, ItemTrees, EntryTrees, nothing, scalar, list, mapping, no_items, item, no_entries, entry}

-- ---- patterns

pub pattern_takes : (text : List ℕ) (alternatives : List (List Item)) → SpellsPattern alternatives text → IsPattern text × (alternatives ≡ alternatives_of text)
pattern_takes text alternatives spelled = ((alternatives, spelled), (pattern_again alternatives text spelled).1)

pub pattern_spelled : (text : List ℕ) → IsPattern text → SpellsPattern (alternatives_of text) text
pattern_spelled text is = subst (λ (a : List (List Item)). SpellsPattern a text) (pattern_again is.0 text is.1).1 is.1

pub pattern_is : (text : List ℕ) (alternatives : List (List Item)) → IsPattern text × (alternatives ≡ alternatives_of text) → SpellsPattern alternatives text
pattern_is text alternatives is = subst (λ (a : List (List Item)). SpellsPattern a text) (sym is.1) (pattern_spelled text is.0)

-- ---- keys that lead, one more

more_lead : (keys : List (List ℕ)) (tree : Tree) (named : EntryTrees) (line : ℕ) (key : List ℕ) (inside : EntryTrees) → LeadTo keys tree named → HasEntry named line key (mapping inside) → key_word key ≡ Pattern → LeadTo (keys ++ key ∷ []) tree inside
more_lead [] tree named line key inside lead has is = (line, mapping inside, subst (λ (t : Tree). HasEntry (entries_in t) line key (mapping inside)) (sym lead) has, is, refl)
more_lead (first ∷ keys) tree named line key inside lead has is = (lead.0, lead.1, lead.2, lead.3, more_lead keys lead.1 named line key inside lead.4 has is)

more_spelled : (patterns : List PatternItems) (keys : List (List ℕ)) (pattern : PatternItems) (key : List ℕ) → AreSpelled patterns keys → SpellsPattern pattern key → AreSpelled (patterns ++ pattern ∷ []) (keys ++ key ∷ [])
more_spelled [] [] pattern key spelled one = (one, tt)
more_spelled [] (other ∷ keys) pattern key spelled one = absurd spelled
more_spelled (other ∷ patterns) [] pattern key spelled one = absurd spelled
more_spelled (other ∷ patterns) (another ∷ keys) pattern key spelled one = (spelled.0, more_spelled patterns keys pattern key spelled.1 one)

-- ---- parts of a mapping

abbrev AreWithin : EntryTrees → EntryTrees → Type 0
AreWithin left named = (line : ℕ) (key : List ℕ) (tree : Tree) → HasEntry left line key tree → HasEntry named line key tree

-- the commands whose value is a mapping, each entry a command
abbrev HasEntries : Word → Type 0
HasEntries Delete = ⊥
HasEntries Copy = Unit {0}
HasEntries Modify = Unit {0}
HasEntries Add = Unit {0}
HasEntries Strip = ⊥
HasEntries Array = Unit {0}

text_met : (word : TextWord) (line : ℕ) (text : List ℕ) → AllMet (text_demands word line (scalar text)) → IsTextMet word text
text_met texts.Delete line text met = met.0
text_met texts.Strip line text met = tt

module _ (root : Tree) where
  abbrev All : List Order → Type 0
  All orders = AllByRecursion (SpeaksAsSpelled root) orders

  both : (xs ys : List Order) → All xs → All ys → All (xs ++ ys)
  both [] ys one other = other
  both (x ∷ xs) ys one other = (one.0, both xs ys one.1 other)

  -- ---- the commands of one mapping, to which keys lead

  module _ (keys : List (List ℕ)) (named : EntryTrees) (lead : LeadTo keys root named) (parents : List PatternItems) (spelled : AreSpelled parents keys) where
    said : (line : ℕ) (deed : Deed) → IsSpelledIn named line deed → SpeaksAsSpelled root (record { line = line; parents = parents; deed = deed })
    said line deed is = record { keys = keys; named = named; lead = lead; parents = spelled; deed = is }

    -- ---- the entries of a command's mapping

    key_spelled : (found : Option (Option KeyKind)) (line : ℕ) (target : List ℕ) (tree : Tree) → IsTarget Modify named line target → AllMet (modify_by found line target tree) → IsSpelledIn named line (modify_deed found target tree)
    key_spelled (Some kind) line target tree there met = tt
    key_spelled None line target tree there met = (target, there, pattern_spelled target met.0)

    modify_spelled : (device : Bool) (line : ℕ) (target : List ℕ) (tree : Tree) → IsTarget Modify named line target → AllMet (modify_entry device line target tree) → IsSpelledIn named line (modify_at device target tree)
    modify_spelled true line target tree there met = key_spelled (device_key target) line target tree there met
    modify_spelled false line target tree there met = key_spelled None line target tree there met

    deed_spelled : (word : Word) (device : Bool) (line : ℕ) (target : List ℕ) (tree : Tree) → HasEntries word → IsTarget word named line target → AllMet (deed_demands word device line target tree) → IsSpelledIn named line (entry_deed word device target tree)
    deed_spelled Delete device line target tree entries there met = absurd entries
    deed_spelled Copy device line target tree entries there met = tt
    deed_spelled Modify device line target tree entries there met = modify_spelled device line target tree there met
    deed_spelled Add device line target tree entries there met = tt
    deed_spelled Strip device line target tree entries there met = tt
    deed_spelled Array device line target tree entries there met = (target, there, pattern_spelled target (array_met line target tree (λ one same. (bytes_eq-Decides one (codes "name")).0 same) met).1)

    each_spelled : (word : Word) (device : Bool) (inside : EntryTrees) → HasEntries word → ((line : ℕ) (target : List ℕ) (tree : Tree) → HasEntry inside line target tree → IsTarget word named line target) → EachDeed word device inside → All (entry_orders word device parents inside)
    each_spelled word device no_entries entries there met = tt
    each_spelled word device (entry line target tree others) entries there met = (
      said line (entry_deed word device target tree) (deed_spelled word device line target tree entries (there line target tree (inl (refl, refl, refl))) met.0),
      each_spelled word device others entries (λ l t i has. there l t i (inr has)) met.1,
    )

    entries_spelled : (word : Word) (device : Bool) (at : ℕ) (key : List ℕ) (tree : Tree) → HasEntries word → HasEntry named at key tree → key_word key ≡ Command word → EachDeed word device (entries_in tree) → All (entries_orders word device parents tree)
    entries_spelled word device at key nothing entries has is met = tt
    entries_spelled word device at key (scalar text) entries has is met = tt
    entries_spelled word device at key (list items) entries has is met = tt
    entries_spelled word device at key (mapping inside) entries has is met = each_spelled word device inside entries (λ line target tree there. (at, key, inside, tree, has, is, there)) met

    -- ---- texts, alone or in a list

    abbrev Stands : TextWord → ℕ → List ℕ → Type 0
    Stands texts.Delete line text = IsDeleted named line text
    Stands texts.Strip line text = Unit {0}

    text_spelled : (word : TextWord) (line : ℕ) (text : List ℕ) → Stands word line text → IsTextMet word text → IsSpelledIn named line (text_deed word text)
    text_spelled texts.Delete line text there met = (text, there, pattern_spelled text met)
    text_spelled texts.Strip line text there met = tt

    item_spelled : (word : TextWord) (line : ℕ) (tree : Tree) → ((text : List ℕ) → tree ≡ scalar text → Stands word line text) → AllMet (text_demands word line tree) → All (text_order (text_deed word) parents line tree)
    item_spelled word line nothing there met = tt
    item_spelled word line (scalar text) there met = (said line (text_deed word text) (text_spelled word line text (there text refl) (text_met word line text met)), tt)
    item_spelled word line (list items) there met = tt
    item_spelled word line (mapping inside) there met = tt

    items_spelled : (word : TextWord) (items : ItemTrees) → ((line : ℕ) (text : List ℕ) → HasItem items line (scalar text) → Stands word line text) → AllMet (item_demands word items) → All (item_orders (text_deed word) parents items)
    items_spelled word no_items there met = tt
    items_spelled word (item line tree others) there met =
        let parts = items_met word line tree others met in
        both (text_order (text_deed word) parents line tree) (item_orders (text_deed word) parents others)
        (item_spelled word line tree (λ text e. there line text (inl (refl, e))) parts.0)
        (items_spelled word others (λ l t has. there l t (inr has)) parts.1)

    texts_spelled : (word : TextWord) (at : ℕ) (tree : Tree) → ((text : List ℕ) → tree ≡ scalar text → Stands word at text) → ((items : ItemTrees) → tree ≡ list items → (line : ℕ) (text : List ℕ) → HasItem items line (scalar text) → Stands word line text)
        → AllMet (texts_demands word at tree) → All (texts_orders (text_deed word) parents at tree)
    texts_spelled word at nothing alone listed met = tt
    texts_spelled word at (scalar text) alone listed met = (said at (text_deed word text) (text_spelled word at text (alone text refl) (scalar_met word at text met)), tt)
    texts_spelled word at (list items) alone listed met = items_spelled word items (listed items refl) (list_met word at items met)
    texts_spelled word at (mapping inside) alone listed met = tt

    -- ---- all commands of the mapping

    word_spelled : (word : Word) (device : Bool) (at : ℕ) (key : List ℕ) (tree : Tree) → HasEntry named at key tree → key_word key ≡ Command word → AllMet (command_demands word device at tree) → All (word_orders word device parents at tree)
    word_spelled Delete device at key tree has is met = texts_spelled texts.Delete at tree (λ text e. (at, key, tree, has, is, inl (refl, e))) (λ items e line text there. (at, key, tree, has, is, inr (items, e, there))) met
    word_spelled Copy device at key tree has is met = entries_spelled Copy device at key tree tt has is (deeds_met device at tree Copy refl met)
    word_spelled Modify device at key tree has is met = entries_spelled Modify device at key tree tt has is (deeds_met device at tree Modify refl met)
    word_spelled Add device at key tree has is met = entries_spelled Add device at key tree tt has is (deeds_met device at tree Add refl met)
    word_spelled Strip device at key tree has is met = texts_spelled texts.Strip at tree (λ text e. tt) (λ items e line text there. tt) met
    word_spelled Array device at key tree has is met = entries_spelled Array device at key tree tt has is (deeds_met device at tree Array refl met)

    where_spelled : (here : Bool) (orders : List Order) → All orders → All (if here then orders else [])
    where_spelled true orders all = all
    where_spelled false orders all = tt

    at_spelled : (word : Word) (kind : KeyWord) (device : Bool) (at : ℕ) (key : List ℕ) (tree : Tree) → HasEntry named at key tree → key_word key ≡ kind → AllMet (command_part kind device at tree) → All (orders_at word kind device parents at tree)
    at_spelled word (Command other) device at key tree has is met = where_spelled (is_word word other) (word_orders other device parents at tree) (word_spelled other device at key tree has is met)
    at_spelled word Ignored device at key tree has is met = tt
    at_spelled word Unknown device at key tree has is met = tt
    at_spelled word Pattern device at key tree has is met = tt

    of_spelled : (word : Word) (device : Bool) (left : EntryTrees) → AreWithin left named → AllMet (mapping_demands device left) → All (orders_of word device parents left)
    of_spelled word device no_entries within met = tt
    of_spelled word device (entry line key tree others) within met =
        both (orders_at word (key_word key) device parents line tree) (orders_of word device parents others)
        (at_spelled word (key_word key) device line key tree (within line key tree (inl (refl, refl, refl))) refl
        (command_met device line key tree (key_word key) (met_left (entry_demands (key_word key) device line key tree (opened_demands line tree)) (mapping_demands device others) met)))
        (of_spelled word device others (λ l k t has. within l k t (inr has))
        (met_right (entry_demands (key_word key) device line key tree (opened_demands line tree)) (mapping_demands device others) met))

    own_spelled : (device : Bool) → AllMet (mapping_demands device named) → All (own_orders device parents named)
    own_spelled device met =
        let of = λ (word : Word). of_spelled word device named (λ l k t has. has) met in
        let to = λ (word : Word). orders_of word device parents named in
        both (to Delete) (to Copy ++ (to Modify ++ (to Add ++ (to Strip ++ to Array)))) (of Delete)
        (both (to Copy) (to Modify ++ (to Add ++ (to Strip ++ to Array))) (of Copy)
        (both (to Modify) (to Add ++ (to Strip ++ to Array)) (of Modify)
        (both (to Add) (to Strip ++ to Array) (of Add)
        (both (to Strip) (to Array) (of Strip) (of Array)))))

    -- ---- a key that opens

    at_opened : (kind : KeyWord) (line : ℕ) (key : List ℕ) (tree : Tree) (inside : List Order) → HasEntry named line key tree → key_word key ≡ kind → (key_word key ≡ Pattern → IsPattern key → AllMet (opened_demands line tree) → All inside)
        → AllMet (opened_part kind line key tree) → All (opened_at kind parents line key inside)
    at_opened (Command word) line key tree inside has is below met = tt
    at_opened Ignored line key tree inside has is below met = tt
    at_opened Unknown line key tree inside has is below met = tt
    at_opened Pattern line key tree inside has is below met = (said line (opens (alternatives_of key)) (key, (tree, has, is), pattern_spelled key met.0), below is met.0 met.1)

  -- ---- mappings in mappings

  mutual
    opened_spelled : (device : Bool) (keys : List (List ℕ)) (named : EntryTrees) (lead : LeadTo keys root named) (parents : List PatternItems) (spelled : AreSpelled parents keys) (left : EntryTrees)
        → AreWithin left named → AllMet (mapping_demands device left) → All (opened_orders parents left)
    opened_spelled device keys named lead parents spelled no_entries within met = tt
    opened_spelled device keys named lead parents spelled (entry line key tree others) within met =
        let has = within line key tree (inl (refl, refl, refl)) in
        both (opened_at (key_word key) parents line key (orders_below (parents ++ alternatives_of key ∷ []) tree)) (opened_orders parents others)
        (at_opened keys named lead parents spelled (key_word key) line key tree (orders_below (parents ++ alternatives_of key ∷ []) tree) has refl
        (below_spelled keys named lead parents spelled line key tree has)
        (opened_met device line key tree (key_word key) (met_left (entry_demands (key_word key) device line key tree (opened_demands line tree)) (mapping_demands device others) met)))
        (opened_spelled device keys named lead parents spelled others (λ l k t there. within l k t (inr there))
        (met_right (entry_demands (key_word key) device line key tree (opened_demands line tree)) (mapping_demands device others) met))

    below_spelled : (keys : List (List ℕ)) (named : EntryTrees) (lead : LeadTo keys root named) (parents : List PatternItems) (spelled : AreSpelled parents keys) (line : ℕ) (key : List ℕ) (tree : Tree)
        → HasEntry named line key tree → key_word key ≡ Pattern → IsPattern key → AllMet (opened_demands line tree) → All (orders_below (parents ++ alternatives_of key ∷ []) tree)
    below_spelled keys named lead parents spelled line key nothing has opens_it is met = tt
    below_spelled keys named lead parents spelled line key (scalar text) has opens_it is met = tt
    below_spelled keys named lead parents spelled line key (list items) has opens_it is met = tt
    below_spelled keys named lead parents spelled line key (mapping inside) has opens_it is met =
        let lead' = more_lead keys root named line key inside lead has opens_it in
        let spelled' = more_spelled parents keys (alternatives_of key) key spelled (pattern_spelled key is) in
        let parents' = parents ++ alternatives_of key ∷ [] in
        both (own_orders false parents' inside) (opened_orders parents' inside)
        (own_spelled (keys ++ key ∷ []) inside lead' parents' spelled' false met)
        (opened_spelled false (keys ++ key ∷ []) inside lead' parents' spelled' inside (λ l k t there. there) met)

patch_spelled : (tree : Tree) → AllMet (patch_demands tree) → AllByRecursion (SpeaksAsSpelled tree) (patch_orders tree)
patch_spelled nothing met = tt
patch_spelled (scalar text) met = tt
patch_spelled (list items) met = tt
patch_spelled (mapping named) met =
    both (mapping named) (own_orders true [] named) (opened_orders [] named)
    (own_spelled (mapping named) [] named refl [] tt true met)
    (opened_spelled (mapping named) true [] named refl [] tt named (λ l k t there. there) met)

pub commands_spelled : CommandsSpeakAsSpelled
commands_spelled tree orders are = subst (AllByRecursion (SpeaksAsSpelled tree)) (sym are.are) (patch_spelled tree are.met)
