-- The printed form of a crate (this project's own templates, after what svd2rust prints), and which
-- crate a text parses as.
use Rattle.std.specs.Prelude.{ℕ, ◌≡◌, List, [], ◌∷◌, ◌++◌, map}
use Rattle.std.specs.List.{flat_map}
use Rattle.frag_words.specs.Lines.{Line, word, line, fixed, braced, empty_line, lines_text, lines_words}
use Rattle.frag_words.specs.Words.{Word, words_in}
use Rattle.frag_tree.specs.Phrases.{says, text_of}
use Rattle.frag_tree.specs.declared.phrase.Phrase.TheVariants as phrase
use Rattle.frag_tree.specs.declared.krate.Slot.{Slot}
use Rattle.frag_tree.specs.declared.krate.Version.{Version}
use Rattle.frag_tree.specs.declared.krate.Version.TheVariants.{One, Two}
use Rattle.frag_tree.specs.Blocks.{block_tree_lines, prelude_line}
use Rattle.frag_tree.specs.Numerals.{hexadecimal}
use Rattle.frag_tree.specs.Trees.{BlockTree, CrateTree}

-- `pub NAME: Periph<MODULE::RegisterBlock, ADDRESS>,`
abbrev pub slot_line : ℕ → Slot → Line
slot_line depth slot =
    line depth (says phrase.Pub ∷ word slot.name ∷ says phrase.OpensPeriph ∷ word slot.block ∷ says phrase.BlockThenNext ∷ hexadecimal slot.address ∷ says phrase.ClosesSlot ∷ [])

-- a block module at the top, behind an empty line
abbrev pub top_lines : BlockTree → List Line
top_lines unit = empty_line ∷ block_tree_lines 0 unit

-- the prelude and the slots
abbrev pub slots_lines : List Slot → List Line
slots_lines slots = prelude_line 0 ∷ (empty_line ∷ braced 0 (says phrase.OpensPeripherals ∷ []) (map (slot_line 1) slots))

-- `pub const CRATE_TEXT: u32 = 0x2;` in version 2
abbrev pub version_lines : Version → List Line
version_lines One = []
version_lines Two = fixed 0 (text_of phrase.VersionTwo) ∷ []

-- the lines of a crate
unfoldable pub crate_lines : CrateTree → List Line
crate_lines krate = version_lines krate.version ++ (slots_lines krate.slots ++ flat_map top_lines krate.blocks)

-- the printed form of a crate
abbrev pub printed : CrateTree → List ℕ
printed krate = lines_text (crate_lines krate)

-- the bytes of a crate up to the line that ends `Peripherals`, that line included
abbrev pub head_text : Version → List Slot → List ℕ
head_text version slots = lines_text (version_lines version ++ slots_lines slots)

-- the bytes of a block module at the top, with the empty line before it
abbrev pub top_text : BlockTree → List ℕ
top_text unit = lines_text (top_lines unit)

-- the parts of a printed crate: the head, and then each module at the top
abbrev pub parts_of : CrateTree → List (List ℕ)
parts_of krate = head_text krate.version krate.slots ∷ map top_text krate.blocks

-- the words of a crate, production by production
abbrev pub crate_words : CrateTree → List Word
crate_words krate = lines_words (crate_lines krate)

-- Bytes parse as a crate where they have the words of its printed form, whatever white space and comments stand between.
abbrev pub Parses : List ℕ → CrateTree → Type 0
Parses bytes krate = words_in bytes ≡ words_in (printed krate)
