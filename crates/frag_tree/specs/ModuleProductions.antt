-- The productions of block modules, of the modules inside one parent, and of a whole crate.
use Rattle.std.specs.Prelude.{ℕ, List, [], ◌∷◌, ◌++◌, length, Bool, not, Option, Some, None, codes, if◌then◌else◌, ◌⊎◌, zero, suc, option_map}
use Rattle.std.proofs.Common.{inl, inr}
use Rattle.frag_words.specs.Lines.{lines_words}
use Rattle.frag_words.specs.Readings.{Reading, then_read, expected, behind, pair, mapped, either, restated, word_is, list_until}
use Rattle.frag_words.specs.Words.{Word}
use Rattle.frag_tree.specs.Phrases.{words_of}
use Rattle.frag_tree.specs.declared.phrase.Phrase.TheVariants as phrase
use Rattle.frag_tree.specs.declared.access.Access.{Access}
use Rattle.frag_tree.specs.declared.block.StructField.{StructField}
use Rattle.frag_tree.specs.declared.krate.Slot.{Slot}
use Rattle.frag_tree.specs.declared.krate.Version.{Version}
use Rattle.frag_tree.specs.declared.krate.Version.TheVariants.{One, Two}
use Rattle.frag_tree.specs.declared.register.RegisterModule.{RegisterModule}
use Rattle.frag_tree.specs.Blocks.{opening_lines, modules_lines, block_tree_lines, module_lines}
use Rattle.frag_tree.specs.Productions.{identifier, slot_reading, field_reading, access_reading}
use Rattle.frag_tree.specs.RegisterProductions.{calls_until, register_reading}
use Rattle.frag_tree.specs.Trees.{BlockHead, BlockTree, CrateTree, ModuleTree, Modules, ended, register, block, one_register, one_block}
use Rattle.frag_tree.specs.Validity.{valid_head, valid_modules, valid_block, valid_register}

-- ---- what stands in a block module before the modules inside it

abbrev pub head_words : BlockHead → List Word
head_words head = lines_words (opening_lines 0 head)

abbrev pub head_of : Word × (List StructField × List Access) → BlockHead
head_of parts = record { name = parts.0; fields = parts.1.0; accessors = parts.1.1 }

abbrev pub head_parts : BlockHead → Word × (List StructField × List Access)
head_parts head = (head.name, (head.fields, head.accessors))

unfoldable pub fields_reading : Reading (List StructField)
fields_reading = list_until (λ text. not (word_is 0 (codes "}") text)) field_reading (words_of phrase.Closer)

unfoldable pub head_raw : Reading (Word × (List StructField × List Access))
head_raw = behind (words_of phrase.PubMod) (pair identifier (behind (words_of phrase.OpensModule) (behind (words_of phrase.UsePrelude) (behind (words_of phrase.ReprC) (behind (words_of phrase.OpensStruct) (pair fields_reading (behind (words_of phrase.BlockImpl) (calls_until access_reading))))))))

unfoldable pub head_reading : Reading BlockHead
head_reading = restated head_words valid_head (mapped head_of head_parts head_raw)

-- ---- modules

abbrev pub with_register : RegisterModule → Modules → List Word → Option (Modules × List Word)
with_register unit others rest = Some (register unit others, rest)

abbrev pub with_block : BlockHead → Modules → Modules → List Word → Option (Modules × List Word)
with_block head inside others rest = Some (block head inside others, rest)

abbrev pub with_end : List Word → Option (Modules × List Word)
with_end rest = Some (ended, rest)

-- at most so many modules, deep or wide, and the brace behind the last
unfoldable pub read_modules : Version → ℕ → List Word → Option (Modules × List Word)
read_modules version zero text = None
read_modules version (suc n) text =
    if word_is 0 (codes "pub") text
    then (if word_is 11 (codes "#") text
    then then_read (head_reading.read text) (λ head rest. then_read (read_modules version n rest) (λ inside left. then_read (read_modules version n left) (with_block head inside)))
    else then_read ((register_reading version).read text) (λ unit rest. then_read (read_modules version n rest) (with_register unit)))
    else expected (words_of phrase.Closer) text with_end

-- the modules of one parent, and the brace behind them
abbrev pub modules_words : Modules → List Word
modules_words modules = lines_words (modules_lines 0 modules) ++ words_of phrase.Closer

unfoldable pub modules_reading : Version → Reading Modules
modules_reading version = record { words = modules_words; is_valid = valid_modules version; read = λ text. read_modules version (length text) text }

abbrev pub block_words : BlockTree → List Word
block_words unit = lines_words (block_tree_lines 0 unit)

abbrev pub block_of : BlockHead × Modules → BlockTree
block_of parts = record { head = parts.0; inside = parts.1 }

abbrev pub block_parts : BlockTree → BlockHead × Modules
block_parts unit = (unit.head, unit.inside)

unfoldable pub block_reading : Version → Reading BlockTree
block_reading version = restated block_words (valid_block version) (mapped block_of block_parts (pair head_reading (modules_reading version)))

abbrev pub module_words : ModuleTree → List Word
module_words unit = lines_words (module_lines 0 unit)

abbrev pub valid_module : Version → ModuleTree → Bool
valid_module version (one_register unit) = valid_register version unit
valid_module version (one_block unit) = valid_block version unit

abbrev pub module_of : BlockTree ⊎ RegisterModule → ModuleTree
module_of (inl unit) = one_block unit
module_of (inr unit) = one_register unit

abbrev pub module_side : ModuleTree → BlockTree ⊎ RegisterModule
module_side (one_block unit) = inl unit
module_side (one_register unit) = inr unit

unfoldable pub module_reading : Version → Reading ModuleTree
module_reading version = restated module_words (valid_module version) (mapped module_of module_side (either (word_is 11 (codes "#")) (block_reading version) (register_reading version)))

-- ---- the crate

abbrev pub slots_reading : Reading (List Slot)
slots_reading = calls_until slot_reading

-- at most so many blocks, up to the end of the text
unfoldable pub read_blocks : Version → ℕ → List Word → Option (List BlockTree)
read_blocks version n [] = Some []
read_blocks version zero (first ∷ others) = None
read_blocks version (suc n) (first ∷ others) = then_read ((block_reading version).read (first ∷ others)) (λ unit rest. option_map (λ units. unit ∷ units) (read_blocks version n rest))

-- the crate whose slots and blocks are these
abbrev pub with_blocks : Version → List Slot → Option (List BlockTree) → Option CrateTree
with_blocks version slots None = None
with_blocks version slots (Some blocks) = Some (record { version = version; slots = slots; blocks = blocks })

-- the words before the slots
abbrev pub crate_head : List Word
crate_head = words_of phrase.UsePrelude ++ words_of phrase.OpensPeripherals

-- the crate that a text of a version spells behind the line of the version
unfoldable pub read_parts : Version → List Word → Option CrateTree
read_parts version text = expected crate_head text (λ rest. then_read (slots_reading.read rest) (λ slots left. with_blocks version slots (read_blocks version (length left) left)))

-- the crate that a whole text spells
unfoldable pub read_crate : List Word → Option CrateTree
read_crate text = if word_is 0 (codes "pub") text then expected (words_of phrase.VersionTwo) text (read_parts Two) else read_parts One text
