-- Reading the modules of a crate text from left to right: what each function of the reader gives, on lists of words.
use Rattle.std.specs.Prelude.{ℕ, zero, suc, ◌≡◌, ◌<◌, Bool, true, false, not, ◌&&◌, List, [], ◌∷◌, length, drop, Option, Some, None, Result, Ok, Err, if◌then◌else◌}
use Rattle.std.specs.Str.{bytes_eq}
use Rattle.text_scan.specs.Steps.{◌>>=◌}
use Rattle.frag_words.specs.Words.{Word}
use Rattle.frag_words.specs.Readings.{Reading, among, word_is}
use Rattle.text_scan.specs.Numbers.{value_of}
use Rattle.rust_names.specs.Identifiers.{is_identifier}
use Rattle.frag_tree.specs.Numerals.{decimal_word, hexadecimal_word, truth_word, width_word}
use Rattle.frag_tree.specs.Registers.{kind_word}
use Rattle.frag_tree.specs.ModuleProductions.{modules_reading, read_blocks}
use Rattle.frag_tree.specs.Productions.{access_reading, field_reading, numeral_at, slot_reading}
use Rattle.frag_tree.specs.RegisterProductions.{marker_reading, number_test, number_write, reader_reading, reader_type, truth_test, truth_write, values_reading, writer_reading, writer_type}
use Rattle.frag_tree.specs.Trees.{BlockHead, BlockTree, CrateTree, ModuleTree, one_block, one_register, takes_index}
use Rattle.frag_tree.specs.declared.access.Access.{Access}
use Rattle.frag_tree.specs.declared.access.Body.{Body}
use Rattle.frag_tree.specs.declared.access.Body.TheVariants as body
use Rattle.frag_tree.specs.declared.block.Element.{Element}
use Rattle.frag_tree.specs.declared.block.Element.TheVariants as element
use Rattle.frag_tree.specs.declared.block.FieldType.{FieldType}
use Rattle.frag_tree.specs.declared.block.FieldType.TheVariants as holds
use Rattle.frag_tree.specs.declared.block.StructField.{StructField}
use Rattle.frag_tree.specs.declared.krate.Slot.{Slot}
use Rattle.frag_tree.specs.declared.krate.Version.{Version}
use Rattle.frag_tree.specs.declared.krate.Version.TheVariants.{One, Two}
use Rattle.frag_tree.specs.declared.register.Spot.{Spot}
use Rattle.frag_tree.specs.declared.register.Spot.TheVariants.{Fixed, Indexed}
use Rattle.frag_tree.specs.declared.register.BitKind.{BitKind}
use Rattle.frag_tree.specs.declared.register.BitKind.TheVariants as kind
use Rattle.frag_tree.specs.declared.register.Constant.{Constant}
use Rattle.frag_tree.specs.declared.register.NumberCall.{NumberCall}
use Rattle.frag_tree.specs.declared.register.ReadForm.TheVariants as read_form
use Rattle.frag_tree.specs.declared.register.Reader.{Reader}
use Rattle.frag_tree.specs.declared.register.RegisterModule.{RegisterModule}
use Rattle.frag_tree.specs.declared.register.TruthCall.{TruthCall}
use Rattle.frag_tree.specs.declared.register.Values.{Values}
use Rattle.frag_tree.specs.declared.register.Values.TheVariants as values
use Rattle.frag_tree.specs.declared.register.Writable.{Writable}
use Rattle.frag_tree.specs.declared.register.WriteForm.TheVariants as write_form
use Rattle.frag_tree.specs.declared.register.Writer.{Writer}
use Rattle.pac_base.specs.declared.width.Width.{Width}
use Rattle.pac_base.specs.declared.width.Width.TheVariants.{W8, W16, W32, W64}
use Rattle.frag_token.specs.declared.fault.Stop.{Stop}
use Rattle.frag_token.specs.declared.fault.Stop.TheVariants.{Unfit, Memory}
use Rattle.frag_tree.specs.declared.phrase.Phrase.{Phrase}
use Rattle.frag_tree.specs.declared.phrase.Phrase.TheVariants as phrase
use Rattle.frag_token.specs.declared.sign.Sign.{Sign}
use Rattle.frag_token.specs.declared.sign.Sign.TheVariants as sign
use Rattle.frag_token.specs.Signs.{sign_word}
use Rattle.frag_tree.specs.Phrases.{words_of, receiver, receiver_mut}
use Rattle.frag_token.specs.declared.list.Begins.{Begins}
use Rattle.frag_token.specs.declared.list.Begins.TheVariants.{Pub, Impl, NotCloser}
use Rattle.frag_token.specs.Reading.{Found, begins_pub, braced_at, phrase_at, sign_at}
use Rattle.frag_parts.specs.Reading.{head_at, register_at}

-- ---- modules

unfoldable pub block_at : (version : Version) → List Word → Found BlockTree
block_at version text = do
  head ← head_at text
  inside ← (modules_reading version).read head.1
  Some (record { head = head.0; inside = inside.0 }, inside.1)

unfoldable pub module_at : (version : Version) → List Word → Found ModuleTree
module_at version text = if sign_at 11 sign.Hash text then ((block_at version) text >>= λ unit. Some (one_block unit.0, unit.1)) else ((register_at version) text >>= λ unit. Some (one_register unit.0, unit.1))

-- the blocks up to the end of the text
unfoldable pub blocks_at : (version : Version) → List Word → Found (List BlockTree)
blocks_at version text = (read_blocks version) (length text) text >>= λ units. Some (units, [])

-- ---- the whole

unfoldable pub version_at : List Word → Found Version
version_at text = if sign_at 0 sign.Pub text then (phrase_at phrase.VersionTwo text >>= λ rest. Some (Two, rest)) else Some (One, text)

-- what stands before the block modules
unfoldable pub opening_at : List Word → Found (Version × List Slot)
opening_at text = do
  version ← version_at text
  rest ← phrase_at phrase.UsePrelude version.1
  rest ← phrase_at phrase.OpensPeripherals rest
  slots ← braced_at begins_pub slot_reading.read rest
  Some ((version.0, slots.0), slots.1)

-- the crate that a whole text spells
unfoldable pub crate_at : List Word → Found CrateTree
crate_at text = do
  opening ← opening_at text
  blocks ← blocks_at opening.0.0 opening.1
  Some (record { version = opening.0.0; slots = opening.0.1; blocks = blocks.0 }, blocks.1)
