-- The printed form of block modules (this project's own templates, after what svd2rust prints).
use Rattle.std.specs.Prelude.{ℕ, ◌+◌, List, [], ◌∷◌, ◌++◌, map}
use Rattle.frag_words.specs.Lines.{Piece, Line, word, line, fixed, braced}
use Rattle.frag_tree.specs.Phrases.{text_of, says, receiver}
use Rattle.frag_tree.specs.declared.phrase.Phrase.TheVariants as phrase
use Rattle.frag_tree.specs.declared.access.Access.{Access}
use Rattle.frag_tree.specs.declared.access.Body.{Body}
use Rattle.frag_tree.specs.declared.access.Body.TheVariants as body
use Rattle.frag_tree.specs.declared.block.Element.{Element}
use Rattle.frag_tree.specs.declared.block.Element.TheVariants as element
use Rattle.frag_tree.specs.declared.block.FieldType.{FieldType}
use Rattle.frag_tree.specs.declared.block.FieldType.TheVariants as holds
use Rattle.frag_tree.specs.declared.block.StructField.{StructField}
use Rattle.frag_tree.specs.Numerals.{hexadecimal, decimal}
use Rattle.frag_tree.specs.Registers.{register_lines}
use Rattle.frag_tree.specs.Trees.{BlockHead, BlockTree, Modules, ModuleTree, ended, register, block, one_register, one_block}

-- `Reg<MODULE::Spec>`, `MODULE::RegisterBlock`
abbrev pub element_pieces : Element → List Piece
element_pieces (element.Register unit) = says phrase.OpensReg ∷ word unit ∷ says phrase.ClosesReg ∷ []
element_pieces (element.Block unit) = word unit ∷ says phrase.OfBlock ∷ []

-- `[ELEMENT; COUNT]`
abbrev pub array_pieces : Element → ℕ → List Piece
array_pieces element count = says phrase.OpensArray ∷ (element_pieces element ++ says phrase.Semicolon ∷ decimal count ∷ says phrase.ClosesArray ∷ [])

-- `ELEMENT`, `[ELEMENT; COUNT]`, `[u8; BYTES]`
abbrev pub type_pieces : FieldType → List Piece
type_pieces (holds.One element) = element_pieces element
type_pieces (holds.Array element count) = array_pieces element count
type_pieces (holds.Gap bytes) = says phrase.OpensGap ∷ decimal bytes ∷ says phrase.ClosesArray ∷ []

-- `NAME: TYPE,`
abbrev pub field_line : ℕ → StructField → Line
field_line depth field = line depth (word field.name ∷ says phrase.Colon ∷ (type_pieces field.holds ++ says phrase.Comma ∷ []))

-- `&self.FIELD }`, `&self.FIELD[n] }`, `at(self, OFFSET) }`, `at_index(self, OFFSET, STRIDE, COUNT, n) }`
abbrev pub body_pieces : Body → List Piece
body_pieces (body.Field field) = says phrase.FieldOfSelf ∷ word field ∷ says phrase.ClosesBody ∷ []
body_pieces (body.Member field) = says phrase.FieldOfSelf ∷ word field ∷ says phrase.ClosesMember ∷ []
body_pieces (body.At offset) = says phrase.OpensAt ∷ hexadecimal offset ∷ says phrase.ClosesCall ∷ []
body_pieces (body.AtIndex offset stride count) =
    says phrase.OpensAtIndex ∷ hexadecimal offset ∷ says phrase.ThenNext ∷ decimal stride ∷ says phrase.ThenNext ∷ decimal count ∷ says phrase.ClosesAtIndex ∷ []

-- `pub fn NAME(&self) -> &ELEMENT { BODY }`
abbrev pub access_line : ℕ → Access → Line
access_line depth access =
    line depth (says phrase.PubFn ∷ word access.name ∷ says (receiver access.is_indexed) ∷ says phrase.Reference ∷ (element_pieces access.element ++ says phrase.OpensBody ∷ body_pieces access.body))

-- the struct of a block
abbrev pub struct_lines : ℕ → List StructField → List Line
struct_lines depth fields =
    fixed depth (text_of phrase.ReprC) ∷ braced depth (says phrase.OpensStruct ∷ []) (map (field_line (depth + 1)) fields)

-- the accessors of a block
abbrev pub accessor_lines : ℕ → List Access → List Line
accessor_lines depth accessors = braced depth (says phrase.BlockImpl ∷ []) (map (access_line (depth + 1)) accessors)

-- `pub mod NAME {`
abbrev pub module_opening : List ℕ → List Piece
module_opening name = says phrase.PubMod ∷ word name ∷ says phrase.OpensModule ∷ []

-- the prelude is in scope in each module
abbrev pub prelude_line : ℕ → Line
prelude_line depth = fixed depth (text_of phrase.UsePrelude)

-- what stands in a block module before the modules inside it: its opening, the prelude, the struct, the accessors
unfoldable pub opening_lines : ℕ → BlockHead → List Line
opening_lines depth head =
    line depth (module_opening head.name) ∷ (prelude_line (depth + 1) ∷ (struct_lines (depth + 1) head.fields ++ accessor_lines (depth + 1) head.accessors))

-- a block module, with the lines of the modules inside it
abbrev pub block_lines : ℕ → BlockHead → List Line → List Line
block_lines depth head inside = opening_lines depth head ++ (inside ++ fixed depth (text_of phrase.Closer) ∷ [])

-- modules in their order
unfoldable pub modules_lines : ℕ → Modules → List Line
modules_lines depth ended = []
modules_lines depth (register unit others) = register_lines depth unit ++ modules_lines depth others
modules_lines depth (block head inside others) = block_lines depth head (modules_lines (depth + 1) inside) ++ modules_lines depth others

abbrev pub block_tree_lines : ℕ → BlockTree → List Line
block_tree_lines depth unit = block_lines depth unit.head (modules_lines (depth + 1) unit.inside)

-- one module
abbrev pub module_lines : ℕ → ModuleTree → List Line
module_lines depth (one_register unit) = register_lines depth unit
module_lines depth (one_block unit) = block_tree_lines depth unit
