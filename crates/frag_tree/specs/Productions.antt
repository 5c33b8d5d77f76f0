-- The productions of the crate text as readings of words: the words are those of the printed form, and the readers are put together in the order of the grammar.
use Rattle.std.specs.Prelude.{ℕ, List, [], ◌∷◌, Bool, true, false, ◌&&◌, Option, Some, None, codes, drop, if◌then◌else◌, ◌⊎◌}
use Rattle.std.proofs.Common.{inl, inr}
use Rattle.std.specs.List.{flat_map}
use Rattle.std.specs.Str.{bytes_eq}
use Rattle.frag_words.specs.Lines.{line_words, piece_words}
use Rattle.frag_words.specs.Readings.{Reading, word_where, spelled, behind, followed, pair, mapped, either, restated, word_is, one_of, choice}
use Rattle.frag_words.specs.Words.{Word}
use Rattle.pac_base.specs.declared.width.Width.{Width}
use Rattle.pac_base.specs.declared.width.Width.TheVariants.{W8, W16, W32, W64}
use Rattle.text_scan.specs.Numbers.{value_of}
use Rattle.frag_tree.specs.Phrases.{words_of, receiver}
use Rattle.frag_tree.specs.declared.phrase.Phrase.TheVariants as phrase
use Rattle.frag_tree.specs.declared.access.Access.{Access}
use Rattle.frag_tree.specs.declared.access.Body.{Body}
use Rattle.frag_tree.specs.declared.access.Body.TheVariants as body
use Rattle.frag_tree.specs.declared.block.Element.{Element}
use Rattle.frag_tree.specs.declared.block.Element.TheVariants as element
use Rattle.frag_tree.specs.declared.block.FieldType.{FieldType}
use Rattle.frag_tree.specs.declared.block.FieldType.TheVariants as holds
use Rattle.frag_tree.specs.declared.block.StructField.{StructField}
use Rattle.frag_tree.specs.declared.krate.Slot.{Slot}
use Rattle.frag_tree.specs.declared.register.BitKind.{BitKind}
use Rattle.frag_tree.specs.declared.register.BitKind.TheVariants as kind
use Rattle.frag_tree.specs.Blocks.{access_line, body_pieces, element_pieces, field_line, type_pieces}
use Rattle.frag_tree.specs.Crates.{slot_line}
use Rattle.rust_names.specs.Identifiers.{is_identifier}
use Rattle.frag_tree.specs.Numerals.{hexadecimal_word, decimal_word, width_word, truth_word}
use Rattle.frag_tree.specs.Registers.{kind_word}
use Rattle.frag_tree.specs.Validity.{is_number, valid_slot, valid_element, valid_type, valid_field, valid_body, valid_access}

-- ---- words

abbrev pub identifier : Reading Word
identifier = word_where is_identifier

-- the number, where the word is its numeral
abbrev pub numeral_at : (ℕ → Word) → ℕ → Word → Option ℕ
numeral_at spell number word = if bytes_eq word (spell number) && is_number number then Some number else None

unfoldable pub hexadecimal_reading : Reading ℕ
hexadecimal_reading = spelled hexadecimal_word is_number (λ word. numeral_at hexadecimal_word (value_of 16 (drop 2 word)) word)

unfoldable pub decimal_reading : Reading ℕ
decimal_reading = spelled decimal_word is_number (λ word. numeral_at decimal_word (value_of 10 word) word)

unfoldable pub width_reading : Reading Width
width_reading = one_of width_word (W8 ∷ W16 ∷ W32 ∷ W64 ∷ [])

unfoldable pub truth_reading : Reading Bool
truth_reading = one_of truth_word (true ∷ false ∷ [])

unfoldable pub kind_reading : Reading BitKind
kind_reading = one_of kind_word (kind.Plain ∷ kind.OneToSet ∷ kind.ZeroToClear ∷ kind.OneToClear ∷ kind.ZeroToSet ∷ kind.OneToToggle ∷ kind.ZeroToToggle ∷ [])

-- ---- slots

abbrev pub slot_words : Slot → List Word
slot_words slot = line_words (slot_line 0 slot)

abbrev pub slot_of : Word × (Word × ℕ) → Slot
slot_of parts = record { name = parts.0; block = parts.1.0; address = parts.1.1 }

abbrev pub slot_parts : Slot → Word × (Word × ℕ)
slot_parts slot = (slot.name, (slot.block, slot.address))

unfoldable pub slot_raw : Reading (Word × (Word × ℕ))
slot_raw =
    behind (words_of phrase.Pub) (pair identifier (behind (words_of phrase.OpensPeriph) (pair identifier (behind (words_of phrase.BlockThenNext) (followed hexadecimal_reading (λ _. words_of phrase.ClosesSlot))))))

unfoldable pub slot_reading : Reading Slot
slot_reading = restated slot_words valid_slot (mapped slot_of slot_parts slot_raw)

-- ---- blocks

abbrev pub element_words : Element → List Word
element_words element = flat_map piece_words (element_pieces element)

abbrev pub element_of : Word ⊎ Word → Element
element_of (inl name) = element.Register name
element_of (inr name) = element.Block name

abbrev pub element_parts : Element → Word ⊎ Word
element_parts (element.Register name) = inl name
element_parts (element.Block name) = inr name

unfoldable pub element_raw : Reading (Word ⊎ Word)
element_raw =
    either (word_is 1 (codes "<"))
    (behind (words_of phrase.OpensReg) (followed identifier (λ _. words_of phrase.ClosesReg)))
    (followed identifier (λ _. words_of phrase.OfBlock))

unfoldable pub element_reading : Reading Element
element_reading = restated element_words valid_element (mapped element_of element_parts element_raw)

abbrev pub type_words : FieldType → List Word
type_words type = flat_map piece_words (type_pieces type)

abbrev pub type_of : (ℕ ⊎ (Element × ℕ)) ⊎ Element → FieldType
type_of (inl (inl bytes)) = holds.Gap bytes
type_of (inl (inr parts)) = holds.Array parts.0 parts.1
type_of (inr element) = holds.One element

abbrev pub type_parts : FieldType → (ℕ ⊎ (Element × ℕ)) ⊎ Element
type_parts (holds.Gap bytes) = inl (inl bytes)
type_parts (holds.Array element count) = inl (inr (element, count))
type_parts (holds.One element) = inr element

unfoldable pub type_raw : Reading ((ℕ ⊎ (Element × ℕ)) ⊎ Element)
type_raw =
    either (word_is 0 (codes "["))
    (either (word_is 2 (codes ";"))
    (behind (words_of phrase.OpensGap) (followed decimal_reading (λ _. words_of phrase.ClosesArray)))
    (behind (words_of phrase.OpensArray) (pair element_reading (behind (words_of phrase.Semicolon) (followed decimal_reading (λ _. words_of phrase.ClosesArray))))))
    element_reading

unfoldable pub type_reading : Reading FieldType
type_reading = restated type_words valid_type (mapped type_of type_parts type_raw)

abbrev pub field_words : StructField → List Word
field_words field = line_words (field_line 0 field)

abbrev pub field_of : Word × FieldType → StructField
field_of parts = record { name = parts.0; holds = parts.1 }

abbrev pub field_parts : StructField → Word × FieldType
field_parts field = (field.name, field.holds)

unfoldable pub field_raw : Reading (Word × FieldType)
field_raw =
    pair identifier (behind (words_of phrase.Colon) (followed type_reading (λ _. words_of phrase.Comma)))

unfoldable pub field_reading : Reading StructField
field_reading = restated field_words valid_field (mapped field_of field_parts field_raw)

-- the body of an accessor, and the brace behind it
abbrev pub body_words : Body → List Word
body_words body = flat_map piece_words (body_pieces body)

abbrev pub body_of : (Word ⊎ Word) ⊎ (ℕ ⊎ (ℕ × (ℕ × ℕ))) → Body
body_of (inl (inl field)) = body.Field field
body_of (inl (inr field)) = body.Member field
body_of (inr (inl offset)) = body.At offset
body_of (inr (inr parts)) = body.AtIndex parts.0 parts.1.0 parts.1.1

abbrev pub body_parts : Body → (Word ⊎ Word) ⊎ (ℕ ⊎ (ℕ × (ℕ × ℕ)))
body_parts (body.Field field) = inl (inl field)
body_parts (body.Member field) = inl (inr field)
body_parts (body.At offset) = inr (inl offset)
body_parts (body.AtIndex offset stride count) = inr (inr (offset, (stride, count)))

unfoldable pub body_raw : Reading ((Word ⊎ Word) ⊎ (ℕ ⊎ (ℕ × (ℕ × ℕ))))
body_raw =
    either (word_is 0 (codes "&"))
    (either (word_is 4 (codes "}"))
    (behind (words_of phrase.FieldOfSelf) (followed identifier (λ _. words_of phrase.ClosesBody)))
    (behind (words_of phrase.FieldOfSelf) (followed identifier (λ _. words_of phrase.ClosesMember))))
    (either (word_is 0 (codes "at"))
    (behind (words_of phrase.OpensAt) (followed hexadecimal_reading (λ _. words_of phrase.ClosesCall)))
    (behind (words_of phrase.OpensAtIndex) (pair hexadecimal_reading (behind (words_of phrase.ThenNext) (pair decimal_reading (behind (words_of phrase.ThenNext) (followed decimal_reading (λ _. words_of phrase.ClosesAtIndex))))))))

unfoldable pub body_reading : Reading Body
body_reading = restated body_words valid_body (mapped body_of body_parts body_raw)

-- whether an accessor takes an index
unfoldable pub index_reading : Reading Bool
index_reading = choice (word_is 3 (codes ",")) (words_of (receiver true)) (words_of (receiver false))

abbrev pub access_words : Access → List Word
access_words access = line_words (access_line 0 access)

abbrev pub access_of : Word × (Bool × (Element × Body)) → Access
access_of parts = record { name = parts.0; is_indexed = parts.1.0; element = parts.1.1.0; body = parts.1.1.1 }

abbrev pub access_parts : Access → Word × (Bool × (Element × Body))
access_parts access = (access.name, (access.is_indexed, (access.element, access.body)))

unfoldable pub access_raw : Reading (Word × (Bool × (Element × Body)))
access_raw =
    behind (words_of phrase.PubFn) (pair identifier (pair index_reading (behind (words_of phrase.Reference) (pair element_reading (behind (words_of phrase.OpensBody) body_reading)))))

unfoldable pub access_reading : Reading Access
access_reading = restated access_words valid_access (mapped access_of access_parts access_raw)
