-- The productions of the crate text are exact.
use Rattle.std.proofs.Common.{ℕ, ◌≡◌, List, [], ◌∷◌, ◌++◌, Bool, true, false, ◌⊎◌, inl, inr, refl, sym, ap, ◌∙◌}
use Rattle.std.specs.Prelude.{◌&&◌, codes}
use Rattle.std.specs.Str.{bytes_eq}
use Rattle.std.proofs.lemmas.Slice.Eq.{bytes_eq-Decides}
use Rattle.std.proofs.lemmas.Grind.{flat_map-append}
use Rattle.frag_words.specs.Lines.{piece_words}
use Rattle.frag_words.specs.Readings.{Reading, IsExact, behind, followed, pair, mapped, words_of_either, either, word_is, among}
use Rattle.frag_words.specs.Words.{Word, words_behind}
use Rattle.frag_words.proofs.Readings.{Tells, given, both_left, both_right, some_is, if_some, word_exact, spelled_exact, behind_exact, followed_exact, pair_exact, mapped_exact, either_exact}
use Rattle.frag_words.proofs.Further.{restated_exact, one_of_exact, choice_exact}
use Rattle.pac_base.specs.declared.width.Width.{Width}
use Rattle.pac_base.specs.declared.width.Width.TheVariants.{W8, W16, W32, W64}
use Rattle.frag_tree.specs.Phrases.{words_of, says, receiver}
use Rattle.frag_tree.specs.declared.phrase.Phrase.TheVariants as phrase
use Rattle.frag_tree.specs.declared.access.Access.{Access}
use Rattle.frag_tree.specs.declared.access.Body.{Body}
use Rattle.frag_tree.specs.declared.access.Body.TheVariants as body
use Rattle.frag_tree.specs.declared.block.Element.{Element}
use Rattle.frag_tree.specs.declared.block.Element.TheVariants as element
use Rattle.frag_tree.specs.declared.block.FieldType.{FieldType}
use Rattle.frag_tree.specs.declared.block.FieldType.TheVariants as holds
use Rattle.frag_tree.specs.declared.block.StructField.{StructField}
use Rattle.frag_tree.specs.declared.krate.Slot.{Slot}
use Rattle.frag_tree.specs.declared.register.BitKind.{BitKind}
use Rattle.frag_tree.specs.declared.register.BitKind.TheVariants as kind
use Rattle.frag_tree.specs.Blocks.{body_pieces, element_pieces, type_pieces}
use Rattle.rust_names.specs.Identifiers.{is_identifier}
use Rattle.frag_tree.specs.Numerals.{hexadecimal_word, decimal_word, width_word, truth_word}
use Rattle.frag_tree.specs.Productions.{identifier, numeral_at, hexadecimal_reading, decimal_reading, width_reading, truth_reading, kind_reading, slot_words, slot_of, slot_parts, slot_raw, slot_reading, element_words, element_of, element_parts, element_raw, element_reading, type_words, type_of, type_parts, type_raw, type_reading, field_words, field_of, field_parts, field_raw, field_reading, body_words, body_of, body_parts, body_raw, body_reading, index_reading, access_words, access_of, access_parts, access_raw, access_reading}
use Rattle.frag_tree.specs.Registers.{kind_word}
use Rattle.frag_tree.specs.Validity.{is_number, valid_slot, valid_element, valid_type, valid_field, valid_body, valid_access}
use Rattle.frag_tree.proofs.Digits.{hexadecimal_value, decimal_value}

-- ---- words

pub identifier_exact : IsExact Word identifier
identifier_exact = word_exact is_identifier

numeral_finds : (spell : ℕ → Word) (number : ℕ) → is_number number ≡ true → numeral_at spell number (spell number) ≡ given number
numeral_finds spell number valid = rw ((bytes_eq-Decides (spell number) (spell number)).1 refl, valid) refl

numeral_spells : (spell : ℕ → Word) (number value : ℕ) (word : Word) → numeral_at spell number word ≡ given value → (word ≡ spell value) × (is_number value ≡ true)
numeral_spells spell number value word h =
    let hit = if_some (bytes_eq word (spell number) && is_number number) (given number) value h in
    let same = some_is number value hit.1 in (
      (bytes_eq-Decides word (spell number)).0 (both_left (bytes_eq word (spell number)) (is_number number) hit.0) ∙ ap spell same,
      ap is_number (sym same) ∙ both_right (bytes_eq word (spell number)) (is_number number) hit.0,
    )

pub hexadecimal_exact : IsExact ℕ hexadecimal_reading
unfolding hexadecimal_reading
hexadecimal_exact = spelled_exact hexadecimal_word is_number _
    (λ number valid. ap (λ n. numeral_at hexadecimal_word n (hexadecimal_word number)) (hexadecimal_value number valid) ∙ numeral_finds hexadecimal_word number valid)
    (λ word value h. numeral_spells hexadecimal_word _ value word h)

pub decimal_exact : IsExact ℕ decimal_reading
unfolding decimal_reading
decimal_exact = spelled_exact decimal_word is_number _
    (λ number valid. ap (λ n. numeral_at decimal_word n (decimal_word number)) (decimal_value number valid) ∙ numeral_finds decimal_word number valid)
    (λ word value h. numeral_spells decimal_word _ value word h)

pub width_exact : IsExact Width width_reading
unfolding width_reading
width_exact = one_of_exact width_word (W8 ∷ W16 ∷ W32 ∷ W64 ∷ []) each
  where
    each : (value : Width) → among width_word (W8 ∷ W16 ∷ W32 ∷ W64 ∷ []) (width_word value) ≡ given value
    each W8 = refl
    each W16 = refl
    each W32 = refl
    each W64 = refl

pub truth_exact : IsExact Bool truth_reading
unfolding truth_reading
truth_exact = one_of_exact truth_word (true ∷ false ∷ []) each
  where
    each : (value : Bool) → among truth_word (true ∷ false ∷ []) (truth_word value) ≡ given value
    each true = refl
    each false = refl

pub kind_exact : IsExact BitKind kind_reading
unfolding kind_reading
kind_exact = one_of_exact kind_word (kind.Plain ∷ kind.OneToSet ∷ kind.ZeroToClear ∷ kind.OneToClear ∷ kind.ZeroToSet ∷ kind.OneToToggle ∷ kind.ZeroToToggle ∷ []) each
  where
    each : (value : BitKind) → among kind_word (kind.Plain ∷ kind.OneToSet ∷ kind.ZeroToClear ∷ kind.OneToClear ∷ kind.ZeroToSet ∷ kind.OneToToggle ∷ kind.ZeroToToggle ∷ []) (kind_word value) ≡ given value
    each kind.Plain = refl
    each kind.OneToSet = refl
    each kind.ZeroToClear = refl
    each kind.OneToClear = refl
    each kind.ZeroToSet = refl
    each kind.OneToToggle = refl
    each kind.ZeroToToggle = refl

-- a name is no other word
other_word : (hit : Bool) (word other : Word) → (hit ≡ true → word ≡ other) → is_identifier word ≡ true → is_identifier other ≡ false → hit ≡ false
other_word true word other same valid invalid = let impossible : true ≡ false = sym valid ∙ (ap is_identifier (same refl) ∙ invalid) in absurd cc
other_word false word other same valid invalid = refl

pub not_word : (word other : Word) → is_identifier word ≡ true → is_identifier other ≡ false → bytes_eq word other ≡ false
not_word word other valid invalid = other_word (bytes_eq word other) word other (bytes_eq-Decides word other).0 valid invalid

-- ---- slots

slot_raw_exact : IsExact (Word × (Word × ℕ)) slot_raw
unfolding slot_raw
slot_raw_exact =
    behind_exact (words_of phrase.Pub) _ (pair_exact identifier _ identifier_exact (behind_exact (words_of phrase.OpensPeriph) _ (pair_exact identifier _ identifier_exact (behind_exact (words_of phrase.BlockThenNext) _ (followed_exact hexadecimal_reading (λ _. words_of phrase.ClosesSlot) hexadecimal_exact)))))

pub slot_exact : IsExact Slot slot_reading
unfolding slot_reading slot_raw hexadecimal_reading words_behind
slot_exact = restated_exact slot_words valid_slot (mapped slot_of slot_parts slot_raw) (λ tree. refl) (λ tree. refl) (mapped_exact slot_of slot_parts slot_raw (λ tree. refl) (λ tree. refl) slot_raw_exact)

-- ---- elements

element_tells : Tells Word Word (word_is 1 (codes "<")) (behind (words_of phrase.OpensReg) (followed identifier (λ _. words_of phrase.ClosesReg))) (followed identifier (λ _. words_of phrase.OfBlock))
unfolding words_behind
element_tells = record { yes = λ tree rest valid. refl; no_other = λ tree rest valid. refl }

element_raw_exact : IsExact (Word ⊎ Word) element_raw
unfolding element_raw
element_raw_exact =
    either_exact (word_is 1 (codes "<")) _ _ element_tells
    (behind_exact (words_of phrase.OpensReg) _ (followed_exact identifier (λ _. words_of phrase.ClosesReg) identifier_exact))
    (followed_exact identifier (λ _. words_of phrase.OfBlock) identifier_exact)

pub element_exact : IsExact Element element_reading
unfolding element_reading element_raw words_behind
element_exact = restated_exact element_words valid_element (mapped element_of element_parts element_raw) same_words same_valid (mapped_exact element_of element_parts element_raw back forth element_raw_exact)
  where
    same_words : (tree : Element) → element_words tree ≡ element_raw.words (element_parts tree)
    same_words (element.Register name) = refl
    same_words (element.Block name) = refl

    same_valid : (tree : Element) → valid_element tree ≡ element_raw.is_valid (element_parts tree)
    same_valid (element.Register name) = refl
    same_valid (element.Block name) = refl

    back : (tree : Element) → element_of (element_parts tree) ≡ tree
    back (element.Register name) = refl
    back (element.Block name) = refl

    forth : (tree : Word ⊎ Word) → element_parts (element_of tree) ≡ tree
    forth (inl name) = refl
    forth (inr name) = refl

-- ---- types

abbrev gap_of_type : Reading ℕ
gap_of_type = behind (words_of phrase.OpensGap) (followed decimal_reading (λ _. words_of phrase.ClosesArray))

abbrev array_of_type : Reading (Element × ℕ)
array_of_type = behind (words_of phrase.OpensArray) (pair element_reading (behind (words_of phrase.Semicolon) (followed decimal_reading (λ _. words_of phrase.ClosesArray))))

-- behind a bracket no semicolon stands at the third place of an array
array_third : (element : Element) (count : ℕ) (rest : List Word) → word_is 2 (codes ";") (array_of_type.words (element, count) ++ rest) ≡ false
unfolding element_reading words_behind
array_third (element.Register name) count rest = refl
array_third (element.Block name) count rest = refl

gap_tells : Tells ℕ (Element × ℕ) (word_is 2 (codes ";")) gap_of_type array_of_type
unfolding words_behind decimal_reading
gap_tells = record { yes = λ tree rest valid. refl; no_other = λ tree rest valid. array_third tree.0 tree.1 rest }

-- an element begins with no bracket
element_first : (element : Element) (rest : List Word) → valid_element element ≡ true → word_is 0 (codes "[") (element_words element ++ rest) ≡ false
unfolding words_behind
element_first (element.Register name) rest valid = refl
element_first (element.Block name) rest valid = not_word name (codes "[") valid refl

bracket_first : (tree : ℕ ⊎ (Element × ℕ)) (rest : List Word) → word_is 0 (codes "[") (words_of_either gap_of_type array_of_type tree ++ rest) ≡ true
unfolding words_behind
bracket_first (inl bytes) rest = refl
bracket_first (inr parts) rest = refl

type_tells : Tells (ℕ ⊎ (Element × ℕ)) Element (word_is 0 (codes "[")) (either (word_is 2 (codes ";")) gap_of_type array_of_type) element_reading
unfolding element_reading
type_tells = record { yes = λ tree rest valid. bracket_first tree rest; no_other = λ tree rest valid. element_first tree rest valid }

type_raw_exact : IsExact ((ℕ ⊎ (Element × ℕ)) ⊎ Element) type_raw
unfolding type_raw
type_raw_exact =
    either_exact (word_is 0 (codes "[")) _ _ type_tells
    (either_exact (word_is 2 (codes ";")) _ _ gap_tells
    (behind_exact (words_of phrase.OpensGap) _ (followed_exact decimal_reading (λ _. words_of phrase.ClosesArray) decimal_exact))
    (behind_exact (words_of phrase.OpensArray) _ (pair_exact element_reading _ element_exact (behind_exact (words_of phrase.Semicolon) _ (followed_exact decimal_reading (λ _. words_of phrase.ClosesArray) decimal_exact)))))
    element_exact

pub type_exact : IsExact FieldType type_reading
unfolding type_reading type_raw element_reading decimal_reading words_behind
type_exact = restated_exact type_words valid_type (mapped type_of type_parts type_raw) same_words same_valid (mapped_exact type_of type_parts type_raw back forth type_raw_exact)
  where
    of_array : (element : Element) (count : ℕ) → type_words (holds.Array element count) ≡ type_raw.words (type_parts (holds.Array element count))
    of_array (element.Register name) count = refl
    of_array (element.Block name) count = refl

    same_words : (tree : FieldType) → type_words tree ≡ type_raw.words (type_parts tree)
    same_words (holds.One element) = refl
    same_words (holds.Array element count) = of_array element count
    same_words (holds.Gap bytes) = refl

    same_valid : (tree : FieldType) → valid_type tree ≡ type_raw.is_valid (type_parts tree)
    same_valid (holds.One element) = refl
    same_valid (holds.Array element count) = refl
    same_valid (holds.Gap bytes) = refl

    back : (tree : FieldType) → type_of (type_parts tree) ≡ tree
    back (holds.One element) = refl
    back (holds.Array element count) = refl
    back (holds.Gap bytes) = refl

    forth : (tree : (ℕ ⊎ (Element × ℕ)) ⊎ Element) → type_parts (type_of tree) ≡ tree
    forth (inl (inl bytes)) = refl
    forth (inl (inr parts)) = refl
    forth (inr element) = refl

-- ---- fields of a struct

field_raw_exact : IsExact (Word × FieldType) field_raw
unfolding field_raw
field_raw_exact = pair_exact identifier _ identifier_exact (behind_exact (words_of phrase.Colon) _ (followed_exact type_reading (λ _. words_of phrase.Comma) type_exact))

pub field_exact : IsExact StructField field_reading
unfolding field_reading field_raw type_reading words_behind
field_exact = restated_exact field_words valid_field (mapped field_of field_parts field_raw)
    (λ tree. ap (λ xs. (tree.name ∷ []) ++ (words_of phrase.Colon ++ xs)) (flat_map-append piece_words (type_pieces tree.holds) (says phrase.Comma ∷ [])))
    (λ tree. refl) (mapped_exact field_of field_parts field_raw (λ tree. refl) (λ tree. refl) field_raw_exact)

-- ---- bodies

abbrev field_of_body : Reading Word
field_of_body = behind (words_of phrase.FieldOfSelf) (followed identifier (λ _. words_of phrase.ClosesBody))

abbrev member_of_body : Reading Word
member_of_body = behind (words_of phrase.FieldOfSelf) (followed identifier (λ _. words_of phrase.ClosesMember))

abbrev at_of_body : Reading ℕ
at_of_body = behind (words_of phrase.OpensAt) (followed hexadecimal_reading (λ _. words_of phrase.ClosesCall))

abbrev at_index_of_body : Reading (ℕ × (ℕ × ℕ))
at_index_of_body = behind (words_of phrase.OpensAtIndex) (pair hexadecimal_reading (behind (words_of phrase.ThenNext) (pair decimal_reading (behind (words_of phrase.ThenNext) (followed decimal_reading (λ _. words_of phrase.ClosesAtIndex))))))

member_tells : Tells Word Word (word_is 4 (codes "}")) field_of_body member_of_body
unfolding words_behind
member_tells = record { yes = λ tree rest valid. refl; no_other = λ tree rest valid. refl }

at_tells : Tells ℕ (ℕ × (ℕ × ℕ)) (word_is 0 (codes "at")) at_of_body at_index_of_body
unfolding words_behind
at_tells = record { yes = λ tree rest valid. refl; no_other = λ tree rest valid. refl }

self_first : (tree : Word ⊎ Word) (rest : List Word) → word_is 0 (codes "&") (words_of_either field_of_body member_of_body tree ++ rest) ≡ true
unfolding words_behind
self_first (inl name) rest = refl
self_first (inr name) rest = refl

at_first : (tree : ℕ ⊎ (ℕ × (ℕ × ℕ))) (rest : List Word) → word_is 0 (codes "&") (words_of_either at_of_body at_index_of_body tree ++ rest) ≡ false
unfolding words_behind
at_first (inl offset) rest = refl
at_first (inr parts) rest = refl

body_raw_exact : IsExact ((Word ⊎ Word) ⊎ (ℕ ⊎ (ℕ × (ℕ × ℕ)))) body_raw
unfolding body_raw
body_raw_exact =
    either_exact (word_is 0 (codes "&")) _ _ (record { yes = λ tree rest valid. self_first tree rest; no_other = λ tree rest valid. at_first tree rest })
    (either_exact (word_is 4 (codes "}")) _ _ member_tells
    (behind_exact (words_of phrase.FieldOfSelf) _ (followed_exact identifier (λ _. words_of phrase.ClosesBody) identifier_exact))
    (behind_exact (words_of phrase.FieldOfSelf) _ (followed_exact identifier (λ _. words_of phrase.ClosesMember) identifier_exact)))
    (either_exact (word_is 0 (codes "at")) _ _ at_tells
    (behind_exact (words_of phrase.OpensAt) _ (followed_exact hexadecimal_reading (λ _. words_of phrase.ClosesCall) hexadecimal_exact))
    (behind_exact (words_of phrase.OpensAtIndex) _ (pair_exact hexadecimal_reading _ hexadecimal_exact (behind_exact (words_of phrase.ThenNext) _ (pair_exact decimal_reading _ decimal_exact (behind_exact (words_of phrase.ThenNext) _ (followed_exact decimal_reading (λ _. words_of phrase.ClosesAtIndex) decimal_exact)))))))

pub body_exact : IsExact Body body_reading
unfolding body_reading body_raw hexadecimal_reading decimal_reading words_behind
body_exact = restated_exact body_words valid_body (mapped body_of body_parts body_raw) same_words same_valid (mapped_exact body_of body_parts body_raw back forth body_raw_exact)
  where
    same_words : (tree : Body) → body_words tree ≡ body_raw.words (body_parts tree)
    same_words (body.Field field) = refl
    same_words (body.Member field) = refl
    same_words (body.At offset) = refl
    same_words (body.AtIndex offset stride count) = refl

    same_valid : (tree : Body) → valid_body tree ≡ body_raw.is_valid (body_parts tree)
    same_valid (body.Field field) = refl
    same_valid (body.Member field) = refl
    same_valid (body.At offset) = refl
    same_valid (body.AtIndex offset stride count) = refl

    back : (tree : Body) → body_of (body_parts tree) ≡ tree
    back (body.Field field) = refl
    back (body.Member field) = refl
    back (body.At offset) = refl
    back (body.AtIndex offset stride count) = refl

    forth : (tree : (Word ⊎ Word) ⊎ (ℕ ⊎ (ℕ × (ℕ × ℕ)))) → body_parts (body_of tree) ≡ tree
    forth (inl (inl field)) = refl
    forth (inl (inr field)) = refl
    forth (inr (inl offset)) = refl
    forth (inr (inr parts)) = refl

-- ---- accessors

index_exact : IsExact Bool index_reading
unfolding index_reading words_behind
index_exact = choice_exact (word_is 3 (codes ",")) (words_of (receiver true)) (words_of (receiver false)) (record { holds = λ rest. refl; fails = λ rest. refl })

index_words : (is_indexed : Bool) → words_of (receiver is_indexed) ≡ index_reading.words is_indexed
unfolding index_reading words_behind
index_words true = refl
index_words false = refl

index_valid : (is_indexed : Bool) → true ≡ index_reading.is_valid is_indexed
unfolding index_reading
index_valid true = refl
index_valid false = refl

access_raw_exact : IsExact (Word × (Bool × (Element × Body))) access_raw
unfolding access_raw
access_raw_exact =
    behind_exact (words_of phrase.PubFn) _ (pair_exact identifier _ identifier_exact (pair_exact index_reading _ index_exact (behind_exact (words_of phrase.Reference) _ (pair_exact element_reading _ element_exact (behind_exact (words_of phrase.OpensBody) body_reading body_exact)))))

access_words-are : (name : Word) (is_indexed : Bool) (element : Element) (body : Body) → access_words (record { name = name; is_indexed = is_indexed; element = element; body = body }) ≡ access_raw.words (name, (is_indexed, (element, body)))
unfolding access_raw element_reading body_reading
access_words-are name is_indexed element body =
    ap (λ xs. words_of phrase.PubFn ++ ((name ∷ []) ++ (words_of (receiver is_indexed) ++ (words_of phrase.Reference ++ xs))))
    (flat_map-append piece_words (element_pieces element) (says phrase.OpensBody ∷ body_pieces body))
    ∙ ap (λ xs. words_of phrase.PubFn ++ ((name ∷ []) ++ (xs ++ (words_of phrase.Reference ++ (element_words element ++ (words_of phrase.OpensBody ++ body_words body)))))) (index_words is_indexed)

pub access_exact : IsExact Access access_reading
unfolding access_reading access_raw element_reading body_reading
access_exact = restated_exact access_words valid_access (mapped access_of access_parts access_raw)
    (λ tree. access_words-are tree.name tree.is_indexed tree.element tree.body)
    (λ tree. ap (λ b. is_identifier tree.name && (b && (valid_element tree.element && valid_body tree.body))) (index_valid tree.is_indexed))
    (mapped_exact access_of access_parts access_raw (λ tree. refl) (λ tree. refl) access_raw_exact)
