-- The production of a crate is exact, up to the end of the text.
use Rattle.std.proofs.Common.{ℕ, ◌≡◌, ◌≤◌, List, [], ◌∷◌, ◌++◌, length, Bool, true, false, Option, Some, None, refl, sym, ap, ap₂, ◌∙◌, arith, zero, suc, length-append, drop}
use Rattle.std.specs.Prelude.{codes, option_map, if◌then◌else◌}
use Rattle.std.specs.List.{flat_map, list_all}
use Rattle.std.proofs.Math.Bool.{and-true}
use Rattle.std.proofs.lemmas.Grind.{flat_map-append}
use Rattle.frag_words.specs.Lines.{line_words, lines_words}
use Rattle.frag_words.specs.Readings.{IsExact, then_read, expected, word_is}
use Rattle.frag_words.specs.Words.{Word, words_behind}
use Rattle.frag_words.proofs.Readings.{given, both, both_left, both_right, some_is, then_some, expected-append, expected_some}
use Rattle.frag_tree.specs.declared.krate.Version.{Version}
use Rattle.frag_tree.specs.Phrases.{words_of, says}
use Rattle.frag_tree.specs.declared.krate.Version.TheVariants.{One, Two}
use Rattle.frag_tree.specs.declared.phrase.Phrase.TheVariants as phrase
use Rattle.frag_tree.specs.declared.krate.Slot.{Slot}
use Rattle.frag_tree.specs.Blocks.{opening_lines}
use Rattle.frag_tree.specs.Crates.{slot_line, slots_lines, top_lines, version_lines, crate_lines, crate_words}
use Rattle.frag_tree.specs.ModuleProductions.{block_words, block_reading, slots_reading, read_blocks, with_blocks, crate_head, read_parts, read_crate}
use Rattle.frag_tree.specs.Productions.{slot_reading}
use Rattle.frag_tree.specs.Trees.{BlockTree, CrateTree}
use Rattle.frag_tree.specs.Validity.{valid_slot, valid_block, valid_crate}
use Rattle.frag_tree.proofs.Braced.{braced_words, one_word, until_brace}
use Rattle.frag_tree.proofs.ModuleProductions.{block_exact}
use Rattle.frag_tree.proofs.Productions.{slot_exact}

slots_exact : IsExact (List Slot) slots_reading
unfolding slot_reading words_behind
slots_exact = until_brace slot_reading (λ tree rest. refl) slot_exact

block_again : (version : Version) → (unit : BlockTree) (rest : List Word) → (valid_block version) unit ≡ true → (block_reading version).read (block_words unit ++ rest) ≡ given (unit, rest)
unfolding block_reading
block_again version unit rest valid = (block_exact version).again unit rest valid

block_takes : (version : Version) → (unit : BlockTree) (words rest : List Word) → (block_reading version).read words ≡ given (unit, rest) → (words ≡ block_words unit ++ rest) × ((valid_block version) unit ≡ true)
unfolding block_reading
block_takes version unit words rest h = (block_exact version).takes words unit rest h

-- ---- blocks up to the end

no_blocks : (version : Version) → (n : ℕ) → (read_blocks version) n [] ≡ given []
unfolding read_blocks
no_blocks version zero = refl
no_blocks version (suc n) = refl

some_blocks : (version : Version) → (n : ℕ) (words : List Word) → 1 ≤ length words → (read_blocks version) (suc n) words ≡ then_read ((block_reading version).read words) (λ unit rest. option_map (λ units. unit ∷ units) ((read_blocks version) n rest))
unfolding read_blocks
some_blocks version n [] some = absurd (omega (arith, some))
some_blocks version n (first ∷ others) some = refl

block_some : (unit : BlockTree) (rest : List Word) → 1 ≤ length (block_words unit ++ rest)
unfolding opening_lines words_behind
block_some unit rest = one_word (codes "pub") (drop 1 (block_words unit ++ rest))

block_longer : (unit : BlockTree) → 1 ≤ length (block_words unit)
unfolding opening_lines words_behind
block_longer unit = one_word (codes "pub") (drop 1 (block_words unit))

blocks_again : (version : Version) → (n : ℕ) (units : List BlockTree) → list_all (valid_block version) units ≡ true → length (flat_map block_words units) ≤ n → (read_blocks version) n (flat_map block_words units) ≡ given units
blocks_again version n [] valid long = (no_blocks version) n
blocks_again version zero (unit ∷ units) valid long = absurd (omega (arith, long, block_some unit (flat_map block_words units)))
blocks_again version (suc n) (unit ∷ units) valid long =
    let left = flat_map block_words units in
    (some_blocks version) n (block_words unit ++ left) (block_some unit left)
    ∙ (ap (λ (o : Option (BlockTree × List Word)). then_read o (λ u rest. option_map (λ us. u ∷ us) ((read_blocks version) n rest))) ((block_again version) unit left (both_left ((valid_block version) unit) (list_all (valid_block version) units) valid))
    ∙ ap (option_map (λ us. unit ∷ us)) ((blocks_again version) n units (both_right ((valid_block version) unit) (list_all (valid_block version) units) valid) (omega (arith, long, block_longer unit, length-append (block_words unit) left))))

mapped_some : {A B : Type 0} (f : A → B) (o : Option A) (y : B) → option_map f o ≡ given y → (x : A) × (o ≡ given x) × (f x ≡ y)
mapped_some f None y h = absurd cc
mapped_some f (Some x) y h = (x, refl, some_is (f x) y h)

none_taken : (version : Version) → (n : ℕ) (units : List BlockTree) → (read_blocks version) n [] ≡ given units → ([] ≡ flat_map block_words units) × (list_all (valid_block version) units ≡ true)
none_taken version n units h =
    let is = some_is [] units (sym ((no_blocks version) n) ∙ h) in
    (ap (flat_map block_words) is, ap (list_all (valid_block version)) (sym is))

blocks_take : (version : Version) → (n : ℕ) (words : List Word) (units : List BlockTree) → (read_blocks version) n words ≡ given units → (words ≡ flat_map block_words units) × (list_all (valid_block version) units ≡ true)
unfolding read_blocks
blocks_take version n [] units h = (none_taken version) n units h
blocks_take version zero (first ∷ others) units h = absurd cc
blocks_take version (suc n) (first ∷ others) units h =
    let hit = then_some ((block_reading version).read (first ∷ others)) (λ unit rest. option_map (λ us. unit ∷ us) ((read_blocks version) n rest)) units h in
    let one = (block_takes version) hit.0.0 (first ∷ others) hit.0.1 hit.1 in
    let next = mapped_some (λ us. hit.0.0 ∷ us) ((read_blocks version) n hit.0.1) units hit.2 in
    let more = (blocks_take version) n hit.0.1 next.0 next.1 in (
      one.0 ∙ (ap (λ xs. block_words hit.0.0 ++ xs) more.0 ∙ ap (flat_map block_words) next.2),
      ap (list_all (valid_block version)) (sym next.2) ∙ both ((valid_block version) hit.0.0) (list_all (valid_block version) next.0) one.1 more.1,
    )

-- ---- the crate

tops_words : (units : List BlockTree) → lines_words (flat_map top_lines units) ≡ flat_map block_words units
tops_words [] = refl
tops_words (unit ∷ units) = flat_map-append line_words (top_lines unit) (flat_map top_lines units) ∙ ap (λ xs. block_words unit ++ xs) (tops_words units)

-- the words behind the line of the version: the head, the slots up to the brace, the blocks
abbrev pub parts_words : List Slot → List BlockTree → List Word
parts_words slots blocks = crate_head ++ (slots_reading.words slots ++ flat_map block_words blocks)

parts_words-are : (slots : List Slot) (blocks : List BlockTree) → lines_words (slots_lines slots ++ flat_map top_lines blocks) ≡ parts_words slots blocks
unfolding slot_reading words_behind
parts_words-are slots blocks =
    flat_map-append line_words (slots_lines slots) (flat_map top_lines blocks)
    ∙ ap₂ (λ xs ys. (words_of phrase.UsePrelude ++ xs) ++ ys) (braced_words 0 (says phrase.OpensPeripherals ∷ []) (slot_line 1) slots) (tops_words blocks)

-- the line of the version
abbrev pub version_words : Version → List Word
version_words One = []
version_words Two = words_of phrase.VersionTwo

version_lines-words : (version : Version) → lines_words (version_lines version) ≡ version_words version
unfolding words_behind
version_lines-words One = refl
version_lines-words Two = refl

-- the words of a crate
pub crate_words-are : (krate : CrateTree) → crate_words krate ≡ version_words krate.version ++ parts_words krate.slots krate.blocks
unfolding crate_lines
crate_words-are krate =
    flat_map-append line_words (version_lines krate.version) (slots_lines krate.slots ++ flat_map top_lines krate.blocks)
    ∙ ap₂ (λ xs ys. xs ++ ys) (version_lines-words krate.version) (parts_words-are krate.slots krate.blocks)

slots_are_valid : (slots : List Slot) → list_all valid_slot slots ≡ true → slots_reading.is_valid slots ≡ true
unfolding slot_reading
slots_are_valid slots valid = and-true (list_all valid_slot slots) ∙ valid

slots_valid : (slots : List Slot) → slots_reading.is_valid slots ≡ true → list_all valid_slot slots ≡ true
unfolding slot_reading
slots_valid slots valid = sym (and-true (list_all valid_slot slots)) ∙ valid

parts_again : (version : Version) (slots : List Slot) (blocks : List BlockTree) → list_all valid_slot slots ≡ true → list_all (valid_block version) blocks ≡ true → read_parts version (parts_words slots blocks) ≡ given (record { version = version; slots = slots; blocks = blocks })
unfolding read_parts
parts_again version slots blocks of_slots of_blocks =
    let left = flat_map block_words blocks in
    let step = λ (found : List Slot) (rest : List Word). with_blocks version found (read_blocks version (length rest) rest) in
    expected-append crate_head (slots_reading.words slots ++ left) (λ rest. then_read (slots_reading.read rest) step)
    ∙ (ap (λ (o : Option (List Slot × List Word)). then_read o step) (slots_exact.again slots left (slots_are_valid slots of_slots))
    ∙ ap (with_blocks version slots) (blocks_again version (length left) blocks of_blocks (omega arith)))

version_again : (version : Version) (slots : List Slot) (blocks : List BlockTree) → list_all valid_slot slots ≡ true → list_all (valid_block version) blocks ≡ true → read_crate (version_words version ++ parts_words slots blocks) ≡ given (record { version = version; slots = slots; blocks = blocks })
unfolding read_crate words_behind
version_again One slots blocks of_slots of_blocks = parts_again One slots blocks of_slots of_blocks
version_again Two slots blocks of_slots of_blocks = expected-append (words_of phrase.VersionTwo) (parts_words slots blocks) (read_parts Two) ∙ parts_again Two slots blocks of_slots of_blocks

-- A valid crate is read from its words.
pub crate_again : (krate : CrateTree) → valid_crate krate ≡ true → read_crate (crate_words krate) ≡ given krate
crate_again krate valid =
    ap read_crate (crate_words-are krate)
    ∙ version_again krate.version krate.slots krate.blocks (both_left (list_all valid_slot krate.slots) (list_all (valid_block krate.version) krate.blocks) valid) (both_right (list_all valid_slot krate.slots) (list_all (valid_block krate.version) krate.blocks) valid)

with_blocks_some : (version : Version) (slots : List Slot) (o : Option (List BlockTree)) (krate : CrateTree) → with_blocks version slots o ≡ given krate → (blocks : List BlockTree) × (o ≡ given blocks) × (record { version = version; slots = slots; blocks = blocks } ≡ krate)
with_blocks_some version slots None krate h = absurd cc
with_blocks_some version slots (Some blocks) krate h = (blocks, refl, some_is (record { version = version; slots = slots; blocks = blocks }) krate h)

-- what was read behind the line of the version
pub record PartsTaken (version : Version) (words : List Word) (krate : CrateTree) : Type 0 where
  pub of_version : krate.version ≡ version
  pub spelled : words ≡ parts_words krate.slots krate.blocks
  pub valid : valid_crate krate ≡ true

parts_take : (version : Version) (words : List Word) (krate : CrateTree) → read_parts version words ≡ given krate → PartsTaken version words krate
unfolding read_parts
parts_take version words krate h =
    let step = λ (slots : List Slot) (rest : List Word). with_blocks version slots (read_blocks version (length rest) rest) in
    let head = expected_some crate_head words (λ rest. then_read (slots_reading.read rest) step) krate h in
    let hit = then_some (slots_reading.read head.0) step krate head.2 in
    let slots = slots_exact.takes head.0 hit.0.0 hit.0.1 hit.1 in
    let last = with_blocks_some version hit.0.0 (read_blocks version (length hit.0.1) hit.0.1) krate hit.2 in
    let blocks = blocks_take version (length hit.0.1) hit.0.1 last.0 last.1 in
    let whole : words ≡ parts_words hit.0.0 last.0 = head.1 ∙ ap (λ xs. crate_head ++ xs) (slots.0 ∙ ap (λ xs. slots_reading.words hit.0.0 ++ xs) blocks.0) in
    record {
      of_version = ap (λ (k : CrateTree). k.version) (sym last.2);
      spelled = whole ∙ ap (λ (k : CrateTree). parts_words k.slots k.blocks) last.2;
      valid = ap valid_crate (sym last.2) ∙ both (list_all valid_slot hit.0.0) (list_all (valid_block version) last.0) (slots_valid hit.0.0 slots.1) blocks.1;
    }

-- the words of a crate of which the version is known
words_with : (version : Version) (words : List Word) (krate : CrateTree) → krate.version ≡ version → words ≡ version_words version ++ parts_words krate.slots krate.blocks → words ≡ crate_words krate
words_with version words krate is spelled = spelled ∙ (ap (λ v. version_words v ++ parts_words krate.slots krate.blocks) (sym is) ∙ sym (crate_words-are krate))

version_takes : (hit : Bool) (words : List Word) (krate : CrateTree) → (if hit then expected (words_of phrase.VersionTwo) words (read_parts Two) else read_parts One words) ≡ given krate → (words ≡ crate_words krate) × (valid_crate krate ≡ true)
version_takes true words krate h =
    let line = expected_some (words_of phrase.VersionTwo) words (read_parts Two) krate h in
    let taken = parts_take Two line.0 krate line.2 in
    (words_with Two words krate taken.of_version (line.1 ∙ ap (λ xs. words_of phrase.VersionTwo ++ xs) taken.spelled), taken.valid)
version_takes false words krate h =
    let taken = parts_take One words krate h in
    (words_with One words krate taken.of_version taken.spelled, taken.valid)

-- What is read of a whole text has the words of the crate, and is valid.
pub crate_takes : (words : List Word) (krate : CrateTree) → read_crate words ≡ given krate → (words ≡ crate_words krate) × (valid_crate krate ≡ true)
unfolding read_crate
crate_takes words krate h = version_takes (word_is 0 (codes "pub") words) words krate h

-- Two valid crates with the same words are one.
pub one_crate : (one other : CrateTree) → valid_crate one ≡ true → valid_crate other ≡ true → crate_words one ≡ crate_words other → one ≡ other
one_crate one other valid valid_other same = some_is one other (sym (crate_again one valid) ∙ (ap read_crate same ∙ crate_again other valid_other))
