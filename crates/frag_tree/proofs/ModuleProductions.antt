-- The productions of block modules and of the modules inside one parent are exact.
use Rattle.std.proofs.Common.{ℕ, ◌≡◌, ◌≤◌, ◌+◌, List, [], ◌∷◌, ◌++◌, length, Bool, true, false, Option, ◌⊎◌, inl, inr, refl, sym, ap, ap₂, ◌∙◌, map, append_assoc, arith, zero, suc, length-append, drop}
use Rattle.std.specs.Prelude.{◌&&◌, not, codes, if◌then◌else◌}
use Rattle.std.specs.List.{list_all}
use Rattle.std.proofs.Math.Bool.{and-true}
use Rattle.std.proofs.lemmas.Grind.{flat_map-append}
use Rattle.std.proofs.lemmas.List.{append-nil}
use Rattle.frag_words.specs.Lines.{Line, fixed, braced, line_words, lines_words}
use Rattle.frag_words.specs.Readings.{IsExact, then_read, expected, pair, mapped, either, word_is}
use Rattle.frag_words.specs.Words.{Word, words_behind}
use Rattle.frag_words.proofs.Readings.{Tells, given, both, both_left, both_right, some_is, then_some, expected_some, behind_exact, pair_exact, mapped_exact, either_exact}
use Rattle.frag_words.proofs.Further.{restated_exact, list_until_exact}
use Rattle.frag_tree.specs.declared.krate.Version.{Version}
use Rattle.frag_tree.specs.Phrases.{text_of, words_of, says}
use Rattle.frag_tree.specs.declared.phrase.Phrase.TheVariants as phrase
use Rattle.frag_tree.specs.declared.access.Access.{Access}
use Rattle.frag_tree.specs.declared.block.StructField.{StructField}
use Rattle.frag_tree.specs.declared.register.RegisterModule.{RegisterModule}
use Rattle.frag_tree.specs.Blocks.{opening_lines, modules_lines, block_lines, field_line, access_line, accessor_lines}
use Rattle.rust_names.specs.Identifiers.{is_identifier}
use Rattle.frag_tree.specs.ModuleProductions.{head_words, head_of, head_parts, fields_reading, head_raw, head_reading, with_register, with_block, with_end, read_modules, modules_words, modules_reading, block_words, block_of, block_parts, block_reading, module_words, valid_module, module_of, module_side, module_reading}
use Rattle.frag_tree.specs.Productions.{identifier, field_reading, access_reading}
use Rattle.frag_tree.specs.RegisterProductions.{calls_until, register_words, register_reading}
use Rattle.frag_tree.specs.Registers.{register_lines}
use Rattle.frag_tree.specs.Trees.{BlockHead, BlockTree, ModuleTree, Modules, ended, register, block, one_register, one_block}
use Rattle.frag_tree.specs.Validity.{valid_field, valid_access, valid_head, valid_modules, valid_block, valid_register}
use Rattle.frag_tree.proofs.Braced.{braced_words, one_word, until_brace}
use Rattle.frag_tree.proofs.Productions.{identifier_exact, field_exact, access_exact, not_word}
use Rattle.frag_tree.proofs.RegisterModules.{register_lines-words, register_exact}

-- ---- heads

-- a name is no brace, so a field of a struct begins with none
field_first : (field : StructField) (rest : List Word) → valid_field field ≡ true → not (word_is 0 (codes "}") (field_reading.words field ++ rest)) ≡ true
unfolding field_reading words_behind
field_first field rest valid = ap not (not_word field.name (codes "}") (both_left (is_identifier field.name) _ valid) refl)

fields_exact : IsExact (List StructField) fields_reading
unfolding fields_reading field_reading words_behind
fields_exact = list_until_exact (λ text. not (word_is 0 (codes "}") text)) field_reading (words_of phrase.Closer)
    (record { tells = record { yes = field_first; no_other = λ tree rest valid. refl }; some = λ tree valid. one_word tree.name (drop 1 (field_reading.words tree)) })
    field_exact

accessors_exact : IsExact (List Access) (calls_until access_reading)
unfolding access_reading words_behind
accessors_exact = until_brace access_reading (λ tree rest. refl) access_exact

head_raw_exact : IsExact (Word × (List StructField × List Access)) head_raw
unfolding head_raw
head_raw_exact = behind_exact (words_of phrase.PubMod) _ (pair_exact identifier _ identifier_exact (behind_exact (words_of phrase.OpensModule) _ (behind_exact (words_of phrase.UsePrelude) _ (behind_exact (words_of phrase.ReprC) _ (behind_exact (words_of phrase.OpensStruct) _ (pair_exact fields_reading _ fields_exact (behind_exact (words_of phrase.BlockImpl) (calls_until access_reading) accessors_exact)))))))

-- the words of a head at any depth
opening_lines-words : (depth : ℕ) (head : BlockHead) → lines_words (opening_lines depth head) ≡ head_raw.words (head_parts head)
unfolding opening_lines head_raw fields_reading field_reading access_reading words_behind
opening_lines-words depth head =
    ap (λ xs. words_of phrase.PubMod ++ ((head.name ∷ []) ++ ((words_of phrase.OpensModule ++ (words_of phrase.UsePrelude ++ words_of phrase.ReprC)) ++ xs)))
    (flat_map-append line_words (braced (depth + 1) (says phrase.OpensStruct ∷ []) (map (field_line (depth + 1 + 1)) head.fields)) (accessor_lines (depth + 1) head.accessors)
    ∙ ap₂ (λ xs ys. xs ++ ys)
    (braced_words (depth + 1) (says phrase.OpensStruct ∷ []) (field_line (depth + 1 + 1)) head.fields)
    (braced_words (depth + 1) (says phrase.BlockImpl ∷ []) (access_line (depth + 1 + 1)) head.accessors))

head_valid : (head : BlockHead) → valid_head head ≡ head_raw.is_valid (head_parts head)
unfolding head_raw fields_reading field_reading access_reading
head_valid head = ap₂ (λ x y. is_identifier head.name && (x && y)) (sym (and-true (list_all valid_field head.fields))) (sym (and-true (list_all valid_access head.accessors)))

pub head_exact : IsExact BlockHead head_reading
unfolding head_reading
head_exact = restated_exact head_words valid_head (mapped head_of head_parts head_raw) (opening_lines-words 0) head_valid (mapped_exact head_of head_parts head_raw (λ tree. refl) (λ tree. refl) head_raw_exact)

-- ---- the words of modules

abbrev closer : List Word
closer = words_of phrase.Closer

-- the words of modules, module by module
tokens : Modules → List Word
tokens ended = []
tokens (register unit others) = register_words unit ++ tokens others
tokens (block head inside others) = head_words head ++ (tokens inside ++ (closer ++ tokens others))

register_depth : (version : Version) → (depth : ℕ) (unit : RegisterModule) → lines_words (register_lines depth unit) ≡ register_words unit
register_depth version depth unit = (register_lines-words version) depth unit ∙ sym ((register_lines-words version) 0 unit)

head_depth : (depth : ℕ) (head : BlockHead) → lines_words (opening_lines depth head) ≡ head_words head
head_depth depth head = opening_lines-words depth head ∙ sym (opening_lines-words 0 head)

-- a block, of whose inside the words are known
block_lines-words : (depth : ℕ) (head : BlockHead) (inside : List Line) (words : List Word) → lines_words inside ≡ words → lines_words (block_lines depth head inside) ≡ head_words head ++ (words ++ closer)
block_lines-words depth head inside words are =
    flat_map-append line_words (opening_lines depth head) (inside ++ fixed depth (text_of phrase.Closer) ∷ [])
    ∙ ap₂ (λ xs ys. xs ++ ys) (head_depth depth head)
    (flat_map-append line_words inside (fixed depth (text_of phrase.Closer) ∷ [])
    ∙ ap₂ (λ xs ys. xs ++ ys) are (append-nil (line_words (fixed depth (text_of phrase.Closer))) ∙ append-nil closer))

modules_lines-words : (version : Version) → (depth : ℕ) (modules : Modules) → lines_words (modules_lines depth modules) ≡ tokens modules
unfolding modules_lines tokens
modules_lines-words version depth ended = refl
modules_lines-words version depth (register unit others) =
    flat_map-append line_words (register_lines depth unit) (modules_lines depth others)
    ∙ ap₂ (λ xs ys. xs ++ ys) ((register_depth version) depth unit) ((modules_lines-words version) depth others)
modules_lines-words version depth (block head inside others) =
    flat_map-append line_words (block_lines depth head (modules_lines (depth + 1) inside)) (modules_lines depth others)
    ∙ (ap₂ (λ xs ys. xs ++ ys) (block_lines-words depth head (modules_lines (depth + 1) inside) (tokens inside) ((modules_lines-words version) (depth + 1) inside)) ((modules_lines-words version) depth others)
    ∙ (append_assoc (head_words head) (tokens inside ++ closer) (tokens others)
    ∙ ap (λ xs. head_words head ++ xs) (append_assoc (tokens inside) closer (tokens others))))

-- ---- what modules begin with

register_first : (unit : RegisterModule) (rest : List Word) → word_is 0 (codes "pub") (register_words unit ++ rest) ≡ true
unfolding register_lines words_behind
register_first unit rest = refl

register_eleventh : (unit : RegisterModule) (rest : List Word) → word_is 11 (codes "#") (register_words unit ++ rest) ≡ false
unfolding register_lines words_behind
register_eleventh unit rest = refl

head_first : (head : BlockHead) (rest : List Word) → word_is 0 (codes "pub") (head_words head ++ rest) ≡ true
unfolding opening_lines words_behind
head_first head rest = refl

head_eleventh : (head : BlockHead) (rest : List Word) → word_is 11 (codes "#") (head_words head ++ rest) ≡ true
unfolding opening_lines words_behind
head_eleventh head rest = refl

-- ---- reading modules again

at_register : (version : Version) → (n : ℕ) (words : List Word) → word_is 0 (codes "pub") words ≡ true → word_is 11 (codes "#") words ≡ false → (read_modules version) (suc n) words ≡ then_read ((register_reading version).read words) (λ unit rest. then_read ((read_modules version) n rest) (with_register unit))
unfolding read_modules
at_register version n words first eleventh = rw (first, eleventh) refl

at_block : (version : Version) → (n : ℕ) (words : List Word) → word_is 0 (codes "pub") words ≡ true → word_is 11 (codes "#") words ≡ true → (read_modules version) (suc n) words ≡ then_read (head_reading.read words) (λ head rest. then_read ((read_modules version) n rest) (λ inside left. then_read ((read_modules version) n left) (with_block head inside)))
unfolding read_modules
at_block version n words first eleventh = rw (first, eleventh) refl

at_closer : (version : Version) → (n : ℕ) (rest : List Word) → (read_modules version) (suc n) (closer ++ rest) ≡ given (ended, rest)
unfolding read_modules words_behind
at_closer version n rest = refl

closer_some : (rest : List Word) → 1 ≤ length (closer ++ rest)
unfolding words_behind
closer_some rest = one_word (codes "}") rest

register_some : (unit : RegisterModule) → 1 ≤ length (register_words unit)
unfolding register_lines words_behind
register_some unit = one_word (codes "pub") (drop 1 (register_words unit))

head_some : (head : BlockHead) → 1 ≤ length (head_words head)
unfolding opening_lines words_behind
head_some head = one_word (codes "pub") (drop 1 (head_words head))

-- what is left is shorter
shorter : (first left : List Word) (n : ℕ) → 1 ≤ length first → length (first ++ left) ≤ suc n → length left ≤ n
shorter first left n some long = omega (arith, length-append first left)

-- nothing stands before an end of no words
never : {C : Type 0} (first left : List Word) → 1 ≤ length left → length (first ++ left) ≤ zero → C
never first left some long = absurd (omega (arith, length-append first left))

register_again : (version : Version) → (unit : RegisterModule) (rest : List Word) → (valid_register version) unit ≡ true → (register_reading version).read (register_words unit ++ rest) ≡ given (unit, rest)
unfolding register_reading
register_again version unit rest valid = (register_exact version).again unit rest valid

head_again : (head : BlockHead) (rest : List Word) → valid_head head ≡ true → head_reading.read (head_words head ++ rest) ≡ given (head, rest)
unfolding head_reading
head_again head rest valid = head_exact.again head rest valid

modules_again : (version : Version) → (n : ℕ) (modules : Modules) (rest : List Word) → (valid_modules version) modules ≡ true → length (tokens modules ++ (closer ++ rest)) ≤ n → (read_modules version) n (tokens modules ++ (closer ++ rest)) ≡ given (modules, rest)
unfolding tokens valid_modules
modules_again version zero modules rest valid long = never (tokens modules) (closer ++ rest) (closer_some rest) long
modules_again version (suc n) ended rest valid long = (at_closer version) n rest
modules_again version (suc n) (register unit others) rest valid long =
    let left = tokens others ++ (closer ++ rest) in
    let whole : (register_words unit ++ tokens others) ++ (closer ++ rest) ≡ register_words unit ++ left = append_assoc (register_words unit) (tokens others) (closer ++ rest) in
    let fewer = shorter (register_words unit) left n (register_some unit) (omega (arith, long, ap length whole)) in
    ap ((read_modules version) (suc n)) whole
    ∙ ((at_register version) n (register_words unit ++ left) (register_first unit left) (register_eleventh unit left)
    ∙ (ap (λ (o : Option (RegisterModule × List Word)). then_read o (λ u end. then_read ((read_modules version) n end) (with_register u))) ((register_again version) unit left (both_left ((valid_register version) unit) ((valid_modules version) others) valid))
    ∙ ap (λ (o : Option (Modules × List Word)). then_read o (with_register unit)) ((modules_again version) n others rest (both_right ((valid_register version) unit) ((valid_modules version) others) valid) fewer)))
modules_again version (suc n) (block head inside others) rest valid long =
    let last = tokens others ++ (closer ++ rest) in
    let left = tokens inside ++ (closer ++ last) in
    let whole : (head_words head ++ (tokens inside ++ (closer ++ tokens others))) ++ (closer ++ rest) ≡ head_words head ++ left = simp append_assoc refl in
    let within = shorter (head_words head) left n (head_some head) (omega (arith, long, ap length whole)) in
    let beyond : length last ≤ n = omega (arith, within, length-append (tokens inside) (closer ++ last), length-append closer last) in
    let valid_both = both_right (valid_head head) ((valid_modules version) inside && (valid_modules version) others) valid in
    ap ((read_modules version) (suc n)) whole
    ∙ ((at_block version) n (head_words head ++ left) (head_first head left) (head_eleventh head left)
    ∙ (ap (λ (o : Option (BlockHead × List Word)). then_read o (λ h end. then_read ((read_modules version) n end) (λ i more. then_read ((read_modules version) n more) (with_block h i)))) (head_again head left (both_left (valid_head head) ((valid_modules version) inside && (valid_modules version) others) valid))
    ∙ (ap (λ (o : Option (Modules × List Word)). then_read o (λ i more. then_read ((read_modules version) n more) (with_block head i))) ((modules_again version) n inside last (both_left ((valid_modules version) inside) ((valid_modules version) others) valid_both) within)
    ∙ ap (λ (o : Option (Modules × List Word)). then_read o (with_block head inside)) ((modules_again version) n others rest (both_right ((valid_modules version) inside) ((valid_modules version) others) valid_both) beyond))))

-- ---- what was read was printed

one_of_three : {A : Type 0} (p q : Bool) (one other last : Option A) (y : A) → (if p then (if q then one else other) else last) ≡ given y → (one ≡ given y) ⊎ ((other ≡ given y) ⊎ (last ≡ given y))
one_of_three true true one other last y h = inl h
one_of_three true false one other last y h = inr (inl h)
one_of_three false q one other last y h = inr (inr h)

-- what was taken
abbrev Taken : (version : Version) → List Word → Modules → List Word → Type 0
Taken version words modules rest = (words ≡ tokens modules ++ (closer ++ rest)) × ((valid_modules version) modules ≡ true)

taken_as : (version : Version) → (words : List Word) (one modules : Modules) (end rest : List Word) → given {A = Modules × List Word} (one, end) ≡ given (modules, rest) → (Taken version) words one end → (Taken version) words modules rest
taken_as version words one modules end rest same taken =
    let is = some_is (one, end) (modules, rest) same in
    (taken.0 ∙ ap (λ (p : Modules × List Word). tokens p.0 ++ (closer ++ p.1)) is, ap (λ (p : Modules × List Word). (valid_modules version) p.0) (sym is) ∙ taken.1)

-- the reader takes what it reads of at most so many modules
abbrev Takes : (version : Version) → ℕ → Type 0
Takes version n = (words : List Word) (modules : Modules) (rest : List Word) → (read_modules version) n words ≡ given (modules, rest) → (Taken version) words modules rest

register_takes : (version : Version) → (unit : RegisterModule) (words rest : List Word) → (register_reading version).read words ≡ given (unit, rest) → (words ≡ register_words unit ++ rest) × ((valid_register version) unit ≡ true)
unfolding register_reading
register_takes version unit words rest h = (register_exact version).takes words unit rest h

head_takes : (head : BlockHead) (words rest : List Word) → head_reading.read words ≡ given (head, rest) → (words ≡ head_words head ++ rest) × (valid_head head ≡ true)
unfolding head_reading
head_takes head words rest h = head_exact.takes words head rest h

take_register : (version : Version) → (n : ℕ) → (Takes version) n → (words : List Word) (modules : Modules) (rest : List Word) → then_read ((register_reading version).read words) (λ unit left. then_read ((read_modules version) n left) (with_register unit)) ≡ given (modules, rest) → (Taken version) words modules rest
unfolding tokens valid_modules
take_register version n others_take words modules rest h =
    let hit = then_some ((register_reading version).read words) (λ unit left. then_read ((read_modules version) n left) (with_register unit)) (modules, rest) h in
    let first = (register_takes version) hit.0.0 words hit.0.1 hit.1 in
    let next = then_some ((read_modules version) n hit.0.1) (with_register hit.0.0) (modules, rest) hit.2 in
    let more = others_take hit.0.1 next.0.0 next.0.1 next.1 in
    (taken_as version) words (register hit.0.0 next.0.0) modules next.0.1 rest next.2 (
      first.0 ∙ (ap (λ xs. register_words hit.0.0 ++ xs) more.0 ∙ sym (append_assoc (register_words hit.0.0) (tokens next.0.0) (closer ++ next.0.1))),
      both ((valid_register version) hit.0.0) ((valid_modules version) next.0.0) first.1 more.1,
    )

take_block : (version : Version) → (n : ℕ) → (Takes version) n → (words : List Word) (modules : Modules) (rest : List Word) → then_read (head_reading.read words) (λ head left. then_read ((read_modules version) n left) (λ inside more. then_read ((read_modules version) n more) (with_block head inside))) ≡ given (modules, rest) → (Taken version) words modules rest
unfolding tokens valid_modules
take_block version n others_take words modules rest h =
    let hit = then_some (head_reading.read words) (λ head left. then_read ((read_modules version) n left) (λ inside more. then_read ((read_modules version) n more) (with_block head inside))) (modules, rest) h in
    let first = head_takes hit.0.0 words hit.0.1 hit.1 in
    let next = then_some ((read_modules version) n hit.0.1) (λ inside more. then_read ((read_modules version) n more) (with_block hit.0.0 inside)) (modules, rest) hit.2 in
    let within = others_take hit.0.1 next.0.0 next.0.1 next.1 in
    let last = then_some ((read_modules version) n next.0.1) (with_block hit.0.0 next.0.0) (modules, rest) next.2 in
    let beyond = others_take next.0.1 last.0.0 last.0.1 last.1 in
    let whole : head_words hit.0.0 ++ (tokens next.0.0 ++ (closer ++ (tokens last.0.0 ++ (closer ++ last.0.1)))) ≡ (head_words hit.0.0 ++ (tokens next.0.0 ++ (closer ++ tokens last.0.0))) ++ (closer ++ last.0.1) = simp append_assoc refl in
    (taken_as version) words (block hit.0.0 next.0.0 last.0.0) modules last.0.1 rest last.2 (
      first.0 ∙ (ap (λ xs. head_words hit.0.0 ++ xs) (within.0 ∙ ap (λ xs. tokens next.0.0 ++ (closer ++ xs)) beyond.0) ∙ whole),
      both (valid_head hit.0.0) ((valid_modules version) next.0.0 && (valid_modules version) last.0.0) first.1 (both ((valid_modules version) next.0.0) ((valid_modules version) last.0.0) within.1 beyond.1),
    )

take_closer : (version : Version) → (words : List Word) (modules : Modules) (rest : List Word) → expected closer words with_end ≡ given (modules, rest) → (Taken version) words modules rest
unfolding tokens valid_modules
take_closer version words modules rest h =
    let hit = expected_some closer words with_end (modules, rest) h in
    (taken_as version) words ended modules hit.0 rest hit.2 (hit.1, refl)

take_one : (version : Version) → (n : ℕ) → (Takes version) n → (words : List Word) (modules : Modules) (rest : List Word) → (then_read (head_reading.read words) (λ head left. then_read ((read_modules version) n left) (λ inside more. then_read ((read_modules version) n more) (with_block head inside))) ≡ given (modules, rest)) ⊎ ((then_read ((register_reading version).read words) (λ unit left. then_read ((read_modules version) n left) (with_register unit)) ≡ given (modules, rest)) ⊎ (expected closer words with_end ≡ given (modules, rest))) → (Taken version) words modules rest
take_one version n others_take words modules rest (inl h) = (take_block version) n others_take words modules rest h
take_one version n others_take words modules rest (inr (inl h)) = (take_register version) n others_take words modules rest h
take_one version n others_take words modules rest (inr (inr h)) = (take_closer version) words modules rest h

modules_take : (version : Version) → (n : ℕ) → (Takes version) n
unfolding read_modules
modules_take version zero words modules rest h = absurd cc
modules_take version (suc n) words modules rest h =
    (take_one version) n ((modules_take version) n) words modules rest
    (one_of_three (word_is 0 (codes "pub") words) (word_is 11 (codes "#") words) (then_read (head_reading.read words) (λ head left. then_read ((read_modules version) n left) (λ inside more. then_read ((read_modules version) n more) (with_block head inside)))) (then_read ((register_reading version).read words) (λ unit left. then_read ((read_modules version) n left) (with_register unit))) (expected closer words with_end) (modules, rest) h)

pub modules_exact : (version : Version) → IsExact Modules (modules_reading version)
unfolding modules_reading
modules_exact version = record {
  again = λ modules rest valid.
      let whole : modules_words modules ++ rest ≡ tokens modules ++ (closer ++ rest) = append_assoc (lines_words (modules_lines 0 modules)) closer rest ∙ ap (λ xs. xs ++ (closer ++ rest)) ((modules_lines-words version) 0 modules) in
      ap ((read_modules version) (length (modules_words modules ++ rest))) whole ∙ (modules_again version) (length (modules_words modules ++ rest)) modules rest valid (omega (arith, ap length whole));
  takes = λ words modules rest h.
      let taken = (modules_take version) (length words) words modules rest h in
      (taken.0 ∙ (ap (λ xs. xs ++ (closer ++ rest)) (sym ((modules_lines-words version) 0 modules)) ∙ sym (append_assoc (lines_words (modules_lines 0 modules)) closer rest)), taken.1);
}

-- ---- blocks and modules

pub block_exact : (version : Version) → IsExact BlockTree (block_reading version)
unfolding block_reading head_reading modules_reading
block_exact version = restated_exact block_words (valid_block version) (mapped block_of block_parts (pair head_reading (modules_reading version))) same_words (λ tree. refl) (mapped_exact block_of block_parts (pair head_reading (modules_reading version)) (λ tree. refl) (λ tree. refl) (pair_exact head_reading (modules_reading version) head_exact (modules_exact version)))
  where
    same_words : (tree : BlockTree) → block_words tree ≡ head_words tree.head ++ modules_words tree.inside
    same_words tree =
        block_lines-words 0 tree.head (modules_lines 1 tree.inside) (tokens tree.inside) ((modules_lines-words version) 1 tree.inside)
        ∙ ap (λ xs. head_words tree.head ++ (xs ++ closer)) (sym ((modules_lines-words version) 0 tree.inside))

module_tells : (version : Version) → Tells BlockTree RegisterModule (word_is 11 (codes "#")) (block_reading version) (register_reading version)
unfolding block_reading register_reading opening_lines register_lines words_behind
module_tells version = record { yes = λ tree rest valid. refl; no_other = λ tree rest valid. refl }

pub module_exact : (version : Version) → IsExact ModuleTree (module_reading version)
unfolding module_reading block_reading register_reading
module_exact version = restated_exact module_words (valid_module version) (mapped module_of module_side (either (word_is 11 (codes "#")) (block_reading version) (register_reading version))) same_words same_valid (mapped_exact module_of module_side (either (word_is 11 (codes "#")) (block_reading version) (register_reading version)) back forth (either_exact (word_is 11 (codes "#")) (block_reading version) (register_reading version) (module_tells version) (block_exact version) (register_exact version)))
  where
    same_words : (tree : ModuleTree) → module_words tree ≡ (either (word_is 11 (codes "#")) (block_reading version) (register_reading version)).words (module_side tree)
    same_words (one_register unit) = refl
    same_words (one_block unit) = refl

    same_valid : (tree : ModuleTree) → (valid_module version) tree ≡ (either (word_is 11 (codes "#")) (block_reading version) (register_reading version)).is_valid (module_side tree)
    same_valid (one_register unit) = refl
    same_valid (one_block unit) = refl

    back : (tree : ModuleTree) → module_of (module_side tree) ≡ tree
    back (one_register unit) = refl
    back (one_block unit) = refl

    forth : (tree : BlockTree ⊎ RegisterModule) → module_side (module_of tree) ≡ tree
    forth (inl unit) = refl
    forth (inr unit) = refl
