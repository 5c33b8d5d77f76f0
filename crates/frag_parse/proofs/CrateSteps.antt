-- The blocks of a crate, one after another, and the whole crate.
use Rattle.std.proofs.Common.{ℕ, zero, suc, ◌≡◌, ◌<◌, ◌≤◌, arith, List, [], ◌∷◌, ◌++◌, length, map, Bool, true, false, Option, Some, None, refl, sym, ap, ◌∙◌, append_assoc, append-nil}
use Rattle.std.specs.Prelude.{◌&&◌, codes, if◌then◌else◌, option_map}
use Rattle.std.specs.List.{list_all}
use Rattle.text_scan.specs.Steps.{◌>>=◌}
use Rattle.frag_words.specs.Words.{Word, words_in}
use Rattle.frag_words.specs.Readings.{expected, then_read, word_is}
use Rattle.frag_words.proofs.Readings.{both, both_left, both_right}
use Rattle.frag_tree.specs.declared.krate.Version.{Version}
use Rattle.frag_tree.specs.declared.krate.Version.TheVariants.{One, Two}
use Rattle.frag_token.specs.Signs.{sign_word}
use Rattle.frag_tree.specs.ModuleProductions.{block_of, block_reading, crate_head, head_reading, modules_reading, read_blocks, read_crate, read_parts, slots_reading, with_blocks}
use Rattle.frag_tree.specs.Productions.{slot_reading}
use Rattle.frag_tree.specs.Trees.{BlockTree, CrateTree, block_tree, crate_tree}
use Rattle.frag_tree.specs.declared.block.Block.{Block}
use Rattle.frag_tree.specs.declared.krate.Crate.{Crate}
use Rattle.frag_tree.specs.declared.krate.Slot.{Slot}
use Rattle.frag_tree.proofs.CrateProductions.{crate_again, crate_takes}
use Rattle.frag_tree.proofs.Fine.{printed_words}
use Rattle.frag_parse.specs.declared.fault.Refusal.{Refusal}
use Rattle.frag_parse.specs.declared.fault.Refusal.TheVariants as refusal
use Rattle.frag_token.specs.declared.fault.Stop.{Stop}
use Rattle.frag_tree.specs.declared.phrase.Phrase.TheVariants as phrase
use Rattle.frag_parse.specs.Depth.{Deep, Refuses, widened}
use Rattle.frag_parse.specs.Nesting.{block_within, crate_within, nests_within}
use Rattle.frag_parse.specs.Parsing.{IsCrateOf}
use Rattle.frag_tree.specs.Phrases.{words_of}
use Rattle.frag_token.specs.Reading.{Fails, Found, begins_pub, braced_at, expects, is_end, phrase_at, sign_at}
use Rattle.frag_parts.specs.Reading.{head_at}
use Rattle.frag_parse.specs.Reading.{block_at, blocks_at, crate_at, opening_at, version_at}
use Rattle.frag_parse.proofs.Depth.{inside_within, passed_on, refuses_same, stopped}
use Rattle.frag_token.proofs.Lists.{joined, joined-nil}
use Rattle.frag_parse.proofs.ModuleSteps.{all_modules, block_shrinks}
use Rattle.frag_parts.proofs.Same.{head_same, slots_same}
use Rattle.frag_parts.proofs.Steps.{does_known, does_pair, expected_is, expects-append}

abbrev given : {A : Type 0} → A → Option A
given x = Some x

-- ---- one block

pub block_same : (version : Version) → (text : List Word) → (block_reading version).read text ≡ (block_at version) text
unfolding block_reading block_at
block_same version text =
    (does_pair (does_known head_reading.read head_at head_same) (does_known (modules_reading version).read (all_modules version) (λ rest. refl))).does text (λ tree rest. Some (block_of tree, rest))

-- ---- blocks

abbrev Blocks : Type 0
Blocks = Option (List BlockTree)

abbrev in_front : BlockTree → Blocks → Blocks
in_front unit o = option_map (λ units. unit ∷ units) o

abbrev told : Blocks → Found (List BlockTree)
told o = o >>= λ units. Some (units, [])

same_blocks : (bound : ℕ) (one other : List Word → Blocks) → ((text : List Word) → length text < bound → one text ≡ other text) → (o : Found BlockTree) → ((found : BlockTree × List Word) → o ≡ given found → length found.1 < bound) → then_read o (λ unit rest. in_front unit (one rest)) ≡ then_read o (λ unit rest. in_front unit (other rest))
same_blocks bound one other same None shorter = refl
same_blocks bound one other same (Some found) shorter = ap (in_front found.0) (same found.1 (shorter found refl))

read_shorter : (version : Version) → (text : List Word) (found : BlockTree × List Word) → (block_reading version).read text ≡ given found → length found.1 < length text
read_shorter version text found e = (block_shrinks version) text found.0 found.1 (sym ((block_same version) text) ∙ e)

blocks_enough : (version : Version) → (n m : ℕ) (text : List Word) → length text ≤ n → length text ≤ m → (read_blocks version) n text ≡ (read_blocks version) m text
unfolding read_blocks
blocks_enough version zero zero [] small fits = refl
blocks_enough version zero (suc m) [] small fits = refl
blocks_enough version (suc n) zero [] small fits = refl
blocks_enough version (suc n) (suc m) [] small fits = refl
blocks_enough version zero m (word ∷ words) small fits = absurd (omega (arith, small))
blocks_enough version (suc n) zero (word ∷ words) small fits = absurd (omega (arith, fits))
blocks_enough version (suc n) (suc m) (word ∷ words) small fits =
    same_blocks (length (word ∷ words)) ((read_blocks version) n) ((read_blocks version) m) (λ left less. (blocks_enough version) n m left (omega (arith, less, small)) (omega (arith, less, fits))) ((block_reading version).read (word ∷ words)) (λ found e. (read_shorter version) (word ∷ words) found e)

-- the blocks behind one
abbrev pub with_others : BlockTree → Found (List BlockTree) → Found (List BlockTree)
with_others unit o = o >>= λ more. Some (unit ∷ more.0, more.1)

told_more : (unit : BlockTree) (o : Blocks) → told (in_front unit o) ≡ with_others unit (told o)
told_more unit None = refl
told_more unit (Some units) = refl

told_first : (o : Found BlockTree) (more : List Word → Blocks) → told (then_read o (λ unit rest. in_front unit (more rest))) ≡ (o >>= λ one. with_others one.0 (told (more one.1)))
told_first None more = refl
told_first (Some found) more = told_more found.0 (more found.1)

abbrev pub next_block : (version : Version) → BlockTree × List Word → Found (List BlockTree)
next_block version one = with_others one.0 ((blocks_at version) one.1)

pub blocks_more : (version : Version) → (word : Word) (words : List Word) → (blocks_at version) (word ∷ words) ≡ ((block_at version) (word ∷ words) >>= (next_block version))
unfolding blocks_at read_blocks
blocks_more version word words =
    ap told (same_blocks (length (word ∷ words)) ((read_blocks version) (length words)) (λ left. (read_blocks version) (length left) left) (λ left less. (blocks_enough version) (length words) (length left) left (omega (arith, less)) (omega arith)) ((block_reading version).read (word ∷ words)) (λ found e. (read_shorter version) (word ∷ words) found e))
    ∙ (told_first ((block_reading version).read (word ∷ words)) (λ left. (read_blocks version) (length left) left)
    ∙ ap (λ (o : Found BlockTree). o >>= (next_block version)) ((block_same version) (word ∷ words)))

pub blocks_end : (version : Version) → (blocks_at version) [] ≡ Some ([], [])
unfolding blocks_at read_blocks
blocks_end version = refl

-- ---- a loop over blocks

abbrev pub blocks_within : List BlockTree → Bool
blocks_within units = list_all (block_within 64) units

abbrev pub units_of : List Block → List BlockTree
units_of made = map block_tree made

abbrev pub SoFar : (version : Version) → List Block → List Word → Found (List BlockTree) → Type 0
SoFar version made rest all = (joined (units_of made) ((blocks_at version) rest) ≡ all) × (blocks_within (units_of made) ≡ true)

pub more_at : (version : Version) → (text : List Word) → is_end text ≡ false → (blocks_at version) text ≡ ((block_at version) text >>= (next_block version))
more_at version [] e = absurd cc
more_at version (word ∷ words) e = (blocks_more version) word words

units_more : (made : List Block) (unit : Block) → units_of (made ++ unit ∷ []) ≡ units_of made ++ block_tree unit ∷ []
units_more [] unit = refl
units_more (first ∷ made) unit = ap (λ (units : List BlockTree). block_tree first ∷ units) (units_more made unit)

within_more : (units : List BlockTree) (unit : BlockTree) → blocks_within units ≡ true → block_within 64 unit ≡ true → blocks_within (units ++ unit ∷ []) ≡ true
within_more [] unit fit one = both (block_within 64 unit) true one refl
within_more (first ∷ units) unit fit one = both (block_within 64 first) (blocks_within (units ++ unit ∷ [])) (both_left (block_within 64 first) (blocks_within units) fit) (within_more units unit (both_right (block_within 64 first) (blocks_within units) fit) one)

joined_more : (units : List BlockTree) (unit : BlockTree) (o : Found (List BlockTree)) → joined (units ++ unit ∷ []) o ≡ joined units (with_others unit o)
joined_more units unit None = refl
joined_more units unit (Some found) = ap (λ (all : List BlockTree). given (all, found.1)) (append_assoc units (unit ∷ []) found.0)

pub begun : (version : Version) → (text : List Word) → (SoFar version) [] text ((blocks_at version) text)
begun version text = (joined-nil ((blocks_at version) text), refl)

pub goes_on : (version : Version) → (made : List Block) (unit : Block) (text rest : List Word) (all : Found (List BlockTree)) → is_end text ≡ false → (block_at version) text ≡ Some (block_tree unit, rest) → nests_within 63 (block_tree unit).inside ≡ true → (SoFar version) made text all → (SoFar version) (made ++ unit ∷ []) rest all
goes_on version made unit text rest all there read fits so_far =
    let more : (blocks_at version) text ≡ with_others (block_tree unit) ((blocks_at version) rest) = (more_at version) text there ∙ ap (λ (o : Found BlockTree). o >>= (next_block version)) read in (
      ap (λ (units : List BlockTree). joined units ((blocks_at version) rest)) (units_more made unit)
          ∙ (joined_more (units_of made) (block_tree unit) ((blocks_at version) rest) ∙ (sym (ap (joined (units_of made)) more) ∙ so_far.0)),
      ap blocks_within (units_more made unit) ∙ within_more (units_of made) (block_tree unit) so_far.1 fits,
    )

false_part : (units : List BlockTree) (others : List BlockTree) → blocks_within others ≡ false → blocks_within (units ++ others) ≡ false
false_part [] others deep = deep
false_part (unit ∷ units) others deep = false_right (block_within 64 unit) (blocks_within (units ++ others)) (false_part units others deep)
  where
    false_right : (x y : Bool) → y ≡ false → (x && y) ≡ false
    false_right true y h = h
    false_right false y h = refl

joined_deep : (units : List BlockTree) (o : Found (List BlockTree)) → Deep blocks_within o → Deep blocks_within (joined units o)
joined_deep units None deep = tt
joined_deep units (Some found) deep = false_part units found.0 deep

joined_none : (units : List BlockTree) (o : Found (List BlockTree)) → o ≡ None → joined units o ≡ None
joined_none units None e = refl
joined_none units (Some found) e = absurd (let impossible : given found ≡ None = e in cc)

joined_refuses : (cause : Refusal) (units : List BlockTree) (o : Found (List BlockTree)) → Refuses blocks_within cause o → Refuses blocks_within cause (joined units o)
joined_refuses (refusal.Unfit left) units o refused = joined_none units o refused
joined_refuses (refusal.TooDeep left) units o refused = joined_deep units o refused
joined_refuses refusal.Memory units o refused = tt

deep_others : (unit : BlockTree) (o : Found (List BlockTree)) → nests_within 63 unit.inside ≡ false → Deep blocks_within (with_others unit o)
deep_others unit None deep = tt
deep_others unit (Some found) deep = false_left (nests_within 63 unit.inside) (blocks_within found.0) deep
  where
    false_left : (x y : Bool) → x ≡ false → (x && y) ≡ false
    false_left true y h = absurd cc
    false_left false y h = refl

pub breaks_off : (version : Version) → (made : List Block) (text : List Word) (all : Found (List BlockTree)) (cause : Refusal) → is_end text ≡ false → Refuses (inside_within 63) cause ((block_at version) text) → (SoFar version) made text all → Refuses blocks_within cause all
breaks_off version made text all cause there refused so_far =
    refuses_same blocks_within cause all (joined (units_of made) ((blocks_at version) text)) (sym so_far.0)
    (joined_refuses cause (units_of made) ((blocks_at version) text)
    (refuses_same blocks_within cause ((blocks_at version) text) ((block_at version) text >>= (next_block version)) ((more_at version) text there)
    (passed_on (inside_within 63) blocks_within cause ((block_at version) text) (next_block version) (λ one deep. deep_others one.0 ((blocks_at version) one.1) deep) refused)))

end_is : (text : List Word) → is_end text ≡ true → text ≡ []
end_is [] e = refl
end_is (word ∷ words) e = absurd cc

pub is_done : (version : Version) → (made : List Block) (text : List Word) (all : Found (List BlockTree)) → is_end text ≡ true → (SoFar version) made text all → (all ≡ Some (units_of made, [])) × (blocks_within (units_of made) ≡ true)
is_done version made text all here so_far =
    let last : (blocks_at version) text ≡ Some ([], []) = ap (blocks_at version) (end_is text here) ∙ (blocks_end version) in
    (sym so_far.0 ∙ (ap (joined (units_of made)) last ∙ ap (λ (units : List BlockTree). given (units, [])) (append-nil (units_of made))), so_far.1)

-- ---- the crate

abbrev pub made_of : Version → List Slot → List BlockTree × List Word → Found CrateTree
made_of version slots blocks = Some (record { version = version; slots = slots; blocks = blocks.0 }, blocks.1)

abbrev pub behind_opening : (Version × List Slot) × List Word → Found CrateTree
behind_opening opening = blocks_at opening.0.0 opening.1 >>= made_of opening.0.0 opening.0.1

abbrev pub tree_of : Found CrateTree → Option CrateTree
tree_of o = o >>= λ found. Some found.0

-- the slots behind the line of the version
abbrev with_version : Version → List Slot × List Word → Found (Version × List Slot)
with_version version slots = Some ((version, slots.0), slots.1)

abbrev listed : Version → List Word → Found (Version × List Slot)
listed version rest = braced_at begins_pub slot_reading.read rest >>= with_version version

abbrev opened : Version × List Word → Found (Version × List Slot)
opened found = phrase_at phrase.UsePrelude found.1 >>= λ rest. phrase_at phrase.OpensPeripherals rest >>= listed found.0

abbrev slots_step : Version → List Slot → List Word → Option CrateTree
slots_step version slots left = with_blocks version slots (read_blocks version (length left) left)

blocks_last : (version : Version) (slots : List Slot) (o : Blocks) → with_blocks version slots o ≡ tree_of (told o >>= made_of version slots)
blocks_last version slots None = refl
blocks_last version slots (Some units) = refl

slots_last : (version : Version) (o : Found (List Slot)) → then_read o (slots_step version) ≡ tree_of ((o >>= with_version version) >>= behind_opening)
unfolding blocks_at
slots_last version None = refl
slots_last version (Some slots) = blocks_last version slots.0 (read_blocks version (length slots.1) slots.1)

head_last : (version : Version) (o : Option (List Word)) → (o >>= λ rest. then_read (slots_reading.read rest) (slots_step version)) ≡ tree_of ((o >>= listed version) >>= behind_opening)
head_last version None = refl
head_last version (Some rest) = ap (λ (o : Found (List Slot)). then_read o (slots_step version)) (slots_same rest) ∙ slots_last version (braced_at begins_pub slot_reading.read rest)

prelude_last : (version : Version) (o : Option (List Word)) → ((o >>= λ rest. expects (words_of phrase.OpensPeripherals) rest) >>= λ rest. then_read (slots_reading.read rest) (slots_step version)) ≡ tree_of ((o >>= λ rest. expects (words_of phrase.OpensPeripherals) rest >>= listed version) >>= behind_opening)
prelude_last version None = refl
prelude_last version (Some rest) = head_last version (expects (words_of phrase.OpensPeripherals) rest)

parts_are : (version : Version) (text : List Word) → read_parts version text ≡ tree_of (opened (version, text) >>= behind_opening)
unfolding read_parts phrase_at
parts_are version text =
    expected_is crate_head text (λ rest. then_read (slots_reading.read rest) (slots_step version))
    ∙ (ap (λ (o : Option (List Word)). o >>= λ rest. then_read (slots_reading.read rest) (slots_step version)) (expects-append (words_of phrase.UsePrelude) (words_of phrase.OpensPeripherals) text)
    ∙ prelude_last version (expects (words_of phrase.UsePrelude) text))

line_last : (o : Option (List Word)) → (o >>= read_parts Two) ≡ tree_of (((o >>= λ rest. Some (Two, rest)) >>= opened) >>= behind_opening)
line_last None = refl
line_last (Some rest) = parts_are Two rest

version_last : (hit : Bool) (text : List Word) → (if hit then expected (words_of phrase.VersionTwo) text (read_parts Two) else read_parts One text) ≡ tree_of (((if hit then (phrase_at phrase.VersionTwo text >>= λ rest. Some (Two, rest)) else Some (One, text)) >>= opened) >>= behind_opening)
unfolding phrase_at
version_last true text = expected_is (words_of phrase.VersionTwo) text (read_parts Two) ∙ line_last (expects (words_of phrase.VersionTwo) text)
version_last false text = parts_are One text

crate_is : (text : List Word) → read_crate text ≡ tree_of (crate_at text)
unfolding read_crate crate_at opening_at version_at sign_at sign_word
crate_is text = version_last (word_is 0 (codes "pub") text) text

-- what is read is a crate of the text
pub read_is_crate : (bytes : List ℕ) (krate : CrateTree) (rest : List Word) → crate_at (words_in bytes) ≡ Some (krate, rest) → IsCrateOf bytes krate
read_is_crate bytes krate rest e =
    let taken = crate_takes (words_in bytes) krate (crate_is (words_in bytes) ∙ ap tree_of e) in
    record { parses = taken.0 ∙ sym (printed_words krate taken.1); valid = taken.1 }

-- a crate of the text is read
pub crate_is_read : (bytes : List ℕ) (krate : CrateTree) → IsCrateOf bytes krate → tree_of (crate_at (words_in bytes)) ≡ Some krate
crate_is_read bytes krate fits =
    sym (crate_is (words_in bytes)) ∙ (ap read_crate (fits.parses ∙ printed_words krate fits.valid) ∙ crate_again krate fits.valid)

-- ---- refusals of the whole

pub opening_refused : (text : List Word) (cause : Stop) → Fails cause (opening_at text) → Refuses (crate_within 64) (widened cause) (crate_at text)
unfolding crate_at
opening_refused text cause fails = stopped (crate_within 64) cause (opening_at text) behind_opening fails

behind_is : (text rest : List Word) (version : Version) (slots : List Slot) → opening_at text ≡ Some ((version, slots), rest) → crate_at text ≡ (blocks_at version rest >>= made_of version slots)
unfolding crate_at
behind_is text rest version slots read = ap (λ (o : Found (Version × List Slot)). o >>= behind_opening) read

pub blocks_refused : (text rest : List Word) (version : Version) (slots : List Slot) (cause : Refusal) → opening_at text ≡ Some ((version, slots), rest) → Refuses blocks_within cause (blocks_at version rest) → Refuses (crate_within 64) cause (crate_at text)
blocks_refused text rest version slots cause read refused =
    refuses_same (crate_within 64) cause (crate_at text) (blocks_at version rest >>= made_of version slots) (behind_is text rest version slots read)
    (passed_on blocks_within (crate_within 64) cause (blocks_at version rest) (made_of version slots) (λ blocks deep. deep) refused)

pub whole_read : (text rest : List Word) (krate : Crate) (blocks : List BlockTree) → opening_at text ≡ Some ((krate.version, krate.slots), rest) → blocks_at krate.version rest ≡ Some (blocks, []) → blocks ≡ units_of krate.blocks.items → crate_at text ≡ Some (crate_tree krate, [])
unfolding crate_tree
whole_read text rest krate blocks read all same =
    behind_is text rest krate.version krate.slots read ∙ (ap (λ (o : Found (List BlockTree)). o >>= made_of krate.version krate.slots) all ∙ ap (λ (units : List BlockTree). given (record { version = krate.version; slots = krate.slots; blocks = units }, [])) same)
