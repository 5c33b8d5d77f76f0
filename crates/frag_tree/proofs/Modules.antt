-- How far the modules of a crate are printed.
use Rattle.std.proofs.Common.{◌≡◌, ℕ, ◌+◌, ◌<◌, ◌≤◌, List, [], ◌∷◌, ◌++◌, Option, map, drop, length, refl, sym, ap, ◌∙◌, subst, append_assoc, add-one, slice_index_or}
use Rattle.std.specs.Prelude.{Result}
use Rattle.std.specs.List.{flat_map}
use Rattle.std.proofs.lemmas.Grind.{flat_map-append}
use Rattle.std.proofs.lemmas.List.{append-nil, drop_all}
use Rattle.std.proofs.Math.Seq.{drop-cons}
use Rattle.frag_words.specs.Lines.{fixed, line_text, lines_text}
use Rattle.pac_io.specs.WrittenUpTo.{WrittenUpTo}
use Rattle.pac_io.specs.Writing.{AppendsPrefix, WritesUpTo}
use Rattle.pac_io.specs.declared.fault.SinkFault.{SinkFault}
use Rattle.pac_io.proofs.WrittenUpTo.{begun, page_went_on, page_broke_off, run_up_to}
use Rattle.frag_tree.specs.Phrases.{text_of}
use Rattle.frag_tree.specs.declared.phrase.Phrase.TheVariants as phrase
use Rattle.frag_tree.specs.declared.block.Block.{Block, out-Block}
use Rattle.frag_tree.proofs.Trees.{block_tree-is}
use Rattle.frag_tree.specs.declared.block.Module.{Module}
use Rattle.frag_tree.specs.Blocks.{opening_lines, modules_lines, module_lines, block_tree_lines}
use Rattle.frag_tree.specs.declared.krate.Crate.{Crate}
use Rattle.frag_tree.specs.declared.krate.Slot.{Slot}
use Rattle.frag_tree.specs.Crates.{top_lines, slots_lines, version_lines, crate_lines, printed}
use Rattle.frag_tree.specs.Trees.{BlockTree, ModuleTree, Modules, one_block, one_register, before, in_line, block_tree, module_tree, crate_tree}

-- how far a list of things has come on the page: `left` is still to come
pub record PrintedUpTo (old now : Option (List ℕ)) (faults count : ℕ) (all page left : List ℕ) : Type 0 where
  pub growth : WrittenUpTo old now all (page ++ left)
  pub cause : count ≡ faults

-- ---- one block

-- the line that ends a block
abbrev pub closing : ℕ → List ℕ
closing depth = line_text (fixed depth (text_of phrase.Closer))

-- the modules inside a block
abbrev pub inner : ℕ → BlockTree → List ℕ
inner depth tree = lines_text (modules_lines (depth + 1) tree.inside)

-- what is still to come behind the opening of a block
pub behind_opening : (depth : ℕ) (tree : BlockTree) (old page : List ℕ) → page ≡ old ++ lines_text (opening_lines depth tree.head) → old ++ lines_text (block_tree_lines depth tree) ≡ page ++ (inner depth tree ++ closing depth)
behind_opening depth tree old page is =
    rw (is, flat_map-append line_text (opening_lines depth tree.head) (modules_lines (depth + 1) tree.inside ++ fixed depth (text_of phrase.Closer) ∷ []), flat_map-append line_text (modules_lines (depth + 1) tree.inside) (fixed depth (text_of phrase.Closer) ∷ []), append-nil (closing depth), append_assoc old (lines_text (opening_lines depth tree.head)) (inner depth tree ++ closing depth)) refl

-- handing on broke off in the modules of a block
pub block_broke_off : (told now : Option (List ℕ)) (depth : ℕ) (tree : BlockTree) (old page : List ℕ) → page ≡ old ++ lines_text (opening_lines depth tree.head) → AppendsPrefix told now (page ++ inner depth tree) → AppendsPrefix told now (old ++ lines_text (block_tree_lines depth tree))
block_broke_off told now depth tree old page is more =
    rw (behind_opening depth tree old page is) (page_broke_off page (inner depth tree) (closing depth) (begun told (page ++ (inner depth tree ++ closing depth))) more)

-- the modules of a block are on their way
pub block_went_on : (told now : Option (List ℕ)) (depth : ℕ) (tree : BlockTree) (old page held : List ℕ) → page ≡ old ++ lines_text (opening_lines depth tree.head) → WrittenUpTo told now (page ++ inner depth tree) held → WrittenUpTo told now (old ++ lines_text (block_tree_lines depth tree)) (held ++ closing depth)
block_went_on told now depth tree old page held is more =
    rw (behind_opening depth tree old page is) (page_went_on page (inner depth tree) (closing depth) held (begun told (page ++ (inner depth tree ++ closing depth))) more)

-- what is held is written up to itself
pub held_back : {old now : Option (List ℕ)} {all : List ℕ} (held : List ℕ) → WrittenUpTo old now all held → AppendsPrefix old now all
held_back held so_far = record { left = held; so_far = so_far }

-- the whole block, with the answer of its last call
pub block_printed : {T : Type 0} (answer : Result T SinkFault) (told mid now : Option (List ℕ)) (depth : ℕ) (tree : BlockTree) (old page held closed left : List ℕ) → page ≡ old ++ lines_text (opening_lines depth tree.head) → WrittenUpTo told mid (page ++ inner depth tree) held → closed ≡ held ++ closing depth → WritesUpTo answer mid now closed left → WritesUpTo answer told now (old ++ lines_text (block_tree_lines depth tree)) left
block_printed answer told mid now depth tree old page held closed left is more ends last =
    run_up_to answer now left (rw ends (block_went_on told mid depth tree old page held is more)) last

-- ---- the modules of a parent

-- the bytes of modules from a place on
abbrev pub modules_from : ℕ → List Module → List ℕ
modules_from depth parts = lines_text (modules_lines depth (in_line (map module_tree parts)))

abbrev pub module_at : ℕ → Module → List ℕ
module_at depth part = lines_text (module_lines depth (module_tree part))

before-lines : (depth : ℕ) (part : ModuleTree) (others : Modules) → modules_lines depth (before part others) ≡ module_lines depth part ++ modules_lines depth others
unfolding modules_lines
before-lines depth (one_register unit) others = refl
before-lines depth (one_block unit) others = refl

modules_from-cons : (depth : ℕ) (part : Module) (parts : List Module) → modules_from depth (part ∷ parts) ≡ module_at depth part ++ modules_from depth parts
unfolding in_line
modules_from-cons depth part parts =
    ap lines_text (before-lines depth (module_tree part) (in_line (map module_tree parts))) ∙ flat_map-append line_text (module_lines depth (module_tree part)) (modules_lines depth (in_line (map module_tree parts)))

pub modules_from-drop : (depth : ℕ) (parts : List Module) (i : ℕ) (part : Module) → i < length parts → part ≡ slice_index_or parts i part → modules_from depth (drop i parts) ≡ module_at depth part ++ modules_from depth (drop (i + 1) parts)
modules_from-drop depth parts i part within is =
    let left : drop i parts ≡ slice_index_or parts i part ∷ drop (i + 1) parts = rw (add-one, drop-cons parts i part) refl in
    ap (modules_from depth) left
    ∙ (modules_from-cons depth (slice_index_or parts i part) (drop (i + 1) parts)
    ∙ ap (λ (x : Module). module_at depth x ++ modules_from depth (drop (i + 1) parts)) (sym is))

pub module_broke_off : {old mid now : Option (List ℕ)} {all : List ℕ} (depth : ℕ) (parts : List Module) (i : ℕ) (part : Module) (page : List ℕ) → i < length parts → part ≡ slice_index_or parts i part → WrittenUpTo old mid all (page ++ modules_from depth (drop i parts)) → AppendsPrefix mid now (page ++ module_at depth part) → AppendsPrefix old now all
module_broke_off {old} {mid} {now} {all} depth parts i part page within is so_far more =
    page_broke_off page (module_at depth part) (modules_from depth (drop (i + 1) parts)) (subst (λ (xs : List ℕ). WrittenUpTo old mid all (page ++ xs)) (modules_from-drop depth parts i part within is) so_far) more

pub module_went_on : {old mid now : Option (List ℕ)} {all : List ℕ} (depth : ℕ) (parts : List Module) (i : ℕ) (part : Module) (page held : List ℕ) → i < length parts → part ≡ slice_index_or parts i part → WrittenUpTo old mid all (page ++ modules_from depth (drop i parts)) → WrittenUpTo mid now (page ++ module_at depth part) held → WrittenUpTo old now all (held ++ modules_from depth (drop (i + 1) parts))
module_went_on {old} {mid} {now} {all} depth parts i part page held within is so_far more =
    page_went_on page (module_at depth part) (modules_from depth (drop (i + 1) parts)) held (subst (λ (xs : List ℕ). WrittenUpTo old mid all (page ++ xs)) (modules_from-drop depth parts i part within is) so_far) more

-- no module is left
pub modules_from-none : (depth : ℕ) → modules_from depth [] ≡ []
unfolding in_line modules_lines
modules_from-none depth = refl

-- ---- the blocks at the top

abbrev pub tops_from : List Block → List ℕ
tops_from blocks = lines_text (flat_map top_lines (map block_tree blocks))

abbrev pub top_at : Block → List ℕ
top_at part = lines_text (top_lines (block_tree part))

tops_from-cons : (part : Block) (blocks : List Block) → tops_from (part ∷ blocks) ≡ top_at part ++ tops_from blocks
tops_from-cons part blocks = flat_map-append line_text (top_lines (block_tree part)) (flat_map top_lines (map block_tree blocks))

pub tops_from-drop : (blocks : List Block) (i : ℕ) (part : Block) → i < length blocks → part ≡ slice_index_or blocks i part → tops_from (drop i blocks) ≡ top_at part ++ tops_from (drop (i + 1) blocks)
tops_from-drop blocks i part within is =
    let left : drop i blocks ≡ slice_index_or blocks i part ∷ drop (i + 1) blocks = rw (add-one, drop-cons blocks i part) refl in
    ap tops_from left
    ∙ (tops_from-cons (slice_index_or blocks i part) (drop (i + 1) blocks)
    ∙ ap (λ (x : Block). top_at x ++ tops_from (drop (i + 1) blocks)) (sym is))

pub top_broke_off : {old mid now : Option (List ℕ)} {all : List ℕ} (blocks : List Block) (i : ℕ) (part : Block) (page : List ℕ) → i < length blocks → part ≡ slice_index_or blocks i part → WrittenUpTo old mid all (page ++ tops_from (drop i blocks)) → AppendsPrefix mid now (page ++ top_at part) → AppendsPrefix old now all
top_broke_off {old} {mid} {now} {all} blocks i part page within is so_far more =
    page_broke_off page (top_at part) (tops_from (drop (i + 1) blocks)) (subst (λ (xs : List ℕ). WrittenUpTo old mid all (page ++ xs)) (tops_from-drop blocks i part within is) so_far) more

pub top_went_on : {old mid now : Option (List ℕ)} {all : List ℕ} (blocks : List Block) (i : ℕ) (part : Block) (page held : List ℕ) → i < length blocks → part ≡ slice_index_or blocks i part → WrittenUpTo old mid all (page ++ tops_from (drop i blocks)) → WrittenUpTo mid now (page ++ top_at part) held → WrittenUpTo old now all (held ++ tops_from (drop (i + 1) blocks))
top_went_on {old} {mid} {now} {all} blocks i part page held within is so_far more =
    page_went_on page (top_at part) (tops_from (drop (i + 1) blocks)) held (subst (λ (xs : List ℕ). WrittenUpTo old mid all (page ++ xs)) (tops_from-drop blocks i part within is) so_far) more

-- the modules inside a block are those that it holds
pub inner-is : (part : Block) (depth d : ℕ) (parts : List Module) → d ≡ depth + 1 → parts ≡ (out-Block part).modules.items → modules_from d parts ≡ inner depth (block_tree part)
inner-is part depth d parts deeper held =
    rw (deeper, held) (ap (λ (tree : BlockTree). inner depth tree) (sym (block_tree-is part)))

-- all modules of a parent are printed
pub modules_done : {old now : Option (List ℕ)} {all : List ℕ} (depth : ℕ) (parts : List Module) (i : ℕ) (page : List ℕ) → length parts ≤ i → WrittenUpTo old now all (page ++ modules_from depth (drop i parts)) → WrittenUpTo old now all page
modules_done {old} {now} {all} depth parts i page past so_far =
    subst (λ (xs : List ℕ). WrittenUpTo old now all xs) (ap (λ (left : List Module). page ++ modules_from depth left) (drop_all i parts past) ∙ (ap (λ xs. page ++ xs) (modules_from-none depth) ∙ append-nil page)) so_far

-- the line of the version, the slots and then the blocks are the whole crate
pub whole_crate : (krate : Crate) (slots : List Slot) (blocks : List Block) (start behind page : List ℕ) → start ≡ [] → slots ≡ krate.slots → blocks ≡ krate.blocks.items → behind ≡ start ++ lines_text (version_lines krate.version) → page ≡ behind ++ lines_text (slots_lines slots) → page ++ tops_from blocks ≡ printed (crate_tree krate)
unfolding crate_lines crate_tree
whole_crate krate slots blocks start behind page empty is-slots is-blocks first is =
    rw (is, first, empty, is-slots, is-blocks)
    (append_assoc (lines_text (version_lines krate.version)) (lines_text (slots_lines krate.slots)) (tops_from krate.blocks.items)
    ∙ (ap (λ xs. lines_text (version_lines krate.version) ++ xs) (sym (flat_map-append line_text (slots_lines krate.slots) (flat_map top_lines (map block_tree krate.blocks.items))))
    ∙ sym (flat_map-append line_text (version_lines krate.version) (slots_lines krate.slots ++ flat_map top_lines (map block_tree krate.blocks.items)))))
