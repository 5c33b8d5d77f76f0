-- The lists of all modules, as they are put together.
use Rattle.std.proofs.Common.{◌≡◌, ℕ, ◌+◌, ◌<◌, ◌≤◌, List, [], ◌∷◌, ◌++◌, map, drop, length, refl, sym, ap, ap₂, ◌∙◌, append_assoc, add-one, slice_index_or}
use Rattle.std.specs.List.{flat_map}
use Rattle.std.proofs.lemmas.List.{append-nil, drop_all}
use Rattle.std.proofs.Math.Seq.{drop-cons}
use Rattle.frag_sem.specs.Modules.{blocks_in, registers_in}
use Rattle.frag_tree.specs.declared.block.Block.{Block}
use Rattle.frag_tree.specs.declared.block.Module.{Module}
use Rattle.frag_tree.specs.declared.krate.Crate.{Crate}
use Rattle.frag_tree.specs.declared.register.RegisterModule.{RegisterModule}
use Rattle.frag_tree.specs.Trees.{BlockTree, ModuleTree, Modules, before, block_tree, in_line, crate_tree, module_tree, one_block, one_register}
use Rattle.frag_rules.specs.Gathering.{blocks_at, registers_at}
use Rattle.frag_rules.specs.Parts.{Laid, laid_out, with_more}

-- modules behind modules
more-more : (laid : Laid) (blocks blocks' : List BlockTree) (registers registers' : List RegisterModule)
    → with_more (with_more laid blocks registers) blocks' registers' ≡ with_more laid (blocks ++ blocks') (registers ++ registers')
more-more laid blocks blocks' registers registers' =
    ap₂ (λ b r. record { tree = laid.tree; blocks = b; registers = r }) (append_assoc laid.blocks blocks blocks') (append_assoc laid.registers registers registers')

no-more : (laid : Laid) → with_more laid [] [] ≡ laid
no-more laid = ap₂ (λ b r. record { tree = laid.tree; blocks = b; registers = r }) (append-nil laid.blocks) (append-nil laid.registers)

-- a block and what is inside it
pub block-more : (old mid : Laid) (unit : BlockTree) (inside : Modules) → mid ≡ with_more old (unit ∷ []) [] → inside ≡ unit.inside
    → with_more mid (blocks_in inside) (registers_in inside) ≡ with_more old (unit ∷ blocks_in unit.inside) (registers_in unit.inside)
block-more old mid unit inside first same =
    rw (first, same) (more-more old (unit ∷ []) (blocks_in unit.inside) [] (registers_in unit.inside))

-- ---- the modules of a parent

-- with the modules from a place on
abbrev pub with_rest : Laid → List Module → Laid
with_rest laid modules = with_more laid (blocks_in (in_line (map module_tree modules))) (registers_in (in_line (map module_tree modules)))

pub first-blocks : (part : ModuleTree) (others : Modules) → blocks_in (before part others) ≡ blocks_at part ++ blocks_in others
unfolding blocks_in
first-blocks (one_register unit) others = refl
first-blocks (one_block unit) others = refl

first-registers : (part : ModuleTree) (others : Modules) → registers_in (before part others) ≡ registers_at part ++ registers_in others
unfolding registers_in
first-registers (one_register unit) others = refl
first-registers (one_block unit) others = refl

first-more : (laid : Laid) (part : Module) (others : List Module) → with_rest (with_more laid (blocks_at (module_tree part)) (registers_at (module_tree part))) others ≡ with_rest laid (part ∷ others)
unfolding in_line
first-more laid part others =
    more-more laid (blocks_at (module_tree part)) (blocks_in (in_line (map module_tree others))) (registers_at (module_tree part)) (registers_in (in_line (map module_tree others)))
    ∙ ap₂ (λ b r. with_more laid b r) (sym (first-blocks (module_tree part) (in_line (map module_tree others)))) (sym (first-registers (module_tree part) (in_line (map module_tree others))))

pub modules-more : (old new : Laid) (modules : List Module) (i : ℕ) (part : Module) → i < length modules → part ≡ slice_index_or modules i part
    → new ≡ with_more old (blocks_at (module_tree part)) (registers_at (module_tree part)) → with_rest new (drop (i + 1) modules) ≡ with_rest old (drop i modules)
modules-more old new modules i part within is more =
    let left : drop i modules ≡ slice_index_or modules i part ∷ drop (i + 1) modules = rw (add-one, drop-cons modules i part) refl in
    ap (λ laid. with_rest laid (drop (i + 1) modules)) more
    ∙ (first-more old part (drop (i + 1) modules)
    ∙ ap (with_rest old) (ap (λ x. x ∷ drop (i + 1) modules) is ∙ sym left))

pub modules-done : (laid : Laid) (modules : List Module) (i : ℕ) → length modules ≤ i → laid ≡ with_rest laid (drop i modules)
unfolding in_line blocks_in registers_in
modules-done laid modules i within = sym (no-more laid) ∙ ap (with_rest laid) (sym (drop_all i modules within))

-- ---- the blocks of a crate

abbrev pub with_tops : Laid → List Block → Laid
with_tops laid blocks = with_more laid (flat_map (λ unit. unit ∷ blocks_in unit.inside) (map block_tree blocks)) (flat_map (λ unit. registers_in unit.inside) (map block_tree blocks))

pub top-more : (old new : Laid) (all others : List Block) (first : Block) → all ≡ first ∷ others
    → new ≡ with_more old (block_tree first ∷ blocks_in (block_tree first).inside) (registers_in (block_tree first).inside) → with_tops new others ≡ with_tops old all
top-more old new all others first is more =
    rw (more, is) (more-more old (block_tree first ∷ blocks_in (block_tree first).inside) _ (registers_in (block_tree first).inside) _)

pub tops-done : (laid : Laid) (all : List Block) → all ≡ [] → laid ≡ with_tops laid all
tops-done laid all is = rw is (sym (no-more laid))

pub tops-begin : (krate : Crate) (blocks : List Block) → blocks ≡ krate.blocks.items → with_tops (record { tree = crate_tree krate; blocks = []; registers = [] }) blocks ≡ laid_out (crate_tree krate)
unfolding crate_tree
tops-begin krate blocks same = rw same refl
