-- The first rule that a crate breaks.
use Rattle.std.proofs.Common.{◌≡◌, ℕ, Bool, true, false, List, [], ◌∷◌, map, find, Option, Some, None, is_none, is_some, refl, sym, ap, ◌∙◌, if◌then◌else◌}
use Rattle.std.specs.Borrow.{Bor}
use Rattle.std.specs.Str.{bytes_eq}
use Rattle.frag_sem.specs.AddressEnds.{all_tests}
use Rattle.frag_sem.specs.CrateTyping.{bodies_fit, bodies_name_fields, constants_fit, constants_have_type, counts_are_some, directions_agree, first_failed, names_are_free, names_differ, paths_lead, reader_markers, reader_places, slots_lead, tests, value_literals, value_types, writer_markers, writer_places}
use Rattle.frag_sem.specs.Modules.{top_block}
use Rattle.frag_tree.specs.declared.block.Block.{Block}
use Rattle.frag_tree.specs.Trees.{CrateTree, block_tree}
use Rattle.frag_rules.specs.declared.rule.Rule.{Rule}
use Rattle.frag_rules.specs.Naming.{FindsFirst, named_in}
use Rattle.frag_rules.specs.Parts.{Laid, laid_out}
use Rattle.frag_rules.specs.Rules.{all_rules, block_test, register_test, rule_kind, rule_test, tested}

pub all-tests : (krate : CrateTree) → map (tested (laid_out krate)) all_rules ≡ all_tests krate
unfolding all_rules rule_test block_test register_test all_tests tests names_differ slots_lead paths_lead bodies_name_fields bodies_fit counts_are_some constants_have_type constants_fit reader_markers reader_places writer_markers writer_places value_types value_literals names_are_free directions_agree
all-tests krate = refl

pub kept-first : (laid : Laid) (all others : List Rule) (first : Rule) (item : Option ℕ) → all ≡ first ∷ others → item ≡ None → is_none item ≡ rule_test first laid
    → first_failed (map (tested laid) others) ≡ first_failed (map (tested laid) all)
kept-first laid all others first item is none tells =
    sym (ap (λ rules. first_failed (map (tested laid) rules)) is ∙ ap (λ b. if b then first_failed (map (tested laid) others) else Some (rule_kind first)) (sym tells ∙ ap is_none none))

pub broken-first : (laid : Laid) (all others : List Rule) (first : Rule) (item : Option ℕ) (found : ℕ) → all ≡ first ∷ others → item ≡ Some found → is_none item ≡ rule_test first laid
    → Some (rule_kind first) ≡ first_failed (map (tested laid) all)
broken-first laid all others first item found is some tells =
    sym (ap (λ rules. first_failed (map (tested laid) rules)) is ∙ ap (λ b. if b then first_failed (map (tested laid) others) else Some (rule_kind first)) (sym tells ∙ ap is_none some))

pub none-first : (laid : Laid) (all : List Rule) → all ≡ [] → None ≡ first_failed (map (tested laid) all)
none-first laid all is = rw is refl

-- ---- the blocks at the top

pub top-names : (blocks : List Block) → map (λ block. (block_tree block).head.name) blocks ≡ map (λ unit. unit.head.name) (map block_tree blocks)
top-names [] = refl
top-names (first ∷ others) = ap (λ names. (block_tree first).head.name ∷ names) (top-names others)

find-top : (name : List ℕ) (blocks : List Block) → is_some (find (λ block. bytes_eq name (block_tree block).head.name) blocks) ≡ is_some (top_block name (map block_tree blocks))
find-top name [] = refl
find-top name (first ∷ others) = by (bytes_eq name (block_tree first).head.name) (find-top name others)
  where
    by : (b : Bool) → is_some (find (λ block. bytes_eq name (block_tree block).head.name) others) ≡ is_some (top_block name (map block_tree others))
        → is_some (if b then Some first else find (λ block. bytes_eq name (block_tree block).head.name) others) ≡ is_some (if b then Some (block_tree first) else top_block name (map block_tree others))
    by true more = refl
    by false more = more

pub is-top : (blocks all : List Block) (tops : List (List ℕ × Bor Block)) → blocks ≡ all → FindsFirst (λ block. (block_tree block).head.name) blocks tops → (name : List ℕ) → is_some (named_in tops name) ≡ is_some (top_block name (map block_tree all))
is-top blocks all tops is finds name = ap is_some (finds name) ∙ (find-top name blocks ∙ ap (λ blocks. is_some (top_block name (map block_tree blocks))) is)
