-- The sizes of all blocks, as they are measured.
use Rattle.std.proofs.Common.{◌≡◌, ℕ, ◌+◌, ◌<◌, ◌^◌, add-one, Bool, true, false, ◌&&◌, nat_le, List, [], ◌∷◌, map, drop, length, Option, Some, None, is_none, option_map, refl, sym, ap, ap₂, ◌∙◌, slice_index_or, if◌then◌else◌}
use Rattle.std.specs.List.{flat_map, list_all}
use Rattle.std.specs.Map.{lookup}
use Rattle.std.specs.Option.{option_or}
use Rattle.std.specs.Str.{bytes_eq}
use Rattle.std.proofs.lemmas.List.Folds.{list_all-append}
use Rattle.std.proofs.Math.Seq.{drop-cons}
use Rattle.frag_sem.specs.Layout.{extent_of}
use Rattle.frag_sem.specs.Modules.{blocks_in, same_element, top_block}
use Rattle.frag_tree.specs.declared.block.Block.{Block}
use Rattle.frag_tree.specs.declared.block.Element.{Element}
use Rattle.frag_tree.specs.declared.block.Module.{Module}
use Rattle.frag_tree.specs.Trees.{BlockTree, Modules, block_tree, in_line, module_tree, one_block}
use Rattle.frag_rules.specs.declared.inside.Inside.{Inside}
use Rattle.frag_rules.specs.declared.measure.Measure.{Measure}
use Rattle.frag_rules.specs.Elements.{element_of}
use Rattle.frag_rules.specs.Gathering.{blocks_at}
use Rattle.frag_rules.specs.Insides.{found_inside}
use Rattle.frag_rules.specs.Measures.{Knows, block_measured, measure_seen, measured, size_fits}
use Rattle.frag_rules.proofs.Gathering.{first-blocks}
use Rattle.frag_rules.proofs.Insides.{KnowsBefore, knows-done, knows-more}
use Rattle.frag_rules.proofs.Rooms.{cut-size}

-- no block is too large so far, nor is one of these
abbrev pub none_large : Option ℕ → List Module → Bool
none_large large modules = is_none large && list_all size_fits (blocks_in (in_line (map module_tree modules)))

pub record MeasuredSoFar (inside : Inside Measure) (large first : Option ℕ) (left all : List Module) : Type 0 where
  pub knows : KnowsBefore measure_seen measured inside left all
  pub sizes : none_large large left ≡ none_large first all

pub rest-is : (modules : List Module) (i : ℕ) (part : Module) → i < length modules → part ≡ slice_index_or modules i part → drop i modules ≡ part ∷ drop (i + 1) modules
rest-is modules i part within is =
    let left : drop i modules ≡ slice_index_or modules i part ∷ drop (i + 1) modules = rw (add-one, drop-cons modules i part) refl in
    left ∙ ap (λ x. x ∷ drop (i + 1) modules) (sym is)

grouped : (a b c : Bool) → ((a && b) && c) ≡ (a && (b && c))
grouped true b c = refl
grouped false b c = refl

pub and-true : (a : Bool) → a ≡ (a && true)
and-true true = refl
and-true false = refl

large-more : (old new : Option ℕ) (left others : List Module) (first : Module) → left ≡ first ∷ others → is_none new ≡ (is_none old && list_all size_fits (blocks_at (module_tree first))) → none_large new others ≡ none_large old left
unfolding in_line
large-more old new left others first is more =
    ap (λ b. b && list_all size_fits (blocks_in (in_line (map module_tree others)))) more
    ∙ (grouped (is_none old) (list_all size_fits (blocks_at (module_tree first))) (list_all size_fits (blocks_in (in_line (map module_tree others))))
    ∙ ap (λ b. is_none old && b) (sym (list_all-append size_fits (blocks_at (module_tree first)) (blocks_in (in_line (map module_tree others))))
    ∙ (ap (list_all size_fits) (sym (first-blocks (module_tree first) (in_line (map module_tree others)))) ∙ ap (λ modules. list_all size_fits (blocks_in (in_line (map module_tree modules)))) (sym is))))

pub measured-more : (inside inside' : Inside Measure) (large large' first_large : Option ℕ) (left others all : List Module) (first : Module) (item : Measure) → left ≡ first ∷ others → measure_seen item ≡ measured (module_tree first)
    → ((wanted : Element) → found_inside inside' wanted ≡ option_or (found_inside inside wanted) (if same_element wanted (element_of (module_tree first)) then Some item else None))
    → is_none large' ≡ (is_none large && list_all size_fits (blocks_at (module_tree first)))
    → MeasuredSoFar inside large first_large left all → MeasuredSoFar inside' large' first_large others all
measured-more inside inside' large large' first_large left others all first item is seen kept more before = record {
  knows = knows-more measure_seen measured inside inside' left others all first item is seen kept before.knows;
  sizes = large-more large large' left others first is more ∙ before.sizes;
}

pub all-known : (inside : Inside Measure) (large first_large : Option ℕ) (left all : List Module) → left ≡ [] → MeasuredSoFar inside large first_large left all → Knows inside (in_line (map module_tree all))
all-known inside large first_large left all is before = knows-done measure_seen measured inside left all is before.knows

pub all-sized : (inside : Inside Measure) (large first_large : Option ℕ) (left all : List Module) → left ≡ [] → MeasuredSoFar inside large first_large left all → is_none large ≡ none_large first_large all
unfolding in_line blocks_in
all-sized inside large first_large left all is before = and-true (is_none large) ∙ (ap (none_large large) (sym is) ∙ before.sizes)

-- a block behind all that is inside it
turned : (a b c : Bool) → ((a && b) && c) ≡ (a && (c && b))
turned true true true = refl
turned true true false = refl
turned true false true = refl
turned true false false = refl
turned false b c = refl

pub block-sized : (unit : BlockTree) (inside : Modules) (old mid new : Option ℕ) (measure : Measure) → inside ≡ unit.inside → is_none mid ≡ (is_none old && list_all size_fits (blocks_in inside))
    → measure_seen measure ≡ measured (one_block unit) → is_none new ≡ (is_none mid && nat_le measure.room.size (2 ^ 64)) → is_none new ≡ (is_none old && list_all size_fits (blocks_at (one_block unit)))
block-sized unit inside old mid new measure same first is more =
    more ∙ (ap₂ (λ a b. a && b) (first ∙ ap (λ modules. is_none old && list_all size_fits (blocks_in modules)) same) (ap (λ m. nat_le m.room.size (2 ^ 64)) is ∙ cut-size (extent_of unit).size)
    ∙ turned (is_none old) (list_all size_fits (blocks_in unit.inside)) (size_fits unit))

-- ---- the blocks at the top

abbrev pub none_large_top : Option ℕ → List Block → Bool
none_large_top large blocks = is_none large && list_all size_fits (flat_map (λ unit. unit ∷ blocks_in unit.inside) (map block_tree blocks))

pub record TopsSoFar (tops : List (List ℕ × Measure)) (large first : Option ℕ) (left all : List Block) : Type 0 where
  pub knows : (name : List ℕ) → option_or (option_map measure_seen (lookup (bytes_eq name) tops)) (option_map block_measured (top_block name (map block_tree left))) ≡ option_map block_measured (top_block name (map block_tree all))
  pub sizes : none_large_top large left ≡ none_large_top first all

pub tops-more : (tops tops' : List (List ℕ × Measure)) (large large' first_large : Option ℕ) (left others all : List Block) (first : Block) (own : List ℕ) (item : Measure) → left ≡ first ∷ others → own ≡ (block_tree first).head.name
    → measure_seen item ≡ measured (one_block (block_tree first))
    → ((name : List ℕ) → lookup (bytes_eq name) tops' ≡ option_or (lookup (bytes_eq name) tops) (if bytes_eq name own then Some item else None))
    → is_none large' ≡ (is_none large && list_all size_fits (blocks_at (one_block (block_tree first))))
    → TopsSoFar tops large first_large left all → TopsSoFar tops' large' first_large others all
tops-more tops tops' large large' first_large left others all first own item is named seen kept more before = record {
  knows = λ name.
      ap (λ o. option_or (option_map measure_seen o) (option_map block_measured (top_block name (map block_tree others)))) (kept name ∙ ap (λ n. option_or (lookup (bytes_eq name) tops) (if bytes_eq name n then Some item else None)) named)
      ∙ (by (lookup (bytes_eq name) tops) (bytes_eq name (block_tree first).head.name) (top_block name (map block_tree others))
      ∙ (ap (λ blocks. option_or (option_map measure_seen (lookup (bytes_eq name) tops)) (option_map block_measured (top_block name (map block_tree blocks)))) (sym is) ∙ before.knows name));
  sizes =
      ap (λ b. b && list_all size_fits (flat_map (λ unit. unit ∷ blocks_in unit.inside) (map block_tree others))) more
      ∙ (grouped (is_none large) (list_all size_fits (blocks_at (one_block (block_tree first)))) (list_all size_fits (flat_map (λ unit. unit ∷ blocks_in unit.inside) (map block_tree others)))
      ∙ (ap (λ b. is_none large && b) (sym (list_all-append size_fits (blocks_at (one_block (block_tree first))) (flat_map (λ unit. unit ∷ blocks_in unit.inside) (map block_tree others))))
      ∙ (ap (none_large_top large) (sym is) ∙ before.sizes)));
}
  where
    by : (o : Option Measure) (b : Bool) (p : Option BlockTree)
        → option_or (option_map measure_seen (option_or o (if b then Some item else None))) (option_map block_measured p) ≡ option_or (option_map measure_seen o) (option_map block_measured (if b then Some (block_tree first) else p))
    by (Some m) b p = refl
    by None true p = ap Some seen
    by None false p = refl

pub tops-known : (tops : List (List ℕ × Measure)) (large first_large : Option ℕ) (left all : List Block) → left ≡ [] → TopsSoFar tops large first_large left all
    → (name : List ℕ) → option_map measure_seen (lookup (bytes_eq name) tops) ≡ option_map block_measured (top_block name (map block_tree all))
tops-known tops large first_large left all is before name =
    by (lookup (bytes_eq name) tops) ∙ (ap (λ blocks. option_or (option_map measure_seen (lookup (bytes_eq name) tops)) (option_map block_measured (top_block name (map block_tree blocks)))) (sym is) ∙ before.knows name)
  where
    by : (o : Option Measure) → option_map measure_seen o ≡ option_or (option_map measure_seen o) None
    by None = refl
    by (Some m) = refl

pub tops-sized : (tops : List (List ℕ × Measure)) (large first_large : Option ℕ) (left all : List Block) → left ≡ [] → TopsSoFar tops large first_large left all → is_none large ≡ none_large_top first_large all
tops-sized tops large first_large left all is before = and-true (is_none large) ∙ (ap (none_large_top large) (sym is) ∙ before.sizes)

pub tops-first : (tops : List (List ℕ × Measure)) (large : Option ℕ) (left all : List Block) → tops ≡ [] → left ≡ all → TopsSoFar tops large large left all
tops-first tops large left all none same = record {
  knows = λ name. ap₂ (λ held blocks. option_or (option_map measure_seen (lookup (bytes_eq name) held)) (option_map block_measured (top_block name (map block_tree blocks)))) none same;
  sizes = ap (none_large_top large) same;
}

-- in the order of the definition
pub sizes-first : (slots sizes : Bool) → (slots && sizes) ≡ (sizes && slots)
sizes-first true true = refl
sizes-first true false = refl
sizes-first false true = refl
sizes-first false false = refl
