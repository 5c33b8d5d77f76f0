-- The index of the blocks of a crate: what is looked up in each by name, against its tree.
use Rattle.std.specs.Prelude.{ℕ, ◌≡◌, List, ◌++◌, Option, Some, None, IfSome, option_map, option_and_then, slice_get, if◌then◌else◌, ⊤}
use Rattle.std.specs.List.{AllByRecursion}
use Rattle.std.specs.Map.{lookup}
use Rattle.std.specs.Option.{option_or}
use Rattle.std.specs.Str.{bytes_eq}
use Rattle.frag_rules.specs.Elements.{element_of}
use Rattle.frag_rules.specs.Insides.{found_inside, holds_nothing}
use Rattle.frag_rules.specs.Measures.{HasLaid, Knows, measure_seen, measured}
use Rattle.frag_rules.specs.Naming.{named_in}
use Rattle.frag_sem.specs.CallPlaces.{access_named, slot_named, type_count}
use Rattle.frag_sem.specs.Modules.{module_of, same_element, top_block}
use Rattle.frag_sem.specs.PlaceTyping.{Inner as InnerTree}
use Rattle.frag_tree.specs.declared.block.Element.{Element}
use Rattle.frag_tree.specs.declared.block.StructField.{StructField}
use Rattle.frag_tree.specs.declared.block.Block.{Block}
use Rattle.frag_tree.specs.Trees.{BlockTree, Modules, ModuleTree, block_tree, crate_tree, one_block, one_register}
use Rattle.frag_index.specs.declared.built.Tops.{Tops}
use Rattle.frag_index.specs.declared.index.Index.{Index}
use Rattle.frag_index.specs.declared.site.Added.{Added}
use Rattle.frag_index.specs.declared.site.Behind.{Behind}
use Rattle.frag_index.specs.declared.site.Inner.{Inner}
use Rattle.frag_index.specs.declared.site.Inner.TheVariants as inner
use Rattle.frag_index.specs.declared.site.Site.{Site}
use Rattle.frag_index.specs.declared.site.Within.{Within}

-- a module that is lent, as its tree
abbrev pub inner_tree : Inner → ModuleTree
inner_tree (inner.Register unit) = one_register unit
inner_tree (inner.Block unit number) = one_block (block_tree unit.now)

-- a module behind an accessor, as typing has it
abbrev pub behind_seen : Behind → InnerTree
behind_seen behind = record { count = behind.count; tree = inner_tree behind.unit.now }

-- how many members a field has that is an array; none where there is no such field
abbrev pub field_count : Option StructField → Option ℕ
field_count field = option_and_then (λ found. type_count found.holds) field

-- a block's site stands at its number
pub record StandsAt (sites : List Site) (unit : Block) (number : ℕ) : Type 0 where
  pub site : Site
  pub there : slice_get sites number ≡ Some site
  pub of_block : site.block.now ≡ unit

abbrev pub IsNumbered : List Site → Inner → Type 0
IsNumbered sites (inner.Register unit) = ⊤
IsNumbered sites (inner.Block unit number) = StandsAt sites unit.now number

abbrev pub AreNumbered : List Site → Option Inner → Type 0
AreNumbered sites found = IfSome found (IsNumbered sites)

-- ---- sites

-- what is known of the modules inside a block
pub record WithinFits (sites : List Site) (within : Within) (modules : Modules) : Type 0 where
  pub units_are : (wanted : Element) → option_map inner_tree (found_inside within.units wanted) ≡ module_of wanted modules
  pub numbered : (wanted : Element) → AreNumbered sites (found_inside within.units wanted)
  pub knows : Knows within.measures modules

-- what is looked up in a site is what stands in its block
pub record SiteFits (sites : List Site) (site : Site) : Type 0 where
  pub accessors_are : (name : List ℕ) → named_in site.accessors name ≡ access_named name (block_tree site.block.now).head.accessors
  pub inside : WithinFits sites site.within (block_tree site.block.now).inside
  pub laid : HasLaid (block_tree site.block.now) site.within.measures site.fields site.layout

abbrev pub AllFit : List Site → Type 0
AllFit sites = AllByRecursion (SiteFits sites) sites

-- the site of a block
abbrev pub IsSiteOf : List Site → Block → Site → Type 0
IsSiteOf sites unit site = (site.block.now ≡ unit) × SiteFits sites site

-- ---- as sites are added

-- more sites stand behind the old ones
pub record Grown (old now : List Site) : Type 0 where
  pub more : List Site
  pub all : now ≡ old ++ more

pub record Adds (old now : List Site) (tree : ModuleTree) (added : Added) : Type 0 where
  pub grown : Grown old now
  pub fit : AllFit old → AllFit now
  pub tree_is : inner_tree added.unit ≡ tree
  pub numbered : IsNumbered now added.unit
  pub measure_is : measure_seen added.measure ≡ measured tree

pub record AddsAll (old now : List Site) (modules : Modules) (within : Within) : Type 0 where
  pub grown : Grown old now
  pub fit : AllFit old → AllFit now
  pub inside : WithinFits now within modules

abbrev pub HoldsNothing : Within → Type 0
HoldsNothing within = holds_nothing within.units × holds_nothing within.measures

-- one more module is known, where none before it is named so
pub record IsAdded (old : Within) (tree : ModuleTree) (added : Added) (now : Within) : Type 0 where
  pub units : (wanted : Element) → found_inside now.units wanted ≡ option_or (found_inside old.units wanted) (if same_element wanted (element_of tree) then Some added.unit else None)
  pub measures : (wanted : Element) → found_inside now.measures wanted ≡ option_or (found_inside old.measures wanted) (if same_element wanted (element_of tree) then Some added.measure else None)

-- one more block at the top
pub record AddsTop (old : Tops) (tree : BlockTree) (now : Tops) : Type 0 where
  pub unit : Inner
  pub tree_is : inner_tree unit ≡ one_block tree
  pub grown : Grown old.sites.items now.sites.items
  pub fit : AllFit old.sites.items → AllFit now.sites.items
  pub numbered : IsNumbered now.sites.items unit
  pub kept : (name : List ℕ) → lookup (bytes_eq name) now.named ≡ option_or (lookup (bytes_eq name) old.named) (if bytes_eq name tree.head.name then Some unit else None)

-- the blocks at the top of a crate, and all sites
pub record TopsFit (tops : Tops) (blocks : List BlockTree) : Type 0 where
  pub fit : AllFit tops.sites.items
  pub trees : (name : List ℕ) → option_map inner_tree (lookup (bytes_eq name) tops.named) ≡ option_map one_block (top_block name blocks)
  pub numbered : (name : List ℕ) → AreNumbered tops.sites.items (lookup (bytes_eq name) tops.named)

-- ---- the whole

-- the index is that of its crate
pub record IsIndex (index : Index) : Type 0 where
  pub slots_are : (name : List ℕ) → named_in index.slots name ≡ slot_named name (crate_tree index.krate.now).slots
  pub blocks : TopsFit index.tops (crate_tree index.krate.now).blocks

-- what is found behind an accessor, if anything
pub record LeadsBehind (sites : List Site) (wanted : Option InnerTree) (found : Option Behind) : Type 0 where
  pub same : option_map behind_seen found ≡ wanted
  pub numbered : IfSome found (λ behind. IsNumbered sites behind.unit.now)
