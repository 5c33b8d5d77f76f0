-- The emitted crate of a description of which checking finds its facts fits.
use Rattle.std.proofs.Common.{◌≡◌, ℕ, ◌^◌, Bool, true, false, ◌&&◌, cond, List, [], ◌∷◌, map, Option, Some, option_and_then, is_some, nat_le, refl, sym, ap, ap₂, ◌∙◌, subst, bytes_eq}
use Rattle.std.specs.List.{AllByRecursion, flat_map, list_all, list_any}
use Rattle.std.specs.Prelude.{⊤}
use Rattle.checked_tree.specs.Devices.{AreChecked, ArePeripherals, base_of}
use Rattle.checked_tree.specs.Names.{accessor_names, slot_names}
use Rattle.checked_tree.proofs.Trees.{checked_trees}
use Rattle.crate_form.specs.Crates.{blocks_of, crate_of, slots_of}
use Rattle.crate_form.specs.Modules.{block_of, modules_of}
use Rattle.crate_form.proofs.Forming.{emitted_by_tree}
use Rattle.crate_fits.specs.Laws.{CheckedCratesFit, CratesFit}
use Rattle.crate_fits.proofs.Blocks.{BlockKeeps, all-keep, block-keeps}
use Rattle.crate_fits.proofs.Ends.{block-end, ends-fit}
use Rattle.frag_sem.specs.AddressEnds.{addresses_fit, block_end, end_fits, slot_fits}
use Rattle.frag_sem.specs.CrateTyping.{CrateFits, block_names_differ, bodies_fit, bodies_name_fields, constants_fit, constants_have_type, counts_are_some, directions_agree, names_are_free, names_differ, paths_lead, reader_markers, reader_places, register_names_differ, register_names_free, slots_lead, spots_have_members, value_literals, value_types, writer_markers, writer_places}
use Rattle.frag_sem.specs.Layout.{extent_of}
use Rattle.frag_sem.specs.Modules.{all_blocks, all_registers, are_distinct, are_distinct_names, blocks_in, registers_in, top_block}
use Rattle.frag_sem.proofs.Chains.{range_by}
use Rattle.frag_sem.proofs.Lists.{both_true, turned}
use Rattle.frag_tree.specs.declared.krate.Slot.{Slot}
use Rattle.frag_tree.specs.declared.register.RegisterModule.{RegisterModule}
use Rattle.frag_tree.specs.declared.krate.Version.{Version}
use Rattle.frag_tree.specs.Trees.{BlockTree, CrateTree}
use Rattle.reg_table.specs.Walk.{props_inside}
use Rattle.reg_table.proofs.Exchanges.{every-append}
use Rattle.register_form.specs.Laws.{KeepsRules}
use Rattle.std.proofs.lemmas.Bool.{or_parts}
use Rattle.std.proofs.lemmas.Slice.Eq.{bytes_eq-Decides}
use Rattle.svd_model.specs.declared.props.Props.{Props}
use Rattle.svd_model.specs.Keys.{Key}
use Rattle.svd_model.specs.Steps.{Step}
use Rattle.svd_model.specs.Trees.{device_tree}
use Rattle.svd_rows.specs.Forest.{Forest, leaf, node, steps}
use Rattle.svd_values.specs.AccessorNames.{accessor_name, slot_name_of}

-- ---- all modules

-- what each has, all pass
all-pass : {X : Type 0} (P : X → Type 0) (test : X → Bool) → ((x : X) → P x → test x ≡ true) → (xs : List X) → AllByRecursion P xs → list_all test xs ≡ true
all-pass P test has [] all = refl
all-pass P test has (x ∷ xs) all = ap₂ (λ a b. a && b) (has x all.0) (all-pass P test has xs all.1)

abbrev blocks_from : List BlockTree → List BlockTree
blocks_from blocks = flat_map (λ unit. unit ∷ blocks_in unit.inside) blocks

module _ (version : Version) where
  blocks-keep : (outer : Props) (f : Forest Step Key) → ArePeripherals outer f → AllByRecursion (BlockKeeps version) (blocks_from (blocks_of outer f))
  unfolding ArePeripherals blocks_of
  blocks-keep outer leaf each = tt
  blocks-keep outer (node step keys below others) each =
      let props = props_inside keys outer in
      let inner = all-keep version (base_of keys) props below each.0.inside each.0.placed in (
        block-keeps version (base_of keys) props step below each.0.siblings each.0.inside each.0.placed,
        every-append (BlockKeeps version) (blocks_in (modules_of props below)) (blocks_from (blocks_of outer others)) inner.blocks (blocks-keep outer others each.1),
      )

  registers-keep : (outer : Props) (f : Forest Step Key) → ArePeripherals outer f → AllByRecursion (KeepsRules version) (flat_map (λ unit. registers_in unit.inside) (blocks_of outer f))
  unfolding ArePeripherals blocks_of
  registers-keep outer leaf each = tt
  registers-keep outer (node step keys below others) each =
      let props = props_inside keys outer in
      let inner = all-keep version (base_of keys) props below each.0.inside each.0.placed in
      every-append (KeepsRules version) (registers_in (modules_of props below)) (flat_map (λ unit. registers_in unit.inside) (blocks_of outer others)) inner.registers (registers-keep outer others each.1)

-- ---- slots

slots-named : (f : Forest Step Key) → map (λ (slot : Slot). slot.name) (slots_of f) ≡ slot_names f
unfolding slots_of steps
slots-named leaf = refl
slots-named (node step keys below others) = ap (λ names. slot_name_of step.name ∷ names) (slots-named others)

blocks-named : (outer : Props) (f : Forest Step Key) → map (λ (unit : BlockTree). unit.head.name) (blocks_of outer f) ≡ accessor_names f
unfolding blocks_of steps
blocks-named outer leaf = refl
blocks-named outer (node step keys below others) = ap (λ names. accessor_name step.name ∷ names) (blocks-named outer others)

-- each slot finds the block of its peripheral
unfoldable SlotsFind : (List ℕ → Option BlockTree) → Props → Forest Step Key → Type 0
SlotsFind look outer leaf = ⊤
SlotsFind look outer (node step keys below others) = (look (accessor_name step.name) ≡ Some (block_of (props_inside keys outer) step below)) × SlotsFind look outer others

find-more : (first : BlockTree) (rest : List BlockTree) (outer : Props) (f : Forest Step Key) → list_any (bytes_eq first.head.name) (accessor_names f) ≡ false → SlotsFind (λ name. top_block name rest) outer f → SlotsFind (λ name. top_block name (first ∷ rest)) outer f
unfolding SlotsFind steps
find-more first rest outer leaf apart found = tt
find-more first rest outer (node step keys below others) apart found =
    let parts = or_parts (bytes_eq first.head.name (accessor_name step.name)) (list_any (bytes_eq first.head.name) (accessor_names others)) apart in
    (ap (λ b. cond b (Some first) (top_block (accessor_name step.name) rest)) (turned first.head.name (accessor_name step.name) parts.0) ∙ found.0, find-more first rest outer others parts.1 found.1)

slots-find : (outer : Props) (f : Forest Step Key) → are_distinct_names (accessor_names f) ≡ true → SlotsFind (λ name. top_block name (blocks_of outer f)) outer f
unfolding SlotsFind are_distinct blocks_of steps
slots-find outer leaf distinct = tt
slots-find outer (node step keys below others) distinct =
    let unit = block_of (props_inside keys outer) step below in
    let parts = both_true (Rattle.std.specs.Prelude.not (list_any (bytes_eq (accessor_name step.name)) (accessor_names others))) (are_distinct_names (accessor_names others)) distinct in (
      ap (λ b. cond b (Some unit) (top_block (accessor_name step.name) (blocks_of outer others))) ((bytes_eq-Decides (accessor_name step.name) (accessor_name step.name)).1 refl),
      find-more unit (blocks_of outer others) outer others (off _ parts.0) (slots-find outer others parts.1),
    )
  where
    off : (b : Bool) → Rattle.std.specs.Prelude.not b ≡ true → b ≡ false
    off true e = absurd cc
    off false e = refl

module _ (krate : CrateTree) where
  slots-have : (outer : Props) (f : Forest Step Key) → SlotsFind (λ name. top_block name krate.blocks) outer f → list_all (λ (slot : Slot). is_some (top_block slot.block krate.blocks)) (slots_of f) ≡ true
  unfolding SlotsFind slots_of
  slots-have outer leaf found = refl
  slots-have outer (node step keys below others) found = ap₂ (λ a b. a && b) (ap is_some found.0) (slots-have outer others found.1)

  slots-fit : (outer : Props) (f : Forest Step Key) → ArePeripherals outer f → SlotsFind (λ name. top_block name krate.blocks) outer f → list_all (slot_fits krate) (slots_of f) ≡ true
  unfolding SlotsFind slots_of ArePeripherals
  slots-fit outer leaf each found = refl
  slots-fit outer (node step keys below others) each found =
      let props = props_inside keys outer in
      ap₂ (λ a b. a && b)
      (ap (λ o. end_fits (base_of keys) (option_and_then block_end o)) found.0
      ∙ block-end (base_of keys) props step below each.0.siblings each.0.inside (ends-fit (base_of keys) props below each.0.inside each.0.placed))
      (slots-fit outer others each.1 found.1)

-- ---- a crate

module _ (outer : Props) (peripherals : Forest Step Key) (checked : AreChecked outer peripherals) where
  abbrev krate : CrateTree
  krate = crate_of outer peripherals

  of-blocks : (test : BlockTree → Bool) → ((unit : BlockTree) → BlockKeeps krate.version unit → test unit ≡ true) → list_all test (all_blocks krate) ≡ true
  unfolding crate_of
  of-blocks test has = all-pass (BlockKeeps krate.version) test has (all_blocks krate) (blocks-keep krate.version outer peripherals checked.each)

  of-registers : (test : RegisterModule → Bool) → ((unit : RegisterModule) → KeepsRules krate.version unit → test unit ≡ true) → list_all test (all_registers krate) ≡ true
  unfolding crate_of
  of-registers test has = all-pass (KeepsRules krate.version) test has (all_registers krate) (registers-keep krate.version outer peripherals checked.each)

  abbrev both : (a b : Bool) → a ≡ true → b ≡ true → (a && b) ≡ true
  both a b p q = ap₂ (λ a b. a && b) p q

  pub crate-fits : CrateFits krate
  unfolding crate_of names_differ slots_lead paths_lead bodies_name_fields bodies_fit counts_are_some constants_have_type constants_fit reader_markers reader_places writer_markers writer_places value_types value_literals names_are_free directions_agree addresses_fit
  crate-fits =
      let found = slots-find outer peripherals checked.siblings.names in
      let sizes = of-blocks (λ unit. nat_le (extent_of unit).size (2 ^ 64)) (λ unit keeps. keeps.size) in
      record {
        distinct_names = both _ _ (ap are_distinct_names (slots-named peripherals) ∙ checked.slots)
            (both _ _ (ap are_distinct_names (blocks-named outer peripherals) ∙ checked.siblings.names)
            (both _ _ (of-blocks block_names_differ (λ unit keeps. keeps.names)) (of-registers register_names_differ (λ unit keeps. keeps.names))));
        slot_modules = slots-have krate outer peripherals found;
        module_paths = of-blocks _ (λ unit keeps. keeps.paths);
        accessor_bodies = (of-blocks _ (λ unit keeps. keeps.bodies), of-blocks _ (λ unit keeps. keeps.types));
        counts = both _ _ (of-blocks _ (λ unit keeps. keeps.counts)) (of-registers spots_have_members (λ unit keeps. keeps.counts));
        constants = (of-registers _ (λ unit keeps. keeps.constants_have_type), of-registers _ (λ unit keeps. keeps.constants_fit));
        readers = (of-registers _ (λ unit keeps. keeps.reader_markers), of-registers _ (λ unit keeps. keeps.reader_places));
        writers = (of-registers _ (λ unit keeps. keeps.writer_markers), of-registers _ (λ unit keeps. keeps.writer_places));
        values = (of-registers _ (λ unit keeps. keeps.value_types), of-registers _ (λ unit keeps. keeps.value_literals));
        prelude_names = both _ _ (of-blocks _ (λ unit keeps. keeps.free)) (of-registers (register_names_free krate.version) (λ unit keeps. keeps.free));
        directions = of-registers _ (λ unit keeps. keeps.directions);
        address_range = range_by krate (both _ _ sizes (slots-fit krate outer peripherals checked.each found));
      }

pub crates_fit : CratesFit
crates_fit outer peripherals checked = crate-fits outer peripherals checked

pub checked_crates_fit : CheckedCratesFit
checked_crates_fit device checked = subst CrateFits (sym (emitted_by_tree device)) (crates_fit device.props (device_tree device).below (checked_trees device checked))
