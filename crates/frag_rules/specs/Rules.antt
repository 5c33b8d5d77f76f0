-- The typing rules as tests of a crate whose modules are laid out in lists: of the crate, of each block and of each register.
use Rattle.std.specs.Prelude.{Bool, ◌&&◌, is_some, List, [], ◌∷◌, map}
use Rattle.std.specs.List.{list_all, list_any}
use Rattle.pac_base.specs.Widths.{bits_of}
use Rattle.frag_tree.specs.declared.krate.Version.{Version}
use Rattle.frag_tree.specs.declared.register.RegisterModule.{RegisterModule}
use Rattle.frag_tree.specs.Trees.{BlockTree}
use Rattle.frag_sem.specs.AddressEnds.{addresses_fit}
use Rattle.frag_sem.specs.CrateTyping.{TypingKind, block_names_differ, body_has_members, body_types, constants_of, double_name, is_free, is_marker, is_module, literal_range, names_field, names_module, read_fits, register_constants_fit, register_names_differ, register_names_free, spots_have_members, too_large, type_has_members, unknown_name, values_fit, write_fits, wrong_type}
use Rattle.frag_sem.specs.Modules.{are_distinct_names, top_block}
use Rattle.frag_sem.specs.PreludeWords.{same_truth}
use Rattle.frag_sem.specs.ProxyTypes.{readers_of, same_type, same_width, types_of, values_type, writers_of}
use Rattle.frag_rules.specs.declared.rule.BlockRule.{BlockRule}
use Rattle.frag_rules.specs.declared.rule.BlockRule.TheVariants as block_rule
use Rattle.frag_rules.specs.declared.rule.RegisterRule.{RegisterRule}
use Rattle.frag_rules.specs.declared.rule.RegisterRule.TheVariants as register_rule
use Rattle.frag_rules.specs.declared.rule.Rule.{Rule}
use Rattle.frag_rules.specs.declared.rule.Rule.TheVariants as rule
use Rattle.frag_rules.specs.Parts.{Laid}

-- the rules in their order
unfoldable pub all_rules : List Rule
all_rules =
    rule.DistinctNames ∷ rule.SlotModules ∷ rule.ModulePaths ∷ rule.BodyFields ∷ rule.BodyTypes ∷ rule.Counts ∷
    rule.ConstantTypes ∷ rule.ConstantValues ∷ rule.ReaderMarkers ∷ rule.ReaderPlaces ∷ rule.WriterMarkers ∷ rule.WriterPlaces ∷
    rule.ValueTypes ∷ rule.ValueLiterals ∷ rule.PreludeNames ∷ rule.Directions ∷ rule.AddressRange ∷ []

-- the kind of the fault where a rule is broken
abbrev pub rule_kind : Rule → TypingKind
rule_kind rule.DistinctNames = double_name
rule_kind rule.SlotModules = unknown_name
rule_kind rule.ModulePaths = unknown_name
rule_kind rule.BodyFields = unknown_name
rule_kind rule.BodyTypes = wrong_type
rule_kind rule.Counts = literal_range
rule_kind rule.ConstantTypes = wrong_type
rule_kind rule.ConstantValues = literal_range
rule_kind rule.ReaderMarkers = unknown_name
rule_kind rule.ReaderPlaces = literal_range
rule_kind rule.WriterMarkers = unknown_name
rule_kind rule.WriterPlaces = literal_range
rule_kind rule.ValueTypes = unknown_name
rule_kind rule.ValueLiterals = literal_range
rule_kind rule.PreludeNames = double_name
rule_kind rule.Directions = wrong_type
rule_kind rule.AddressRange = too_large

-- a block keeps a rule
unfoldable pub block_test : BlockRule → Version → BlockTree → Bool
block_test block_rule.DistinctNames version unit = block_names_differ unit
block_test block_rule.ModulePaths version unit = list_all (λ field. names_module unit.inside field.holds) unit.head.fields && list_all (λ access. is_module unit.inside access.element) unit.head.accessors
block_test block_rule.BodyFields version unit = list_all (λ access. names_field unit.head.fields access.body) unit.head.accessors
block_test block_rule.BodyTypes version unit = list_all (λ access. body_types unit.head.fields access access.body) unit.head.accessors
block_test block_rule.Counts version unit = list_all (λ field. type_has_members field.holds) unit.head.fields && list_all (λ access. body_has_members access.body) unit.head.accessors
block_test block_rule.PreludeNames version unit = list_all (λ access. is_free version access.name) unit.head.accessors

-- a register module keeps a rule
unfoldable pub register_test : RegisterRule → Version → RegisterModule → Bool
register_test register_rule.DistinctNames version unit = register_names_differ unit
register_test register_rule.Counts version unit = spots_have_members unit
register_test register_rule.ConstantTypes version unit = list_all (λ constant. same_width constant.width unit.word) (constants_of unit)
register_test register_rule.ConstantValues version unit = register_constants_fit unit
register_test register_rule.ReaderMarkers version unit = list_all (λ reader. is_marker unit reader.marker) (readers_of unit)
register_test register_rule.ReaderPlaces version unit = list_all (λ reader. read_fits (bits_of unit.word) reader.form) (readers_of unit)
register_test register_rule.WriterMarkers version unit = list_all (λ writer. is_marker unit writer.marker) (writers_of unit)
register_test register_rule.WriterPlaces version unit = list_all (λ writer. write_fits (bits_of unit.word) writer.form) (writers_of unit)
register_test register_rule.ValueTypes version unit = list_all (λ block. list_any (same_type (values_type block)) (types_of unit)) unit.values
register_test register_rule.ValueLiterals version unit = list_all values_fit unit.values
register_test register_rule.PreludeNames version unit = register_names_free version unit
register_test register_rule.Directions version unit = same_truth unit.readable (is_some unit.readers) && same_truth (is_some unit.writable) (is_some unit.writers)

-- each block keeps a rule
abbrev pub blocks_keep : BlockRule → Laid → Bool
blocks_keep rule laid = list_all (block_test rule laid.tree.version) laid.blocks

-- each register module keeps a rule
abbrev pub registers_keep : RegisterRule → Laid → Bool
registers_keep rule laid = list_all (register_test rule laid.tree.version) laid.registers

-- a crate keeps a rule
unfoldable pub rule_test : Rule → Laid → Bool
rule_test rule.DistinctNames laid =
    are_distinct_names (map (λ slot. slot.name) laid.tree.slots)
    && (are_distinct_names (map (λ unit. unit.head.name) laid.tree.blocks)
    && (blocks_keep block_rule.DistinctNames laid && registers_keep register_rule.DistinctNames laid))
rule_test rule.SlotModules laid = list_all (λ slot. is_some (top_block slot.block laid.tree.blocks)) laid.tree.slots
rule_test rule.ModulePaths laid = blocks_keep block_rule.ModulePaths laid
rule_test rule.BodyFields laid = blocks_keep block_rule.BodyFields laid
rule_test rule.BodyTypes laid = blocks_keep block_rule.BodyTypes laid
rule_test rule.Counts laid = blocks_keep block_rule.Counts laid && registers_keep register_rule.Counts laid
rule_test rule.ConstantTypes laid = registers_keep register_rule.ConstantTypes laid
rule_test rule.ConstantValues laid = registers_keep register_rule.ConstantValues laid
rule_test rule.ReaderMarkers laid = registers_keep register_rule.ReaderMarkers laid
rule_test rule.ReaderPlaces laid = registers_keep register_rule.ReaderPlaces laid
rule_test rule.WriterMarkers laid = registers_keep register_rule.WriterMarkers laid
rule_test rule.WriterPlaces laid = registers_keep register_rule.WriterPlaces laid
rule_test rule.ValueTypes laid = registers_keep register_rule.ValueTypes laid
rule_test rule.ValueLiterals laid = registers_keep register_rule.ValueLiterals laid
rule_test rule.PreludeNames laid = blocks_keep block_rule.PreludeNames laid && registers_keep register_rule.PreludeNames laid
rule_test rule.Directions laid = registers_keep register_rule.Directions laid
rule_test rule.AddressRange laid = addresses_fit laid.tree

-- a rule with the kind of its fault, and whether a crate keeps it
abbrev pub tested : Laid → Rule → Bool × TypingKind
tested laid rule = (rule_test rule laid, rule_kind rule)
