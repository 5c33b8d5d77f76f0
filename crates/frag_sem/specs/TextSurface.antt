-- The surface of a crate text: the names, counts and methods that its accessors, `impl` blocks and blocks of values state.
use Rattle.std.specs.Prelude.{ℕ, List, [], ◌∷◌, ◌++◌, codes, map, flat_map, Some, None, is_some, unwrap_or, option_map}
use Rattle.frag_tree.specs.declared.access.Access.{Access}
use Rattle.frag_tree.specs.declared.block.Element.{Element}
use Rattle.frag_tree.specs.declared.krate.Slot.{Slot}
use Rattle.frag_tree.specs.declared.register.ReadForm.{ReadForm}
use Rattle.frag_tree.specs.declared.register.ReadForm.TheVariants as read
use Rattle.frag_tree.specs.declared.register.Reader.{Reader}
use Rattle.frag_tree.specs.declared.register.RegisterModule.{RegisterModule}
use Rattle.frag_tree.specs.declared.register.WriteForm.{WriteForm}
use Rattle.frag_tree.specs.declared.register.WriteForm.TheVariants as write
use Rattle.frag_tree.specs.declared.register.Writer.{Writer}
use Rattle.frag_tree.specs.Trees.{BlockHead, BlockTree, CrateTree, Modules, ModuleTree, one_register, one_block}
use Rattle.frag_sem.specs.CallPlaces.{body_count}
use Rattle.frag_sem.specs.Modules.{beside, each_module, top_block}
use Rattle.frag_sem.specs.PreludeCalls.{bit_tests, bit_writes}
use Rattle.frag_sem.specs.ProxyTypes.{numbers_on, reader_type, readers_of, truths_on, writer_type, writers_of}
use Rattle.frag_sem.specs.Spots.{read_spot, spot_count, write_spot}
use Rattle.frag_sem.specs.Surfaces.{Below, Entry, ReadCall, ReadField, RegisterCalls, Step, Surface, number, truth, WriteCall, WriteField}

-- ---- fields

-- a call that compares what was read
abbrev pub test_call : List ℕ → ReadCall
test_call name = record { name = name; gives = truth }

-- a call that writes what it says
abbrev pub plain_call : List ℕ → WriteCall
plain_call name = record { name = name; takes = None }

-- the calls of a reader: those of the prelude, and then those of the values on its type
abbrev pub read_calls : RegisterModule → Reader → ReadForm → List ReadCall
read_calls unit reader (read.Bit spot mask) =
    record { name = codes "bit"; gives = truth } ∷ map (λ call. test_call call.name) (bit_tests ++ truths_on (reader_type reader) unit.values)
read_calls unit reader (read.Field width spot mask) =
    record { name = codes "bits"; gives = number width } ∷ map (λ call. test_call call.name) (numbers_on (reader_type reader) unit.values)

abbrev pub read_field : RegisterModule → Reader → ReadField
read_field unit reader = record { name = reader.name; count = spot_count (read_spot reader.form); calls = read_calls unit reader reader.form }

-- the calls of a writer: those of the prelude, and then those of the values on its type
abbrev pub write_calls : RegisterModule → Writer → WriteForm → List WriteCall
write_calls unit writer (write.Bit kind spot) =
    record { name = codes "bit"; takes = Some truth } ∷ map (λ call. plain_call call.name) (bit_writes kind ++ truths_on (writer_type writer) unit.values)
write_calls unit writer (write.Field width bits spot) =
    record { name = codes "bits"; takes = Some (number width) } ∷ map (λ call. plain_call call.name) (numbers_on (writer_type writer) unit.values)

abbrev pub write_field : RegisterModule → Writer → WriteField
write_field unit writer = record { name = writer.name; count = spot_count (write_spot writer.form); calls = write_calls unit writer writer.form }

-- what a register module offers
unfoldable pub register_calls : RegisterModule → RegisterCalls
register_calls unit = record {
  width = unit.word;
  readable = unit.readable;
  writable = is_some unit.writable;
  readers = map (read_field unit) (readers_of unit);
  writers = map (write_field unit) (writers_of unit);
}

-- ---- what lies below a module, seen from itself

abbrev pub of_register : RegisterModule → List Below
of_register unit = record { steps = []; register = Some (register_calls unit) } ∷ []

-- an accessor of a block as a step
abbrev pub step_of : BlockHead → Access → Step
step_of head access = record { name = access.name; count = body_count head.fields access.body }

-- the same, seen from one step further up
abbrev pub behind_step : Step → Below → Below
behind_step step below = record { steps = step ∷ below.steps; register = below.register }

-- what lies below the module of an element; nothing where it isn't there
abbrev pub known_below : List (Element × List Below) → Element → List Below
known_below known element = unwrap_or (beside element known) []

-- the block itself, and then behind each accessor in order what lies below its element
abbrev pub of_block : BlockHead → List (Element × List Below) → List Below
of_block head known =
    record { steps = []; register = None } ∷ flat_map (λ access. map (behind_step (step_of head access)) (known_below known access.element)) head.accessors

-- what lies below each module of a parent
unfoldable pub below_modules : Modules → List (Element × List Below)
below_modules modules = each_module of_register of_block modules

abbrev pub below_block : BlockTree → List Below
below_block unit = of_block unit.head (below_modules unit.inside)

abbrev pub below_module : ModuleTree → List Below
below_module (one_register unit) = of_register unit
below_module (one_block unit) = below_block unit

-- ---- the crate

abbrev pub of_slot : CrateTree → Slot → List Entry
of_slot krate slot = map (λ below. record { slot = slot.name; below = below }) (unwrap_or (option_map below_block (top_block slot.block krate.blocks)) [])

-- the surface of a crate
unfoldable pub text_surface : CrateTree → Surface
text_surface krate = flat_map (of_slot krate) krate.slots
