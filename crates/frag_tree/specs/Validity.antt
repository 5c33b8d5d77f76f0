-- Which trees are valid: each name is an identifier, each number is below 2^64, and in version 1 no spot is indexed. Of the trees that code builds the names and numbers are.
use Rattle.std.specs.Prelude.{ℕ, ◌^◌, Bool, true, ◌&&◌, Option, Some, None, nat_lt}
use Rattle.std.specs.List.{list_all}
use Rattle.frag_tree.specs.declared.access.Access.{Access}
use Rattle.frag_tree.specs.declared.access.Body.{Body}
use Rattle.frag_tree.specs.declared.access.Body.TheVariants as body
use Rattle.frag_tree.specs.declared.block.Element.{Element}
use Rattle.frag_tree.specs.declared.block.Element.TheVariants as element
use Rattle.frag_tree.specs.declared.block.FieldType.{FieldType}
use Rattle.frag_tree.specs.declared.block.FieldType.TheVariants as holds
use Rattle.frag_tree.specs.declared.block.StructField.{StructField}
use Rattle.frag_tree.specs.declared.krate.Slot.{Slot}
use Rattle.frag_tree.specs.declared.krate.Version.{Version}
use Rattle.frag_tree.specs.declared.register.Constant.{Constant}
use Rattle.frag_tree.specs.declared.register.NumberCall.{NumberCall}
use Rattle.frag_tree.specs.declared.register.ReadForm.{ReadForm}
use Rattle.frag_tree.specs.declared.register.ReadForm.TheVariants as read
use Rattle.frag_tree.specs.declared.register.Reader.{Reader}
use Rattle.frag_tree.specs.declared.register.RegisterModule.{RegisterModule}
use Rattle.frag_tree.specs.declared.register.Spot.{Spot}
use Rattle.frag_tree.specs.declared.register.Spot.TheVariants.{Fixed, Indexed}
use Rattle.frag_tree.specs.declared.register.TruthCall.{TruthCall}
use Rattle.frag_tree.specs.declared.register.Values.{Values}
use Rattle.frag_tree.specs.declared.register.Values.TheVariants as values
use Rattle.frag_tree.specs.declared.register.Writable.{Writable}
use Rattle.frag_tree.specs.declared.register.WriteForm.{WriteForm}
use Rattle.frag_tree.specs.declared.register.WriteForm.TheVariants as write
use Rattle.frag_tree.specs.declared.register.Writer.{Writer}
use Rattle.rust_names.specs.Identifiers.{is_identifier}
use Rattle.frag_tree.specs.Trees.{BlockHead, BlockTree, CrateTree, Modules, ended, register, block, spot_read, spot_written, takes_index}

-- below 2^64
abbrev pub is_number : ℕ → Bool
is_number number = nat_lt number (2 ^ 64)

abbrev pub valid_slot : Slot → Bool
valid_slot slot = is_identifier slot.name && (is_identifier slot.block && is_number slot.address)

abbrev pub valid_element : Element → Bool
valid_element (element.Register unit) = is_identifier unit
valid_element (element.Block unit) = is_identifier unit

abbrev pub valid_type : FieldType → Bool
valid_type (holds.One element) = valid_element element
valid_type (holds.Array element count) = valid_element element && is_number count
valid_type (holds.Gap bytes) = is_number bytes

abbrev pub valid_field : StructField → Bool
valid_field field = is_identifier field.name && valid_type field.holds

abbrev pub valid_body : Body → Bool
valid_body (body.Field field) = is_identifier field
valid_body (body.Member field) = is_identifier field
valid_body (body.At offset) = is_number offset
valid_body (body.AtIndex offset stride count) = is_number offset && (is_number stride && is_number count)

abbrev pub valid_access : Access → Bool
valid_access access = is_identifier access.name && (valid_element access.element && valid_body access.body)

abbrev pub valid_constant : Constant → Bool
valid_constant constant = is_number constant.value

abbrev pub valid_writable : Writable → Bool
valid_writable masks = valid_constant masks.zero_to_modify && valid_constant masks.one_to_modify

abbrev pub valid_spot : Spot → Bool
valid_spot (Fixed place) = is_number place
valid_spot (Indexed offset step count) = is_number offset && (is_number step && is_number count)

-- in version 1 every spot is a number
abbrev pub stands_in : Version → Spot → Bool
stands_in version (Fixed place) = true
stands_in version (Indexed offset step count) = takes_index version

abbrev pub valid_read : ReadForm → Bool
valid_read (read.Bit spot mask) = valid_spot spot && is_number mask
valid_read (read.Field bits spot mask) = valid_spot spot && is_number mask

abbrev pub valid_reader : Version → Reader → Bool
valid_reader version reader = stands_in version (spot_read reader.form) && (is_identifier reader.name && (is_identifier reader.marker && valid_read reader.form))

abbrev pub valid_write : WriteForm → Bool
valid_write (write.Bit kind spot) = valid_spot spot
valid_write (write.Field bits wide spot) = is_number wide && valid_spot spot

abbrev pub valid_writer : Version → Writer → Bool
valid_writer version writer = stands_in version (spot_written writer.form) && (is_identifier writer.name && (is_identifier writer.marker && valid_write writer.form))

abbrev pub valid_truth : TruthCall → Bool
valid_truth call = is_identifier call.name

abbrev pub valid_number : NumberCall → Bool
valid_number call = is_identifier call.name && is_number call.value

abbrev pub valid_values : Values → Bool
valid_values (values.BitReading marker calls) = is_identifier marker && list_all valid_truth calls
valid_values (values.FieldReading marker bits calls) = is_identifier marker && list_all valid_number calls
valid_values (values.BitWriting kind marker calls) = is_identifier marker && list_all valid_truth calls
valid_values (values.FieldWriting marker bits wide calls) = is_identifier marker && (is_number wide && list_all valid_number calls)

abbrev pub valid_option : {A : Type 0} → (A → Bool) → Option A → Bool
valid_option valid None = true
valid_option valid (Some part) = valid part

unfoldable pub valid_register : Version → RegisterModule → Bool
valid_register version unit =
    is_identifier unit.name && (valid_option valid_writable unit.writable && (valid_constant unit.reset && (list_all is_identifier unit.markers && (valid_option (list_all (valid_reader version)) unit.readers && (valid_option (list_all (valid_writer version)) unit.writers && list_all valid_values unit.values)))))

abbrev pub valid_head : BlockHead → Bool
valid_head head = is_identifier head.name && (list_all valid_field head.fields && list_all valid_access head.accessors)

unfoldable pub valid_modules : Version → Modules → Bool
valid_modules version ended = true
valid_modules version (register unit others) = valid_register version unit && valid_modules version others
valid_modules version (block head inside others) = valid_head head && (valid_modules version inside && valid_modules version others)

abbrev pub valid_block : Version → BlockTree → Bool
valid_block version unit = valid_head unit.head && valid_modules version unit.inside

abbrev pub valid_crate : CrateTree → Bool
valid_crate krate = list_all valid_slot krate.slots && list_all (valid_block krate.version) krate.blocks
