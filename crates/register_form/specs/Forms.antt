-- The form of a register module, in the order of its parts.
use Rattle.std.specs.Prelude.{ℕ, Bool, true, false, List, map, flat_map, filter, Option, Some, None, is_some}
use Rattle.std.specs.List.{list_any}
use Rattle.pac_base.specs.declared.width.Width.{Width}
use Rattle.frag_tree.specs.declared.register.Constant.{Constant}
use Rattle.frag_tree.specs.declared.register.Reader.{Reader}
use Rattle.frag_tree.specs.declared.register.RegisterModule.{RegisterModule}
use Rattle.frag_tree.specs.declared.register.Values.{Values}
use Rattle.frag_tree.specs.declared.register.Writable.{Writable}
use Rattle.frag_tree.specs.declared.register.Writer.{Writer}
use Rattle.register_form.specs.declared.register.Field.{Field}
use Rattle.register_form.specs.declared.register.Register.{Register}
use Rattle.register_form.specs.Fields.{reader_of, values_of, writer_of}

abbrev pub constant : Width → ℕ → Constant
constant width value = record { width = width; value = value }

abbrev pub where_true : {A : Type 0} → Bool → A → Option A
where_true true part = Some part
where_true false part = None

-- `ZERO_TO_MODIFY` and `ONE_TO_MODIFY`
abbrev pub masks_of : Register → Writable
masks_of register = record { zero_to_modify = constant register.word register.zero; one_to_modify = constant register.word register.one }

-- a marker for each field
abbrev pub markers_of : List Field → List (List ℕ)
markers_of fields = map (λ (field : Field). field.marker) fields

-- the calls of the fields that can be read, and of those that can be written
abbrev pub readers_among : List Field → List Reader
readers_among fields = map reader_of (filter (λ (field : Field). field.readable) fields)

abbrev pub writers_among : List Field → List Writer
writers_among fields = map writer_of (filter (λ (field : Field). field.writable) fields)

-- field by field
abbrev pub values_among : List Field → List Values
values_among fields = flat_map values_of fields

-- the module of a register
abbrev pub form_of : Register → RegisterModule
form_of register = record {
  name = register.name;
  word = register.word;
  readable = register.readable;
  writable = where_true register.writable (masks_of register);
  reset = constant register.word register.reset;
  markers = markers_of register.fields;
  readers = where_true register.readable (readers_among register.fields);
  writers = where_true register.writable (writers_among register.fields);
  values = values_among register.fields;
}

-- a field of it takes an index: then its crate is one of version 2
abbrev pub has_arrays : Register → Bool
has_arrays register = list_any (λ (field : Field). is_some field.array) register.fields
