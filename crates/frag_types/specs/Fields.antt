-- What the methods of a register's fields give and take.
use Rattle.std.specs.Prelude.{ℕ, Bool, ◌||◌, List, codes, find, Option, Some, None, ok_or, option_map, if◌then◌else◌}
use Rattle.std.specs.List.{list_any}
use Rattle.std.specs.Str.{bytes_eq}
use Rattle.frag_sem.specs.PreludeCalls.{bit_tests, bit_writes}
use Rattle.frag_sem.specs.ProxyTypes.{reader_type, readers_of, writer_type, writers_of}
use Rattle.frag_sem.specs.ScriptTyping.{Typed, ◌>>=◌, index_types, no_such_call}
use Rattle.frag_sem.specs.Spots.{read_spot, spot_count, write_spot}
use Rattle.frag_sem.specs.Surfaces.{ValueType, truth}
use Rattle.frag_sem.specs.TextSurface.{read_calls, write_calls}
use Rattle.frag_tree.specs.declared.register.ReadForm.{ReadForm}
use Rattle.frag_tree.specs.declared.register.Reader.{Reader}
use Rattle.frag_tree.specs.declared.register.RegisterModule.{RegisterModule}
use Rattle.frag_tree.specs.declared.register.BitKind.{BitKind}
use Rattle.frag_tree.specs.declared.register.Values.{Values}
use Rattle.frag_tree.specs.declared.register.WriteForm.{WriteForm}
use Rattle.frag_tree.specs.declared.register.Writer.{Writer}
use Rattle.frag_tree.specs.declared.statement.Call.{Call}
use Rattle.frag_types.specs.Proxies.{on_type}

-- what a method of a reader gives
unfoldable pub given : RegisterModule → Reader → List ℕ → Option ValueType
given unit reader method = option_map (λ call. call.gives) (find (λ call. bytes_eq method call.name) (read_calls unit reader reader.form))

-- what a method of a writer takes
unfoldable pub taken : RegisterModule → Writer → List ℕ → Option (Option ValueType)
taken unit writer method = option_map (λ call. call.takes) (find (λ call. bytes_eq method call.name) (write_calls unit writer writer.form))

-- how many members a field has that is read, or written
abbrev pub read_count : ReadForm → Option ℕ
read_count form = spot_count (read_spot form)

abbrev pub write_count : WriteForm → Option ℕ
write_count form = spot_count (write_spot form)

-- what a method of a field gives that can be read
unfoldable pub read_type : RegisterModule → Call → List ℕ → Typed ValueType
read_type unit field method = do
  reader ← ok_or (find (λ reader. bytes_eq field.name reader.name) (readers_of unit)) no_such_call
  _ ← index_types (read_count reader.form) field.index
  ok_or (given unit reader method) no_such_call

-- what a method of a field takes that can be written
unfoldable pub write_type : RegisterModule → Call → List ℕ → Typed (Option ValueType)
write_type unit field method = do
  writer ← ok_or (find (λ writer. bytes_eq field.name writer.name) (writers_of unit)) no_such_call
  _ ← index_types (write_count writer.form) field.index
  ok_or (taken unit writer method) no_such_call

-- the reader of a bit has a call of the name: the prelude's, or one that stands for a value
abbrev pub tests_bit : Reader → List Values → List ℕ → Bool
tests_bit reader values method = bytes_eq method (codes "bit") || (list_any (λ call. bytes_eq method call.name) bit_tests || on_type (reader_type reader) method values)

-- the writer of a bit has a call of the name that says what it writes
abbrev pub writes_bit : BitKind → Writer → List Values → List ℕ → Bool
writes_bit kind writer values method = list_any (λ call. bytes_eq method call.name) (bit_writes kind) || on_type (writer_type writer) method values

-- what is given: the whole value by the prelude's call, a truth by the others
abbrev pub given_as : Bool → ValueType → Bool → Option ValueType
given_as is_whole whole is_test = if is_whole then Some whole else if is_test then Some truth else None

-- what is taken: the whole value by the prelude's call, nothing by the others
abbrev pub taken_as : Bool → ValueType → Bool → Option (Option ValueType)
taken_as is_whole whole is_plain = if is_whole then Some (Some whole) else if is_plain then Some None else None
