-- The types of readers and writers by the words that are written for them, as keys of a set.
use Rattle.std.specs.Prelude.{ℕ, ◌≡◌, Bool, false, ◌&&◌, ◌||◌, ◌==◌, List, map}
use Rattle.std.specs.List.{list_any}
use Rattle.std.specs.Str.{bytes_eq}
use Rattle.std.specs.declared.hash.FoldHasher.{FoldHasher}
use Rattle.std.specs.declared.hash.BuildHasherDefault.{BuildHasherDefault}
use Rattle.indexmap.specs.IndexSet.{IndexSet}
use Rattle.pac_base.specs.Widths.{bits_of}
use Rattle.frag_sem.specs.ProxyTypes.{ProxyType, bit_reader, bit_writer, field_reader, field_writer, types_of, value_names, values_type}
use Rattle.frag_tree.specs.declared.register.RegisterModule.{RegisterModule}
use Rattle.frag_tree.specs.declared.register.Values.{Values}
use Rattle.frag_tree.specs.Registers.{kind_word}
use Rattle.frag_rules.specs.declared.proxy.CallKey.{CallKey}
use Rattle.frag_rules.specs.declared.proxy.TypeKey.{TypeKey}
use Rattle.frag_rules.specs.declared.proxy.TypeKey.TheVariants as key

pub data Key : Type 0 where
  reads_bit : List ℕ → Key
  reads_field : List ℕ → ℕ → Key
  writes_bit : List ℕ → List ℕ → Key
  writes_field : List ℕ → ℕ → ℕ → Key

-- the key of a type
abbrev pub key_of : ProxyType → Key
key_of (bit_reader marker) = reads_bit marker
key_of (field_reader marker width) = reads_field marker (bits_of width)
key_of (bit_writer kind marker) = writes_bit (kind_word kind) marker
key_of (field_writer marker width bits) = writes_field marker (bits_of width) bits

abbrev pub key_seen : TypeKey → Key
key_seen (key.BitReader marker) = reads_bit marker.now
key_seen (key.FieldReader marker width) = reads_field marker.now width
key_seen (key.BitWriter kind marker) = writes_bit kind.now marker.now
key_seen (key.FieldWriter marker width bits) = writes_field marker.now width bits

abbrev pub same_key : Key → Key → Bool
same_key (reads_bit one) (reads_bit other) = bytes_eq one other
same_key (reads_field one width) (reads_field other also) = bytes_eq one other && width == also
same_key (writes_bit kind one) (writes_bit also other) = bytes_eq kind also && bytes_eq one other
same_key (writes_field one width bits) (writes_field other also as_many) = bytes_eq one other && (width == also && bits == as_many)
same_key _ _ = false

-- the types of a set
abbrev pub types_seen : IndexSet TypeKey (BuildHasherDefault FoldHasher) → List Key
types_seen seen = map key_seen seen.keys

-- a key is among these new ones where it is among the old ones or these others
abbrev pub HasAlso : List Key → List Key → List Key → Type 0
HasAlso old others new = (wanted : Key) → list_any (same_key wanted) new ≡ (list_any (same_key wanted) old || list_any (same_key wanted) others)

-- a key is among these where it is that of a type of the register
abbrev pub HasTypes : List Key → RegisterModule → Type 0
HasTypes types unit = (wanted : Key) → list_any (same_key wanted) types ≡ list_any (same_key wanted) (map key_of (types_of unit))

-- a call with the key of its type
abbrev pub call_seen : CallKey → Key × List ℕ
call_seen call = (key_seen call.on, call.name.now)

-- a call as the definition has it, with the key of its type
abbrev pub call_key : ProxyType × List ℕ → Key × List ℕ
call_key call = (key_of call.0, call.1)

abbrev pub same_call_key : Key × List ℕ → Key × List ℕ → Bool
same_call_key one other = same_key one.0 other.0 && bytes_eq one.1 other.1

-- the calls of a set
abbrev pub calls_seen : IndexSet CallKey (BuildHasherDefault FoldHasher) → List (Key × List ℕ)
calls_seen seen = map call_seen seen.keys

-- the calls of a block of values, each with the type on which it stands
abbrev pub calls_on : Values → List (ProxyType × List ℕ)
calls_on block = map (λ name. (values_type block, name)) (value_names block)
