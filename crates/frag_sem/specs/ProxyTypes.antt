-- The types of the readers and the writers of fields, on which the calls of values stand: `BitReader<MARKER>`, `FieldReader<MARKER, WIDTH>`, `KIND<'_, Spec, MARKER>`, `FieldWriter<'_, Spec, MARKER, WIDTH, BITS>` (svd2rust's register API calls them proxies).
use Rattle.std.specs.Prelude.{ℕ, Bool, false, ◌&&◌, ◌==◌, List, [], ◌++◌, map, flat_map, unwrap_or, if◌then◌else◌}
use Rattle.std.specs.Str.{bytes_eq}
use Rattle.pac_base.specs.declared.width.Width.{Width}
use Rattle.pac_base.specs.Widths.{bits_of}
use Rattle.frag_tree.specs.declared.register.BitKind.{BitKind}
use Rattle.frag_tree.specs.declared.register.NumberCall.{NumberCall}
use Rattle.frag_tree.specs.declared.register.ReadForm.{ReadForm}
use Rattle.frag_tree.specs.declared.register.ReadForm.TheVariants as read
use Rattle.frag_tree.specs.declared.register.Reader.{Reader}
use Rattle.frag_tree.specs.declared.register.RegisterModule.{RegisterModule}
use Rattle.frag_tree.specs.declared.register.TruthCall.{TruthCall}
use Rattle.frag_tree.specs.declared.register.Values.{Values}
use Rattle.frag_tree.specs.declared.register.Values.TheVariants as values
use Rattle.frag_tree.specs.declared.register.WriteForm.{WriteForm}
use Rattle.frag_tree.specs.declared.register.WriteForm.TheVariants as write
use Rattle.frag_tree.specs.declared.register.Writer.{Writer}
use Rattle.frag_tree.specs.Registers.{kind_word}

pub data ProxyType : Type 0 where
  bit_reader : List ℕ → ProxyType
  field_reader : List ℕ → Width → ProxyType
  bit_writer : BitKind → List ℕ → ProxyType
  field_writer : List ℕ → Width → ℕ → ProxyType

abbrev pub same_width : Width → Width → Bool
same_width one other = bits_of one == bits_of other

-- the same word is written for both
abbrev pub same_kind : BitKind → BitKind → Bool
same_kind one other = bytes_eq (kind_word one) (kind_word other)

abbrev pub same_type : ProxyType → ProxyType → Bool
same_type (bit_reader one) (bit_reader other) = bytes_eq one other
same_type (field_reader one width) (field_reader other also) = bytes_eq one other && same_width width also
same_type (bit_writer kind one) (bit_writer also other) = same_kind kind also && bytes_eq one other
same_type (field_writer one width bits) (field_writer other also as_many) = bytes_eq one other && (same_width width also && bits == as_many)
same_type _ _ = false

abbrev pub read_type : List ℕ → ReadForm → ProxyType
read_type marker (read.Bit spot mask) = bit_reader marker
read_type marker (read.Field width spot mask) = field_reader marker width

abbrev pub reader_type : Reader → ProxyType
reader_type reader = read_type reader.marker reader.form

abbrev pub write_type : List ℕ → WriteForm → ProxyType
write_type marker (write.Bit kind spot) = bit_writer kind marker
write_type marker (write.Field width bits spot) = field_writer marker width bits

abbrev pub writer_type : Writer → ProxyType
writer_type writer = write_type writer.marker writer.form

-- the type on which a block of values stands
abbrev pub values_type : Values → ProxyType
values_type (values.BitReading marker calls) = bit_reader marker
values_type (values.FieldReading marker width calls) = field_reader marker width
values_type (values.BitWriting kind marker calls) = bit_writer kind marker
values_type (values.FieldWriting marker width bits calls) = field_writer marker width bits

-- ---- of a register module

-- the calls that read fields, none where there is no `impl R`
abbrev pub readers_of : RegisterModule → List Reader
readers_of unit = unwrap_or unit.readers []

-- the calls that write fields, none where there is no `impl W`
abbrev pub writers_of : RegisterModule → List Writer
writers_of unit = unwrap_or unit.writers []

-- the types of its readers and writers
abbrev pub types_of : RegisterModule → List ProxyType
types_of unit = map reader_type (readers_of unit) ++ map writer_type (writers_of unit)

-- ---- calls of values

abbrev pub truth_calls : Values → List TruthCall
truth_calls (values.BitReading marker calls) = calls
truth_calls (values.FieldReading marker width calls) = []
truth_calls (values.BitWriting kind marker calls) = calls
truth_calls (values.FieldWriting marker width bits calls) = []

abbrev pub number_calls : Values → List NumberCall
number_calls (values.BitReading marker calls) = []
number_calls (values.FieldReading marker width calls) = calls
number_calls (values.BitWriting kind marker calls) = []
number_calls (values.FieldWriting marker width bits calls) = calls

-- the names of the calls of a block
abbrev pub value_names : Values → List (List ℕ)
value_names block = map (λ call. call.name) (truth_calls block) ++ map (λ call. call.name) (number_calls block)

-- the calls for truths that stand on a type, in the order of the text
abbrev pub truths_on : ProxyType → List Values → List TruthCall
truths_on type blocks = flat_map (λ block. if same_type type (values_type block) then truth_calls block else []) blocks

-- the calls for numbers that stand on a type, in the order of the text
abbrev pub numbers_on : ProxyType → List Values → List NumberCall
numbers_on type blocks = flat_map (λ block. if same_type type (values_type block) then number_calls block else []) blocks
