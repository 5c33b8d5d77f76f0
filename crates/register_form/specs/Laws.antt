-- What the laws of this crate say, each as one statement.
use Rattle.std.specs.Prelude.{◌+◌, ◌≤◌, ℕ, ◌≡◌, ◌^◌, ◌<◌, true, ◌&&◌, List, Option, IfSome, is_some}
use Rattle.std.specs.List.{list_all, list_any}
use Rattle.bits_word.specs.Start.{IsStart}
use Rattle.pac_base.specs.Widths.{bits_of}
use Rattle.frag_tree.specs.declared.krate.Version.{Version}
use Rattle.frag_tree.specs.declared.register.RegisterModule.{RegisterModule}
use Rattle.frag_sem.specs.CrateTyping.{constants_of, is_marker, read_fits, register_constants_fit, register_names_differ, register_names_free, spots_have_members, values_fit, write_fits}
use Rattle.frag_sem.specs.PreludeWords.{same_truth}
use Rattle.frag_sem.specs.ProxyTypes.{readers_of, same_type, same_width, types_of, values_type, writers_of}
use Rattle.frag_sem.specs.TextMeaning.{field_given, field_written, started}
use Rattle.register_form.specs.declared.register.Register.{Register}
use Rattle.register_form.specs.Doings.{RegisterIsNamed, RegisterIsSound, field_got, field_put, field_writes, lowest_bit, readable_named, writable_named}
use Rattle.register_form.specs.Forms.{form_of}

-- Each method of each field that can be read gives what stands at the place of the field, or of its member: the number, the truth, or whether it is what the call stands for.
abbrev pub FieldsGive : Type 0
FieldsGive =
    (register : Register) → RegisterIsSound register
    → (name : List ℕ) (index : Option ℕ) (method : List ℕ) (word : ℕ)
    → field_given (form_of register) name index method word ≡ field_got index method word (readable_named name register)

-- Each method of each field that can be written writes its value by the prelude's formula, at the place of the field, or of its member, wherever that lies.
abbrev pub FieldsWrite : Type 0
FieldsWrite =
    (register : Register) → RegisterIsSound register
    → (name : List ℕ) (index : Option ℕ) (method : List ℕ) (value word : ℕ)
    → field_written (form_of register) name index method value word ≡ field_writes (bits_of register.word) index method value word (writable_named name register)

-- the place of the field that can be written, or of its member, lies within the word: so it does where the index fits
abbrev pub LiesWithin : Register → List ℕ → Option ℕ → Type 0
LiesWithin register name index = IfSome (writable_named name register) (λ field. lowest_bit field index + field.bits ≤ bits_of register.word)

-- Each method of each field that can be written puts its value at the place of the field, or of its member, and leaves the other bits.
abbrev pub FieldsPut : Type 0
FieldsPut =
    (register : Register) → RegisterIsSound register
    → (name : List ℕ) (index : Option ℕ) (method : List ℕ) (value word : ℕ)
    → word < 2 ^ bits_of register.word
    → LiesWithin register name index
    → field_written (form_of register) name index method value word ≡ field_put index method value word (writable_named name register)

-- The word from which a write starts has each bit as the masks say.
abbrev pub StartsAre : Type 0
StartsAre = (register : Register) → RegisterIsSound register → (word : ℕ) → IsStart (bits_of register.word) word register.one register.zero (started (form_of register) word)

-- ---- rules of typing

-- The rules of typing that speak of one register module hold of it.
pub record KeepsRules (version : Version) (unit : RegisterModule) : Type 0 where
  pub names : register_names_differ unit ≡ true
  pub counts : spots_have_members unit ≡ true
  pub constants_have_type : list_all (λ constant. same_width constant.width unit.word) (constants_of unit) ≡ true
  pub constants_fit : register_constants_fit unit ≡ true
  pub reader_markers : list_all (λ reader. is_marker unit reader.marker) (readers_of unit) ≡ true
  pub reader_places : list_all (λ reader. read_fits (bits_of unit.word) reader.form) (readers_of unit) ≡ true
  pub writer_markers : list_all (λ writer. is_marker unit writer.marker) (writers_of unit) ≡ true
  pub writer_places : list_all (λ writer. write_fits (bits_of unit.word) writer.form) (writers_of unit) ≡ true
  pub value_types : list_all (λ block. list_any (same_type (values_type block)) (types_of unit)) unit.values ≡ true
  pub value_literals : list_all values_fit unit.values ≡ true
  pub free : register_names_free version unit ≡ true
  pub directions : (same_truth unit.readable (is_some unit.readers) && same_truth (is_some unit.writable) (is_some unit.writers)) ≡ true

abbrev pub RulesHold : Type 0
RulesHold = (version : Version) (register : Register) → RegisterIsSound register → RegisterIsNamed version register → KeepsRules version (form_of register)
