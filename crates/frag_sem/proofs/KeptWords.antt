-- What keeps the words of a register's width.
use Rattle.std.proofs.Common.{ℕ, ◌≡◌, ◌^◌, ◌<◌, true, List, [], ◌∷◌, Option, Some, None, option_map, mod-lt}
use Rattle.std.specs.Prelude.{unwrap_or}
use Rattle.std.specs.List.{list_all}
use Rattle.std.proofs.lemmas.Bool.{ltb-true}
use Rattle.pac_base.specs.Widths.{bits_of}
use Rattle.frag_tree.specs.declared.register.RegisterModule.{RegisterModule}
use Rattle.frag_tree.specs.declared.register.Writable.{Writable}
use Rattle.frag_tree.specs.declared.register.WriteForm.{WriteForm}
use Rattle.frag_tree.specs.declared.register.WriteForm.TheVariants as write
use Rattle.frag_tree.specs.declared.register.Writer.{Writer}
use Rattle.frag_tree.specs.declared.statement.Link.{Link}
use Rattle.frag_tree.specs.declared.statement.Link.TheVariants as link
use Rattle.frag_sem.specs.CrateTyping.{has_bits, masks_of, register_constants_fit}
use Rattle.frag_sem.specs.Laws.{TextKeepsWords}
use Rattle.frag_sem.specs.Likeness.{KeepsWords}
use Rattle.frag_sem.specs.Meaning.{Acts, Bound, argument, chain_written, link_written, number_said, value_of}
use Rattle.frag_sem.specs.Spots.{spot_at}
use Rattle.frag_sem.specs.TextMeaning.{field_written, form_written, one_to_modify, started, text_acts, writer_named, writer_written, zero_to_modify}
use Rattle.frag_sem.proofs.Lists.{all_both, both_true}
use Rattle.frag_sem.proofs.Words.{some_power, start_small, written_small}

-- ---- chains

-- a link of a register that keeps words keeps them
pub link_small : (acts : Acts) → KeepsWords acts → (names : List Bound) (word : ℕ) (one : Link) → word < 2 ^ bits_of acts.width → link_written acts names word one < 2 ^ bits_of acts.width
link_small acts keeps names word (link.Bits value) small = mod-lt (number_said (value_of names value)) (some_power (bits_of acts.width))
link_small acts keeps names word (link.Field field method value) small = keeps.put field.name field.index method (argument names value) word small

-- so does a chain of links
pub chain_small : (acts : Acts) → KeepsWords acts → (names : List Bound) (word : ℕ) (chain : List Link) → word < 2 ^ bits_of acts.width → chain_written acts names word chain < 2 ^ bits_of acts.width
chain_small acts keeps names word [] small = small
chain_small acts keeps names word (first ∷ others) small = chain_small acts keeps names (link_written acts names word first) others (link_small acts keeps names word first small)

-- ---- register modules

module _ (unit : RegisterModule) (constants : register_constants_fit unit ≡ true) where
  parts : (list_all (λ constant. has_bits (bits_of unit.word) constant.value) (masks_of unit.writable) ≡ true) × (list_all (λ constant. has_bits (bits_of unit.word) constant.value) (unit.reset ∷ []) ≡ true)
  parts = all_both (λ constant. has_bits (bits_of unit.word) constant.value) (masks_of unit.writable) (unit.reset ∷ []) constants

  mask_small : (o : Option Writable) → list_all (λ constant. has_bits (bits_of unit.word) constant.value) (masks_of o) ≡ true → unwrap_or (option_map (λ masks. masks.zero_to_modify.value) o) 0 < 2 ^ bits_of unit.word
  mask_small None all = some_power (bits_of unit.word)
  mask_small (Some masks) all = ltb-true masks.zero_to_modify.value (2 ^ bits_of unit.word) (both_true (has_bits (bits_of unit.word) masks.zero_to_modify.value) (list_all (λ constant. has_bits (bits_of unit.word) constant.value) (masks.one_to_modify ∷ [])) all).0

  started_small : (base : ℕ) → base < 2 ^ bits_of unit.word → started unit base < 2 ^ bits_of unit.word
  started_small base small = start_small (bits_of unit.word) base (one_to_modify unit) (zero_to_modify unit) small (mask_small unit.writable parts.0)

  form_small : (writer : Writer) (index : Option ℕ) (method : List ℕ) (value word : ℕ) (form : WriteForm) → word < 2 ^ bits_of unit.word → form_written unit writer index method value word form < 2 ^ bits_of unit.word
  form_small writer index method value word (write.Bit kind spot) small = written_small (bits_of unit.word) word (spot_at spot index) 1 _ small
  form_small writer index method value word (write.Field width bits spot) small = written_small (bits_of unit.word) word (spot_at spot index) bits _ small

  writer_small : (index : Option ℕ) (method : List ℕ) (value word : ℕ) (o : Option Writer) → word < 2 ^ bits_of unit.word → writer_written unit index method value word o < 2 ^ bits_of unit.word
  writer_small index method value word None small = small
  writer_small index method value word (Some writer) small = form_small writer index method value word writer.form small

  -- a register module whose constants fit keeps words
  pub keeps_words : KeepsWords (text_acts unit)
  unfolding field_written
  keeps_words = record {
    reset = ltb-true unit.reset.value (2 ^ bits_of unit.word) (both_true (has_bits (bits_of unit.word) unit.reset.value) true parts.1).0;
    start = started_small;
    put = λ field index method value word small. writer_small index method value word (writer_named field unit) small;
  }

pub text_keeps_words : TextKeepsWords
text_keeps_words unit constants = keeps_words unit constants
