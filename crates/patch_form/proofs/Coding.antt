-- Tables of words by their codes.
use Rattle.std.proofs.Common.{◌≡◌, ℕ, Bool, true, false, List, [], ◌∷◌, Option, Some, None, option_map, refl, sym, ap, ◌∙◌}
use Rattle.std.specs.Map.{lookup}
use Rattle.std.specs.Str.{bytes_eq}
use Rattle.patch_form.specs.Words.{device_key, device_keys, element_keys, key_kind, key_word, key_words, other_word, word_or_other}
use Rattle.patch_form.specs.declared.word.KeyWord.{KeyWord}
use Rattle.patch_form.specs.declared.word.KeyWord.TheVariants.{Command, Ignored, Unknown, Pattern}
use Rattle.patch_form.specs.declared.word.Word.TheVariants.{Delete, Copy, Modify, Add, Strip, Array}
use Rattle.patch_form.specs.declared.form.Form.TheVariants.{Number, Range, Access, WriteKind, ReadAction, Index, Name, NamePath, DeviceName}
use Rattle.patch_form.specs.declared.form.KeyKind.{KeyKind}
use Rattle.patch_form.specs.declared.form.KeyKind.TheVariants.{Used, Children, PassedOver}
use Rattle.patch_form.specs.Codes.{coded, device_code, kind_at, kind_code, word_at, word_code}

hit : {V : Type 0} (code : V → ℕ) (test : List ℕ → Bool) (entry : List ℕ × V) (named : List (List ℕ × V)) (same : Bool) → test entry.0 ≡ same → lookup test (coded code named) ≡ option_map code (lookup test named) → lookup test (coded code (entry ∷ named)) ≡ option_map code (lookup test (entry ∷ named))
hit code test entry named true is more = rw is refl
hit code test entry named false is more = rw is more

pub lookup-coded : {V : Type 0} (code : V → ℕ) (test : List ℕ → Bool) (named : List (List ℕ × V)) → lookup test (coded code named) ≡ option_map code (lookup test named)
lookup-coded code test [] = refl
lookup-coded code test (entry ∷ named) = hit code test entry named (test entry.0) refl (lookup-coded code test named)

pub no_code : {V : Type 0} (code : V → ℕ) (found : Option V) → None ≡ option_map code found → None ≡ found
no_code code None is = refl
no_code code (Some value) is = absurd cc

kind_of-code : (kind : KeyKind) → kind_at (kind_code kind) ≡ Some kind
kind_of-code (Used Number) = refl
kind_of-code (Used Range) = refl
kind_of-code (Used Access) = refl
kind_of-code (Used WriteKind) = refl
kind_of-code (Used ReadAction) = refl
kind_of-code (Used Index) = refl
kind_of-code (Used Name) = refl
kind_of-code (Used NamePath) = refl
kind_of-code (Used DeviceName) = refl
kind_of-code Children = refl
kind_of-code PassedOver = refl

pub kind_found : (code : ℕ) (found : Option KeyKind) → Some code ≡ option_map kind_code found → kind_at code ≡ found
kind_found code None is = absurd cc
kind_found code (Some kind) is =
    let same : code ≡ kind_code kind = cc in
    ap kind_at same ∙ kind_of-code kind

device_of-code : (kind : Option KeyKind) → kind_at (device_code kind) ≡ kind
device_of-code None = refl
device_of-code (Some kind) = kind_of-code kind

pub device_found : (code : ℕ) (found : Option (Option KeyKind)) → Some code ≡ option_map device_code found → Some (kind_at code) ≡ found
device_found code None is = absurd cc
device_found code (Some kind) is =
    let same : code ≡ device_code kind = cc in
    ap (λ c. Some (kind_at c)) same ∙ ap Some (device_of-code kind)

module _ (key : List ℕ) (found : Option ℕ) where
  pub kind-none : found ≡ lookup (bytes_eq key) (coded kind_code element_keys) → found ≡ None → None ≡ key_kind key
  unfolding key_kind
  kind-none is none = no_code kind_code (lookup (bytes_eq key) element_keys) (sym none ∙ is ∙ lookup-coded kind_code (bytes_eq key) element_keys)

  pub kind-some : (code : ℕ) → found ≡ lookup (bytes_eq key) (coded kind_code element_keys) → found ≡ Some code → kind_at code ≡ key_kind key
  unfolding key_kind
  kind-some code is some = kind_found code (lookup (bytes_eq key) element_keys) (sym some ∙ is ∙ lookup-coded kind_code (bytes_eq key) element_keys)

  pub device-none : found ≡ lookup (bytes_eq key) (coded device_code device_keys) → found ≡ None → None ≡ device_key key
  unfolding device_key
  device-none is none = no_code device_code (lookup (bytes_eq key) device_keys) (sym none ∙ is ∙ lookup-coded device_code (bytes_eq key) device_keys)

  pub device-some : (code : ℕ) → found ≡ lookup (bytes_eq key) (coded device_code device_keys) → found ≡ Some code → Some (kind_at code) ≡ device_key key
  unfolding device_key
  device-some code is some = device_found code (lookup (bytes_eq key) device_keys) (sym some ∙ is ∙ lookup-coded device_code (bytes_eq key) device_keys)

-- no row of the table has a word that is unknown or a pattern
abbrev Listed : KeyWord → Type 0
Listed (Command word) = Unit {0}
Listed Ignored = Unit {0}
Listed Unknown = ⊥
Listed Pattern = ⊥

word_of-code : (word : KeyWord) → Listed word → word_at (word_code word) ≡ word
word_of-code (Command Delete) listed = refl
word_of-code (Command Copy) listed = refl
word_of-code (Command Modify) listed = refl
word_of-code (Command Add) listed = refl
word_of-code (Command Strip) listed = refl
word_of-code (Command Array) listed = refl
word_of-code Ignored listed = refl
word_of-code Unknown listed = absurd listed
word_of-code Pattern listed = absurd listed

abbrev AllListed : List (List ℕ × KeyWord) → Type 0
AllListed [] = Unit {0}
AllListed (entry ∷ named) = Listed entry.1 × AllListed named

abbrev IfListed : Option KeyWord → Type 0
IfListed None = Unit {0}
IfListed (Some word) = Listed word

listed_hit : (test : List ℕ → Bool) (entry : List ℕ × KeyWord) (named : List (List ℕ × KeyWord)) (same : Bool) → test entry.0 ≡ same → Listed entry.1 → IfListed (lookup test named) → IfListed (lookup test (entry ∷ named))
listed_hit test entry named true is here more = rw is here
listed_hit test entry named false is here more = rw is more

listed_found : (test : List ℕ → Bool) (named : List (List ℕ × KeyWord)) → AllListed named → IfListed (lookup test named)
listed_found test [] all = tt
listed_found test (entry ∷ named) all = listed_hit test entry named (test entry.0) refl all.0 (listed_found test named all.1)

all_listed : AllListed key_words
unfolding key_words
all_listed = (tt, (tt, (tt, (tt, (tt, (tt, (tt, tt)))))))

word_found : (key : List ℕ) (code : ℕ) (found : Option KeyWord) → IfListed found → Some code ≡ option_map word_code found → word_at code ≡ word_or_other found key
word_found key code None listed is = absurd cc
word_found key code (Some word) listed is =
    let same : code ≡ word_code word = cc in
    ap word_at same ∙ word_of-code word listed

module _ (key : List ℕ) (found : Option ℕ) where
  pub word-none : found ≡ lookup (bytes_eq key) (coded word_code key_words) → found ≡ None → other_word key ≡ key_word key
  unfolding key_word
  word-none is none = ap (λ f. word_or_other f key) (no_code word_code (lookup (bytes_eq key) key_words) (sym none ∙ is ∙ lookup-coded word_code (bytes_eq key) key_words))

  pub word-some : (code : ℕ) → found ≡ lookup (bytes_eq key) (coded word_code key_words) → found ≡ Some code → word_at code ≡ key_word key
  unfolding key_word
  word-some code is some = word_found key code (lookup (bytes_eq key) key_words) (listed_found (bytes_eq key) key_words all_listed) (sym some ∙ is ∙ lookup-coded word_code (bytes_eq key) key_words)
