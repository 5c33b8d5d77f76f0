-- The names of accessors, markers and slots.
use Rattle.std.proofs.Common.{◌≡◌, ◌≢◌, ℕ, Bool, false, ◌⊎◌, inl, inr, List, [], ◌∷◌, refl, sym, subst}
use Rattle.std.specs.Prelude.{IsTrue}
use Rattle.checked_tree.specs.Names.{HasAccessor}
use Rattle.pac_base.specs.Names.{IsArrayName, IsWord}
use Rattle.rust_names.specs.Identifiers.{IsIdentifier}
use Rattle.rust_names.specs.Keywords.{is_keyword}
use Rattle.rust_names.specs.PreludeNames.{is_prelude_name}
use Rattle.svd_values.specs.AccessorNames.{slot_name_of, without_array_mark}
use Rattle.svd_values.specs.Identifiers.{IsSomeWord, marker_name}
use Rattle.svd_values.proofs.CallNames.{marked_off, unmarked}
use Rattle.svd_values.proofs.Identifiers.{accessors_are, markers_are, slots_are}

-- ---- accessors

some-accessor : (name : List ℕ) → IsSomeWord (without_array_mark name) → HasAccessor name
some-accessor name some = let is = accessors_are name some in record { free = is.free; no_gap = is.no_gap; identifier = λ _. is.identifier }

no-accessor : HasAccessor []
unfolding is_keyword is_prelude_name
no-accessor = record { free = refl; no_gap = λ number. refl; identifier = λ some. absurd (some refl) }

-- a word is a name without a mark
pub word-unmarked : (name : List ℕ) → name ≢ [] → IsWord name → without_array_mark name ≡ name
word-unmarked name some word = unmarked name (inl (some, word))

pub word-accessor : (name : List ℕ) → IsWord name → HasAccessor name
word-accessor [] word = no-accessor
word-accessor (byte ∷ bytes) word =
    some-accessor (byte ∷ bytes) (subst IsSomeWord (sym (word-unmarked (byte ∷ bytes) (λ e. cc) word)) (word, λ e. cc))

pub marked-accessor : (name : List ℕ) (dims : Bool) → (IsTrue dims × IsArrayName name) ⊎ ((dims ≡ false) × IsWord name) → HasAccessor name
marked-accessor name dims (inl is) = some-accessor name (subst IsSomeWord (sym (marked_off name is.1)) (is.1.begins, is.1.some))
marked-accessor name dims (inr is) = word-accessor name is.1

-- ---- markers and slots

pub word-marker : (name : List ℕ) → IsWord name → name ≢ [] → IsIdentifier (marker_name (without_array_mark name))
word-marker name word some = subst (λ (n : List ℕ). IsIdentifier (marker_name n)) (sym (word-unmarked name some word)) (markers_are name (word, some))

pub marked-marker : (name : List ℕ) (dims : Bool) → (IsTrue dims × IsArrayName name) ⊎ ((dims ≡ false) × IsWord name) → name ≢ [] → IsIdentifier (marker_name (without_array_mark name))
marked-marker name dims (inl is) some = markers_are (without_array_mark name) (subst IsSomeWord (sym (marked_off name is.1)) (is.1.begins, is.1.some))
marked-marker name dims (inr is) some = word-marker name is.1 some

pub word-slot : (name : List ℕ) → IsWord name → name ≢ [] → IsIdentifier (slot_name_of name)
word-slot name word some = slots_are name (word, some)
