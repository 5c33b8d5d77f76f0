-- No bytes of a description have two answers.
use Rattle.std.proofs.Common.{◌≡◌, ℕ, List, refl, sym, ap, ◌∙◌}
use Rattle.svd_text.specs.ElementText.{Text, Spells}
use Rattle.svd_text.proofs.OneText.{one_text}
use Rattle.svd_reader.specs.Described.{Answer, no_text, too_deep, at_fault, too_many, described, HasAnswer, answer_of}

-- the answer of the text that the bytes spell
abbrev IsOfText : List ℕ → Answer → Type 0
IsOfText bytes answer = (text : Text) × Spells bytes text × (answer_of text ≡ answer)

same_text : (bytes : List ℕ) (one other : Answer) → IsOfText bytes one → IsOfText bytes other → one ≡ other
same_text bytes one other a b = sym a.2 ∙ ap answer_of (one_text bytes a.0 b.0 a.1 b.1) ∙ b.2

-- at most one answer
pub one_description_lem : (bytes : List ℕ) (one other : Answer) → HasAnswer bytes one → HasAnswer bytes other → one ≡ other
one_description_lem bytes no_text no_text a b = refl
one_description_lem bytes no_text (too_deep name2) a b = absurd (a b.0 b.1)
one_description_lem bytes no_text (at_fault fault2) a b = absurd (a b.0 b.1)
one_description_lem bytes no_text (too_many elements2) a b = absurd (a b.0 b.1)
one_description_lem bytes no_text (described rows2) a b = absurd (a b.0 b.1)
one_description_lem bytes (too_deep name) no_text a b = absurd (b a.0 a.1)
one_description_lem bytes (too_deep name) (too_deep name2) a b = same_text bytes (too_deep name) (too_deep name2) a b
one_description_lem bytes (too_deep name) (at_fault fault2) a b = same_text bytes (too_deep name) (at_fault fault2) a b
one_description_lem bytes (too_deep name) (too_many elements2) a b = same_text bytes (too_deep name) (too_many elements2) a b
one_description_lem bytes (too_deep name) (described rows2) a b = same_text bytes (too_deep name) (described rows2) a b
one_description_lem bytes (at_fault fault) no_text a b = absurd (b a.0 a.1)
one_description_lem bytes (at_fault fault) (too_deep name2) a b = same_text bytes (at_fault fault) (too_deep name2) a b
one_description_lem bytes (at_fault fault) (at_fault fault2) a b = same_text bytes (at_fault fault) (at_fault fault2) a b
one_description_lem bytes (at_fault fault) (too_many elements2) a b = same_text bytes (at_fault fault) (too_many elements2) a b
one_description_lem bytes (at_fault fault) (described rows2) a b = same_text bytes (at_fault fault) (described rows2) a b
one_description_lem bytes (too_many elements) no_text a b = absurd (b a.0 a.1)
one_description_lem bytes (too_many elements) (too_deep name2) a b = same_text bytes (too_many elements) (too_deep name2) a b
one_description_lem bytes (too_many elements) (at_fault fault2) a b = same_text bytes (too_many elements) (at_fault fault2) a b
one_description_lem bytes (too_many elements) (too_many elements2) a b = same_text bytes (too_many elements) (too_many elements2) a b
one_description_lem bytes (too_many elements) (described rows2) a b = same_text bytes (too_many elements) (described rows2) a b
one_description_lem bytes (described rows) no_text a b = absurd (b a.0 a.1)
one_description_lem bytes (described rows) (too_deep name2) a b = same_text bytes (described rows) (too_deep name2) a b
one_description_lem bytes (described rows) (at_fault fault2) a b = same_text bytes (described rows) (at_fault fault2) a b
one_description_lem bytes (described rows) (too_many elements2) a b = same_text bytes (described rows) (too_many elements2) a b
one_description_lem bytes (described rows) (described rows2) a b = same_text bytes (described rows) (described rows2) a b
