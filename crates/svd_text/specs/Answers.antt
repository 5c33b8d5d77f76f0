-- What reading bytes answers.
use Rattle.std.specs.Prelude.{◌≡◌, ℕ, List, Some, None, Result, Ok, Err}
use Rattle.svd_text.specs.declared.element.Element.{Element}
use Rattle.svd_text.specs.declared.fault.TextFault.{TextFault}
use Rattle.svd_text.specs.declared.fault.TextFault.TheVariants.{Syntax, TooDeep, Memory}
use Rattle.svd_text.specs.ElementText.{Text, Spells}
use Rattle.svd_text.specs.TextElements.{elements_of}
use Rattle.svd_text.specs.Nesting.{first_too_deep}
use Rattle.svd_text.specs.Tree.{Head, Elements}
use Rattle.svd_text.specs.Views.{element_of}

-- the bytes spell a text that doesn't nest too deep, and this is its device
pub record IsRead (bytes : List ℕ) (device : Head × Elements) : Type 0 where
  pub text : Text
  pub spells : Spells bytes text
  pub shallow : first_too_deep text ≡ None
  pub device_is : elements_of text ≡ device

-- the bytes spell a text in which this is the name in the first tag that nests too deep
pub record IsTooDeep (bytes : List ℕ) (name : ℕ × ℕ) : Type 0 where
  pub text : Text
  pub spells : Spells bytes text
  pub deep : first_too_deep text ≡ Some name

-- the bytes spell no text
abbrev pub SpellNone : List ℕ → Type 0
SpellNone bytes = (text : Text) → Spells bytes text → ⊥

-- `Syntax` says that the bytes spell no text
abbrev pub SyntaxSays : List ℕ → Result Element TextFault → Type 0
SyntaxSays bytes (Err (Syntax at)) = SpellNone bytes
SyntaxSays bytes _ = Unit {0}

-- `TooDeep` says that they spell one that nests too deep, and where
abbrev pub TooDeepSays : List ℕ → Result Element TextFault → Type 0
TooDeepSays bytes (Err (TooDeep span)) = IsTooDeep bytes (span.start, span.end)
TooDeepSays bytes _ = Unit {0}

-- what is answered where the bytes spell this text
abbrev pub Answers : Text → Result Element TextFault → Type 0
Answers text (Ok element) = (first_too_deep text ≡ None) × (elements_of text ≡ element_of element)
Answers text (Err (Syntax at)) = ⊥
Answers text (Err (TooDeep span)) = first_too_deep text ≡ Some (span.start, span.end)
Answers text (Err Memory) = Unit {0}
