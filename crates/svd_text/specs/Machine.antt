-- Reading the parts of a text one behind another, with the elements that are open on a stack, whatever is kept of an open element.
use Rattle.std.specs.Prelude.{ℕ, zero, suc, Bool, true, false, List, [], ◌∷◌, length, Option, Some, None, if◌then◌else◌}
use Rattle.std.specs.Str.{bytes_eq}
use Rattle.xml_text.specs.Parts.{XmlTag, XmlPart, starts, ends, says, refers, comments}
use Rattle.xml_text.specs.Reading.{part_at}

-- reading goes on with this, ends since the text is none, or ends at a tag that nests too deep
pub data Outcome (A : Type 0) : Type 0 where
  goes : (value : A) → Outcome A
  breaks : Outcome A
  sinks : (name : ℕ × ℕ) → Outcome A

infixl 10 ◌>>=◌
abbrev pub ◌>>=◌ : {A B : Type 0} → Outcome A → (A → Outcome B) → Outcome B
(goes value) >>= step = step value
breaks >>= step = breaks
(sinks name) >>= step = sinks name

-- the parts of a text: each with the text that it begins and the text behind it; then the end, or what begins with no part
pub data Parts : Type 0 where
  ended : Parts
  broken : Parts
  then_one : (part : XmlPart) → (from behind : List ℕ) → (others : Parts) → Parts

-- a part that was read from the front of a text, or none
abbrev pub one_more : List ℕ → (List ℕ → Parts) → Option (XmlPart × List ℕ) → Parts
one_more text others None = broken
one_more text others (Some read) = then_one read.0 text read.1 (others read.1)

-- the parts of a text, at most so many
unfoldable pub parts_up_to : ℕ → List ℕ → Parts
parts_up_to most [] = ended
parts_up_to zero (byte ∷ text) = broken
parts_up_to (suc most) (byte ∷ text) = one_more (byte ∷ text) (λ behind. parts_up_to most behind) (part_at (byte ∷ text))

-- all of them: no part is empty, so a text has no more than bytes
unfoldable pub parts_of : List ℕ → Parts
parts_of text = parts_up_to (length text) text

-- what is kept of an open element, and how each part changes that
pub record Machine (F : Type 0) : Type 0 where
  pub name : F → List ℕ
  pub says : F → List ℕ → Outcome F
  pub refers : F → ℕ → Outcome F
  -- an element begins, by how many are open round the innermost one: its tag, the text that this begins, and the text behind it
  pub opens : ℕ → F → XmlTag → List ℕ → List ℕ → Outcome F
  -- an element ends in the one round it: the text that its end tag begins, and the text behind it
  pub closes : F → F → List ℕ → List ℕ → F

-- the innermost open element, and those round it, from inside
pub record State (F : Type 0) : Type 0 where
  pub top : F
  pub outer : List F

abbrev pub on_top : {F : Type 0} → List F → Outcome F → Outcome (State F)
on_top outer read = read >>= λ top. goes (record { top = top; outer = outer })

-- an element of which nothing stands inside, or one that is open now
abbrev pub entered : {F : Type 0} → Machine F → State F → Bool → List ℕ → F → State F
entered machine state true behind inner = record { top = machine.closes state.top inner behind behind; outer = state.outer }
entered machine state false behind inner = record { top = inner; outer = state.top ∷ state.outer }

abbrev pub left : {F : Type 0} → Machine F → F → List F → List ℕ → List ℕ → List ℕ → Outcome (State F)
left machine top [] name from behind = breaks
left machine top (parent ∷ outer) name from behind =
    if bytes_eq name (machine.name top) then goes (record { top = machine.closes parent top from behind; outer = outer }) else breaks

abbrev pub step : {F : Type 0} → Machine F → State F → XmlPart → List ℕ → List ℕ → Outcome (State F)
step machine state (starts tag) from behind =
    machine.opens (length state.outer) state.top tag from behind >>= λ inner. goes (entered machine state tag.closes_itself behind inner)
step machine state (ends name) from behind = left machine state.top state.outer name from behind
step machine state (says said) from behind = on_top state.outer (machine.says state.top said)
step machine state (refers scalar) from behind = on_top state.outer (machine.refers state.top scalar)
step machine state comments from behind = goes state

-- all parts
unfoldable pub run : {F : Type 0} → Machine F → Parts → State F → Outcome (State F)
run machine ended state = goes state
run machine broken state = breaks
run machine (then_one part from behind others) state = step machine state part from behind >>= run machine others
