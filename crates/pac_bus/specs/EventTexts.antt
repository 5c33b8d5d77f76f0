-- The lines of events. This project's own format: for each access the kind, the address, the width in bits and the word; for what is said its value.
use Rattle.std.specs.Prelude.{ℕ, ◌<◌, ◌/◌, ◌^◌, Bool, true, false, List, ◌++◌, codes, decimal, ⊤}
use Rattle.std.specs.List.{flat_map}
use Rattle.pac_base.specs.Widths.{bits_of}
use Rattle.pac_base.specs.declared.width.Width.{Width}
use Rattle.pac_io.specs.Numerals.{hexadecimal}
use Rattle.frag_tree.specs.declared.event.Event.{Event}
use Rattle.frag_tree.specs.declared.event.Event.TheVariants.{Read, Write, Say}
use Rattle.frag_tree.specs.declared.event.Said.{Said}
use Rattle.frag_tree.specs.declared.event.Said.TheVariants.{Number, Truth}

-- an address, with at least eight digits
abbrev pub address_text : ℕ → List ℕ
address_text address = codes "0x" ++ hexadecimal 8 address

-- a word, with a digit for four of its bits
abbrev pub word_text : Width → ℕ → List ℕ
word_text width word = codes "0x" ++ hexadecimal (bits_of width / 4) word

-- the place and the word of an access
unfoldable pub access_text : ℕ → Width → ℕ → List ℕ
access_text address width value =
    codes " " ++ (address_text address ++ (codes " " ++ (decimal (bits_of width) ++ (codes " " ++ (word_text width value ++ codes "\n")))))

-- a truth
abbrev pub truth_text : Bool → List ℕ
truth_text true = codes "true"
truth_text false = codes "false"

-- what is said
abbrev pub said_text : Said → List ℕ
said_text (Number number) = decimal number
said_text (Truth truth) = truth_text truth

-- the line of an event
abbrev pub event_line : Event → List ℕ
event_line (Read address width value) = codes "read" ++ access_text address width value
event_line (Write address width value) = codes "write" ++ access_text address width value
event_line (Say said) = codes "say " ++ (said_text said ++ codes "\n")

-- the lines of events
abbrev pub event_text : List Event → List ℕ
event_text events = flat_map event_line events

-- the value of an access is one of its width
abbrev pub HoldsWord : Event → Type 0
HoldsWord (Read address width value) = value < 2 ^ bits_of width
HoldsWord (Write address width value) = value < 2 ^ bits_of width
HoldsWord (Say said) = ⊤
