-- How the answer to a description shows in what the reader returns.
use Rattle.std.specs.Prelude.{◌≡◌, ℕ, List, Result, Ok, Err}
use Rattle.svd_model.specs.declared.counted.Counted.TheVariants.{Elements}
use Rattle.svd_model.specs.Counting.{told_count}
use Rattle.svd_model.specs.Keys.{Key}
use Rattle.svd_model.specs.Steps.{Step}
use Rattle.svd_rows.specs.Rows.{Row}
use Rattle.svd_keys.specs.declared.fault.Fault.TheVariants as keys
use Rattle.svd_keys.specs.declared.fault.Required.{Required}
use Rattle.svd_keys.specs.Missing.{required_name}
use Rattle.svd_reader.specs.declared.fault.SvdFault.{SvdFault}
use Rattle.svd_reader.specs.declared.fault.SvdFault.TheVariants.{Syntax, TooDeep, UnknownElement, DoubleElement, DoubleName, BadValue, MissingElement, TooMany, Memory}
use Rattle.svd_text.specs.declared.fault.TextFault.{TextFault}
use Rattle.svd_text.specs.declared.fault.TextFault.TheVariants as text
use Rattle.svd_reader.specs.Described.{Answer, HasAnswer, no_text, too_deep, at_fault, too_many, described}

-- the fault tells this answer
abbrev pub Tells : SvdFault → Answer → Type 0
Tells (Syntax at) answer = answer ≡ no_text
Tells (TooDeep span) answer = answer ≡ too_deep (span.start, span.end)
Tells (UnknownElement span) answer = answer ≡ at_fault (keys.UnknownElement span)
Tells (DoubleElement span) answer = answer ≡ at_fault (keys.DoubleElement span)
Tells (DoubleName span) answer = answer ≡ at_fault (keys.DoubleName span)
Tells (BadValue span kind) answer = answer ≡ at_fault (keys.BadValue span kind)
Tells (MissingElement span key) answer = (wanted : Required) × (answer ≡ at_fault (keys.MissingElement span wanted)) × (key ≡ required_name wanted)
Tells (TooMany kind told) answer = (elements : ℕ) × (answer ≡ too_many elements) × (kind ≡ Elements) × (told ≡ told_count elements)
Tells Memory answer = ⊥

-- the bytes have the answer that the fault tells
abbrev pub Refuses : List ℕ → SvdFault → Type 0
Refuses bytes fault = (answer : Answer) × HasAnswer bytes answer × Tells fault answer

-- want of memory tells nothing
abbrev pub OrMemory : SvdFault → Type 0 → Type 0
OrMemory Memory fact = Unit {0}
OrMemory fault fact = fact

-- what was returned is this answer, unless memory ran out
abbrev pub Given : Result (List (Row Step Key)) SvdFault → Answer → Type 0
Given (Ok rows) answer = answer ≡ described rows
Given (Err fault) answer = OrMemory fault (Tells fault answer)

-- a fault of the text, as the reader tells it
abbrev pub Shows : TextFault → SvdFault → Type 0
Shows (text.Syntax at) told = told ≡ Syntax at
Shows (text.TooDeep span) told = told ≡ TooDeep span
Shows text.Memory told = told ≡ Memory
