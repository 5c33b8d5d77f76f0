-- What the readers that count the depth of modules tell.
use Rattle.std.specs.Prelude.{◌≡◌, Bool, true, false, List, [], Some, None, Result, Ok, Err}
use Rattle.frag_words.specs.Words.{Word}
use Rattle.frag_tree.specs.Trees.{BlockHead, CrateTree, crate_tree}
use Rattle.frag_tree.specs.declared.krate.Crate.{Crate}
use Rattle.frag_parse.specs.Nesting.{crate_within}
use Rattle.frag_parse.specs.declared.fault.ParseFault.{ParseFault}
use Rattle.frag_parse.specs.declared.fault.ParseFault.TheVariants as fault
use Rattle.frag_parse.specs.declared.fault.Refusal.{Refusal}
use Rattle.frag_parse.specs.declared.fault.Refusal.TheVariants as refusal
use Rattle.frag_token.specs.declared.fault.Stop.{Stop}
use Rattle.frag_token.specs.declared.fault.Stop.TheVariants as stop
use Rattle.frag_parts.specs.declared.head.Head.{Head}
use Rattle.frag_token.specs.Reading.{Found}

-- a stop of a reader that counts no depth
abbrev pub widened : Stop → Refusal
widened (stop.Unfit left) = refusal.Unfit left
widened stop.Memory = refusal.Memory

-- what is read, if anything is, nests too deep
abbrev pub Deep : {A : Type 0} → (A → Bool) → Found A → Type 0
Deep fits None = Unit {0}
Deep fits (Some found) = fits found.0 ≡ false

-- nothing is read; or what is read nests too deep; or memory ran out
abbrev pub Refuses : {A : Type 0} → (A → Bool) → Refusal → Found A → Type 0
Refuses fits (refusal.Unfit left) read = read ≡ None
Refuses fits (refusal.TooDeep left) read = Deep fits read
Refuses fits refusal.Memory read = Unit {0}

-- What a function returned, seen by `view`, is what reading gives, and doesn't nest too deep.
abbrev pub Fits : {X A : Type 0} → (X → A × List Word) → (A → Bool) → Result X Refusal → Found A → Type 0
Fits view fits (Ok x) read = (read ≡ Some (view x)) × (fits (view x).0 ≡ true)
Fits view fits (Err cause) read = Refuses fits cause read

-- what is read nests deeper than 64
abbrev pub IsDeep : Found CrateTree → Type 0
IsDeep None = ⊥
IsDeep (Some found) = crate_within 64 found.0 ≡ false

-- an answer is what reading comes to, unless memory ran out
abbrev pub Tells : Result Crate ParseFault → Found CrateTree → Type 0
Tells (Ok krate) read = (read ≡ Some (crate_tree krate, [])) × (crate_within 64 (crate_tree krate) ≡ true)
Tells (Err (fault.Syntax at)) read = read ≡ None
Tells (Err (fault.TooDeep at)) read = IsDeep read
Tells (Err fault.Memory) read = Unit {0}
