-- When a text is refused.
use Rattle.std.specs.Prelude.{ℕ, List}
use Rattle.glob_select.specs.declared.pattern.PatternFault.{PatternFault}
use Rattle.glob_select.specs.declared.pattern.PatternFault.TheVariants.{BadPattern, Memory}
use Rattle.glob_select.specs.Items.{Item}
use Rattle.glob_select.specs.Spelling.{SpellsPattern}

abbrev pub IsPattern : List ℕ → Type 0
IsPattern text = (alternatives : List (List Item)) × SpellsPattern alternatives text

-- a bad pattern is no pattern; memory is asked for a pattern alone
abbrev pub RefusedFor : PatternFault → List ℕ → Type 0
RefusedFor (BadPattern at) text = ¬ IsPattern text
RefusedFor Memory text = IsPattern text
