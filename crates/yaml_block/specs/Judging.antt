-- What the lines of a text say before a node is built: the first broken line, else the first line that holds something too deep.
use Rattle.std.specs.Prelude.{◌≡◌, ◌⊎◌, ℕ, List, Option, Some, None}
use Rattle.yaml_block.specs.declared.line.Line.{Line}
use Rattle.yaml_block.specs.declared.lines.Found.{Found}
use Rattle.yaml_block.specs.declared.fault.BlockFault.{BlockFault}
use Rattle.yaml_block.specs.declared.fault.BlockFault.TheVariants.{Syntax, TooDeep, DoubleKey, Memory}
use Rattle.yaml_block.specs.declared.pass.Verdict.TheVariants.{Right, Wrong}
use Rattle.yaml_block.specs.Passing.{start, verdict}

abbrev pub Judged : Found → BlockFault → Type 0
Judged found (Syntax line) = (verdict start found.lines ≡ Wrong line) ⊎ ((deep : Option ℕ) × (verdict start found.lines ≡ Right deep) × (found.fault ≡ Some line))
Judged found (TooDeep line) = (found.fault ≡ None) × (verdict start found.lines ≡ Right (Some line))
Judged found (DoubleKey line) = ⊥
Judged found Memory = Unit {0}

-- the lines fit together and nest no deeper than 64
pub record AreRight (found : Found) (lines : List Line) : Type 0 where
  pub all : lines ≡ found.lines
  pub formed : found.fault ≡ None
  pub shallow : verdict start found.lines ≡ Right None
