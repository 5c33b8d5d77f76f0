-- What the answers of the reader of crate texts tell.
use Rattle.std.specs.Prelude.{ℕ, ◌≡◌, List, true, false, Result, Ok, Err}
use Rattle.frag_tree.specs.Crates.{Parses}
use Rattle.frag_tree.specs.Trees.{CrateTree, crate_tree}
use Rattle.frag_tree.specs.Validity.{valid_crate}
use Rattle.frag_tree.specs.declared.krate.Crate.{Crate}
use Rattle.frag_parse.specs.Nesting.{crate_within}
use Rattle.frag_parse.specs.declared.fault.ParseFault.{ParseFault}
use Rattle.frag_parse.specs.declared.fault.ParseFault.TheVariants.{Syntax, TooDeep, Memory}

-- the bytes have the words of the printed form of the crate, of which each name is an identifier and each number is below 2^64
pub record IsCrateOf (bytes : List ℕ) (krate : CrateTree) : Type 0 where
  pub parses : Parses bytes krate
  pub valid : valid_crate krate ≡ true

-- a crate of the text whose modules nest deeper than 64
pub record DeepCrate (bytes : List ℕ) : Type 0 where
  pub krate : CrateTree
  pub fits : IsCrateOf bytes krate
  pub deep : crate_within 64 krate ≡ false

-- When a text is refused: no crate fits it, or the one that fits nests too deep.
abbrev pub RefusedFor : ParseFault → List ℕ → Type 0
RefusedFor (Syntax at) bytes = (krate : CrateTree) → ¬ IsCrateOf bytes krate
RefusedFor (TooDeep at) bytes = DeepCrate bytes
RefusedFor Memory bytes = Unit {0}

-- The answer is this crate, unless memory ran out.
abbrev pub IsParsedAs : Result Crate ParseFault → CrateTree → Type 0
IsParsedAs (Ok made) krate = crate_tree made ≡ krate
IsParsedAs (Err (Syntax at)) krate = ⊥
IsParsedAs (Err (TooDeep at)) krate = ⊥
IsParsedAs (Err Memory) krate = Unit {0}
