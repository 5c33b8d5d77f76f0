-- What a block text is: its node, or the first fault.
use Rattle.std.specs.Prelude.{◌≡◌, ◌<◌, ℕ, List, take, Option, Some, None, true, Result, Ok, Err}
use Rattle.yaml_block.specs.declared.lines.Found.{Found}
use Rattle.yaml_block.specs.declared.fault.BlockFault.{BlockFault}
use Rattle.yaml_block.specs.declared.fault.BlockFault.TheVariants.{Syntax, TooDeep, DoubleKey, Memory}
use Rattle.yaml_block.specs.Lines.{found_in, lines_from, raw_lines, unmarked}
use Rattle.yaml_block.specs.Meanings.{Blocks}
use Rattle.yaml_block.specs.Nesting.{first, deep_tree, doubles_in}
use Rattle.yaml_block.specs.Trees.{Tree}

-- each line has the form of a line, and together they spell the node
pub record Fits (found : Found) (tree : Tree) : Type 0 where
  pub formed : found.fault ≡ None
  pub blocks : Blocks found.lines tree

-- the first lines of a text, so many
abbrev pub up_to : ℕ → List ℕ → Found
up_to count bytes = lines_from true 1 (take count (raw_lines (unmarked bytes)))

-- no node fits the lines up to this one, and it is the first such
pub record IsBroken (bytes : List ℕ) (line : ℕ) : Type 0 where
  pub none : (tree : Tree) → Fits (up_to line bytes) tree → ⊥
  pub before : (earlier : ℕ) → earlier < line → (tree : Tree) × Fits (up_to earlier bytes) tree

-- the first line that holds a mapping or list that nests deeper than 64; the file's mapping stands in no other
abbrev pub first_deep : Tree → Option ℕ
first_deep tree = first (deep_tree 0 0 tree)

-- the line of the first key that equals an earlier one of its mapping
abbrev pub first_double : Tree → Option ℕ
first_double tree = first (doubles_in tree)

-- the bytes spell this node, which nests no deeper than 64 and in whose mappings no key comes twice
pub record IsBlock (bytes : List ℕ) (tree : Tree) : Type 0 where
  pub fits : Fits (found_in bytes) tree
  pub shallow : first_deep tree ≡ None
  pub unique : first_double tree ≡ None

-- the bytes spell a node that nests deeper than 64 first at this line
pub record IsTooDeep (bytes : List ℕ) (line : ℕ) : Type 0 where
  pub tree : Tree
  pub fits : Fits (found_in bytes) tree
  pub deep : first_deep tree ≡ Some line

-- the bytes spell a node that doesn't nest deeper than 64, in which a key comes twice first at this line
pub record IsDouble (bytes : List ℕ) (line : ℕ) : Type 0 where
  pub tree : Tree
  pub fits : Fits (found_in bytes) tree
  pub shallow : first_deep tree ≡ None
  pub double : first_double tree ≡ Some line

-- when each fault comes
abbrev pub IsRefused : List ℕ → BlockFault → Type 0
IsRefused bytes (Syntax line) = IsBroken bytes line
IsRefused bytes (TooDeep line) = IsTooDeep bytes line
IsRefused bytes (DoubleKey line) = IsDouble bytes line
IsRefused bytes Memory = Unit {0}

-- what bytes are found to be: a node, or refused so; of want of memory nothing is said
abbrev pub IsFound : List ℕ → Result Tree BlockFault → Type 0
IsFound bytes (Ok tree) = IsBlock bytes tree
IsFound bytes (Err Memory) = ⊥
IsFound bytes (Err fault) = IsRefused bytes fault
