-- What a crate text and a script come to: a crate that fits, and statements, or why they come to none. This project's own order. The
-- bytes at which a crate text stops are no part of it.
use Rattle.std.specs.Prelude.{ℕ, ◌≡◌, ◌≤◌, List, length, true}
use Rattle.frag_parse.specs.Nesting.{crate_within}
use Rattle.frag_parse.specs.Parsing.{DeepCrate, IsCrateOf}
use Rattle.frag_script.specs.ScriptLines.{IsFirstBad, IsTooLong, SpellsScript, lines_of}
use Rattle.frag_sem.specs.CrateTyping.{CrateFits, IsTypingFault, TypingKind}
use Rattle.frag_sem.specs.ScriptTyping.{LineFault}
use Rattle.frag_tree.specs.Trees.{CrateTree}
use Rattle.frag_tree.specs.declared.script.Script.{Script}

-- ---- crate texts

-- why a crate text comes to no crate that fits
pub data Untyped : Type 0 where
  no_crate : Untyped
  modules_too_deep : Untyped
  misfits : TypingKind → Untyped

pub data CrateReading : Type 0 where
  untyped : Untyped → CrateReading
  typed : CrateTree → CrateReading

-- a crate of the text, within the depth
pub record IsTreeOf (bytes : List ℕ) (krate : CrateTree) : Type 0 where
  pub spelled : IsCrateOf bytes krate
  pub within : crate_within 64 krate ≡ true

pub record Misfits (bytes : List ℕ) (kind : TypingKind) : Type 0 where
  pub krate : CrateTree
  pub tree : IsTreeOf bytes krate
  pub fault : IsTypingFault krate kind

pub record FitsAs (bytes : List ℕ) (krate : CrateTree) : Type 0 where
  pub tree : IsTreeOf bytes krate
  pub fits : CrateFits krate

-- The crate text comes to this: no crate has its words, or the one that has them nests too deep, or breaks a typing rule, or fits.
abbrev pub CrateReadAs : List ℕ → CrateReading → Type 0
CrateReadAs bytes (untyped no_crate) = (krate : CrateTree) → ¬ (IsCrateOf bytes krate)
CrateReadAs bytes (untyped modules_too_deep) = DeepCrate bytes
CrateReadAs bytes (untyped (misfits kind)) = Misfits bytes kind
CrateReadAs bytes (typed krate) = FitsAs bytes krate

-- ---- scripts

-- why a script isn't run
pub data Unscripted : Type 0 where
  no_statement : (line : ℕ) → Unscripted
  too_many_statements : (count : ℕ) → Unscripted
  mistyped : LineFault → Unscripted

pub data ScriptReading : Type 0 where
  unread : Unscripted → ScriptReading
  spelled : Script → ScriptReading

pub record IsScriptOf (bytes : List ℕ) (script : Script) : Type 0 where
  pub lines : SpellsScript bytes script
  pub few : length script.lines ≤ 65536

-- The script comes to this: its first line that holds neither nothing nor a statement, or too many statements, or these statements.
abbrev pub ScriptReadAs : List ℕ → ScriptReading → Type 0
ScriptReadAs bytes (unread (no_statement line)) = IsFirstBad line (lines_of bytes)
ScriptReadAs bytes (unread (too_many_statements count)) = IsTooLong count bytes
ScriptReadAs bytes (unread (mistyped fault)) = ⊥
ScriptReadAs bytes (spelled script) = IsScriptOf bytes script
