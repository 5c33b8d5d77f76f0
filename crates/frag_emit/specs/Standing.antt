-- When a crate text stands for a description: whoever calls it makes the accesses that the description's register table gives (this project's own).
use Rattle.std.specs.Prelude.{ℕ, ◌≡◌, List}
use Rattle.frag_sem.specs.CrateTyping.{CrateFits}
use Rattle.frag_sem.specs.Likeness.{AlikePlaces}
use Rattle.frag_sem.specs.ScriptTyping.{script_fault}
use Rattle.frag_sem.specs.TextMeaning.{text_at, text_meaning, text_presets}
use Rattle.frag_sem.specs.TextSurface.{text_surface}
use Rattle.frag_tree.specs.Trees.{CrateTree}
use Rattle.frag_tree.specs.declared.script.Script.{Script}
use Rattle.reg_table.specs.Registers.{table_of}
use Rattle.svd_model.specs.Keys.{Key}
use Rattle.svd_model.specs.Steps.{Step}
use Rattle.svd_rows.specs.Rows.{Row}
use Rattle.table_sem.specs.TableMeaning.{row_at, table_presets, table_run}
use Rattle.table_sem.specs.TableSurface.{table_surface}

-- The text types. At each place it has the register of the table's row, at the row's address, or neither has one. What it offers to scripts is what the table offers, so each script has the same first fault, or none. And whatever the bus answers are, each script has the same events, and the same presets.
pub record StandsFor (all : List (Row Step Key)) (krate : CrateTree) : Type 0 where
  pub fits : CrateFits krate
  pub places : AlikePlaces (text_at krate) (row_at (table_of all))
  pub surface : text_surface krate ≡ table_surface all
  pub faults : (script : Script) → script_fault (text_surface krate) script ≡ script_fault (table_surface all) script
  pub meaning : (script : Script) (answers : List ℕ) → text_meaning krate script answers ≡ table_run (table_of all) script answers
  pub presets : (script : Script) → text_presets krate script ≡ table_presets (table_of all) script
