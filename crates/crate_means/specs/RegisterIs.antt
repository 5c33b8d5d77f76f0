-- When the module of a register stands for a row of the register table (this project's own).
use Rattle.std.specs.Prelude.{◌≡◌, List}
use Rattle.frag_tree.specs.declared.register.RegisterModule.{RegisterModule}
use Rattle.frag_sem.specs.Likeness.{Alike}
use Rattle.frag_sem.specs.TextMeaning.{text_acts}
use Rattle.frag_sem.specs.TextSurface.{register_calls}
use Rattle.svd_model.specs.declared.props.Props.{Props}
use Rattle.svd_model.specs.Keys.{Key}
use Rattle.svd_model.specs.Steps.{Step}
use Rattle.svd_rows.specs.Forest.{Forest}
use Rattle.table_sem.specs.RowActs.{row_acts}
use Rattle.table_sem.specs.TableSurface.{row_calls}
use Rattle.checked_tree.specs.Kinds.{AreFields}
use Rattle.checked_tree.specs.Registers.{row_of}

-- It does with words what the row says, and offers the same calls; fields and enumerated values alone are below the register.
pub record RegisterIs (props : Props) (keys : List Key) (children : Forest Step Key) (unit : RegisterModule) : Type 0 where
  pub acts : Alike (text_acts unit) (row_acts (row_of props keys children))
  pub calls : register_calls unit ≡ row_calls (row_of props keys children)
  pub fields : AreFields children
