-- What checking says of the registers and clusters in a block, wherever it stands.
use Rattle.std.specs.Prelude.{ℕ, ◌≡◌, ◌⊎◌, ◌≤◌, Bool, true, false, List, Option, Some, None, ⊤}
use Rattle.checked_tree.specs.Names.{AreSiblings, HasAccessor}
use Rattle.checked_tree.specs.Registers.{RegisterIsChecked}
use Rattle.reg_table.specs.Walk.{props_inside}
use Rattle.svd_model.specs.declared.props.Props.{Props}
use Rattle.svd_model.specs.Keys.{Key}
use Rattle.svd_model.specs.Stating.{is_of, value_of, stated_base, stated_dim}
use Rattle.svd_model.specs.Steps.{Step, cluster, register}
use Rattle.svd_rows.specs.Forest.{Forest, leaf, node}

-- an array has 1 to 65,536 members
abbrev pub IsCount : Option ℕ → Type 0
IsCount None = ⊤
IsCount (Some count) = (1 ≤ count) × (count ≤ 65536)

-- A register or a cluster has an accessor; it states an offset alone, and no base. Nothing else stands in a block.
pub record IsChild (step : Step) (keys : List Key) : Type 0 where
  pub kind : (step.kind ≡ register) ⊎ (step.kind ≡ cluster)
  pub accessor : HasAccessor step.name
  pub count : IsCount (value_of stated_dim keys)
  pub no_base : value_of stated_base keys ≡ None

-- one fact of a register, and another of a cluster
abbrev pub InBlock : Bool → Type 0 → Type 0 → Type 0
InBlock true of_register of_cluster = of_register
InBlock false of_register of_cluster = of_cluster

-- it says so of each of these siblings, which stand in a block in which these properties hold, and of all below them
unfoldable pub AreInBlock : Props → Forest Step Key → Type 0
AreInBlock outer leaf = ⊤
AreInBlock outer (node step keys children others) =
    IsChild step keys
    × InBlock (is_of register step) (RegisterIsChecked (props_inside keys outer) keys children) (AreSiblings children × AreInBlock (props_inside keys outer) children)
    × AreInBlock outer others
