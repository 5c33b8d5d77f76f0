-- Where the members of registers and clusters stand: each register at a multiple of its width, and all of it below 2^64 (this project's own rule; the width is the least that holds the register's bits).
use Rattle.std.specs.Prelude.{ℕ, ◌≡◌, ◌+◌, ◌%◌, ◌^◌, ◌<◌, ◌≤◌, Bool, true, false, Option, ⊤}
use Rattle.reg_table.specs.Walk.{IsAmong, props_inside}
use Rattle.svd_model.specs.declared.props.Props.{Props}
use Rattle.svd_model.specs.Checking.{bytes_of, width_of}
use Rattle.svd_model.specs.Keys.{Key}
use Rattle.svd_model.specs.Properties.{size_at}
use Rattle.svd_model.specs.Stating.{is_of, value_of, start_of, stated_dim}
use Rattle.svd_model.specs.Steps.{Step, register}
use Rattle.svd_rows.specs.Forest.{Forest, leaf, node}

-- how many bytes a register takes in which these properties hold
abbrev pub bytes_at : Props → ℕ
bytes_at props = bytes_of (width_of (size_at props))

-- a register that starts at this address, and in which these properties hold
pub record RegisterStands (address : ℕ) (props : Props) : Type 0 where
  pub aligned : address % bytes_at props ≡ 0
  pub ends : address + bytes_at props ≤ 2 ^ 64

-- a register starts at this address, or a cluster does, where a fact of what is below it is given
abbrev pub StandsAt : Bool → ℕ → Props → Type 0 → Type 0
StandsAt true address props below = RegisterStands address props
StandsAt false address props below = (address < 2 ^ 64) × below

-- it says so of each member of the siblings, which stand in a block that starts here and in which these properties hold, and of all below them
unfoldable pub ArePlaced : ℕ → Props → Forest Step Key → Type 0
ArePlaced start outer leaf = ⊤
ArePlaced start outer (node step keys children others) =
    ((index : Option ℕ) → IsAmong (value_of stated_dim keys) index → StandsAt (is_of register step) (start + start_of keys index) (props_inside keys outer) (ArePlaced (start + start_of keys index) (props_inside keys outer) children))
    × ArePlaced start outer others
