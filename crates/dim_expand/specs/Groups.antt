-- What the keys of an element say of its dimension.
use Rattle.std.specs.Prelude.{◌≡◌, List}
use Rattle.dim_expand.specs.Causes.{stated_index}
use Rattle.svd_model.specs.declared.device.Dim.{Dim}
use Rattle.svd_model.specs.Keys.{Key}
use Rattle.svd_model.specs.Stating.{value_of, stated_dim, stated_increment}

pub record HasDim (keys : List Key) (dim : Dim) : Type 0 where
  pub count : value_of stated_dim keys ≡ dim.count
  pub step : value_of stated_increment keys ≡ dim.step
  pub index : value_of stated_index keys ≡ dim.index
