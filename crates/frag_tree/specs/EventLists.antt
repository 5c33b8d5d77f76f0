-- What contracts see of the events of a run.
use Rattle.std.specs.Prelude.{ℕ, List}
use Rattle.frag_tree.specs.declared.event.Event.{Event}

-- events in their order, and how many more can be added without memory
pub record EventList : Type 0 where
  pub list : List Event
  pub spare : ℕ
