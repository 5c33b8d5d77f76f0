-- Which fault comes first: that of least place, and of those at one place the first in their list (this project's own rule).
use Rattle.std.specs.Prelude.{List, [], ◌∷◌, Option, Some, None, if◌then◌else◌, nat_le}
use Rattle.svd_keys.specs.declared.fault.PlacedFault.{PlacedFault}

-- the fault of lesser place, and the first of two at one place
unfoldable pub earlier : Option PlacedFault → Option PlacedFault → Option PlacedFault
earlier None second = second
earlier (Some one) None = Some one
earlier (Some one) (Some other) = if nat_le one.at other.at then Some one else Some other

-- the first of all
unfoldable pub least : List PlacedFault → Option PlacedFault
least [] = None
least (fault ∷ faults) = earlier (Some fault) (least faults)

-- the first of these, some of which aren't there
unfoldable pub earliest : List (Option PlacedFault) → Option PlacedFault
earliest [] = None
earliest (fault ∷ faults) = earlier fault (earliest faults)
