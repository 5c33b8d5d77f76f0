-- How the walk along accessors goes, step by step.
use Rattle.std.specs.Prelude.{ℕ, ◌≡◌, ◌<◌, ◌^◌, nat_lt, List, ◌∷◌, Option, Some, None, IfSome, if◌then◌else◌}
use Rattle.frag_tree.specs.declared.access.Access.{Access}
use Rattle.frag_tree.specs.declared.statement.Call.{Call}
use Rattle.frag_tree.specs.Trees.{BlockTree, ModuleTree}
use Rattle.frag_sem.specs.CallPlaces.{RegisterAt, leads, through}
use Rattle.frag_index.specs.declared.place.Found.{Found}
use Rattle.frag_index.specs.declared.place.Stand.{Stand}
use Rattle.frag_index.specs.declared.site.Site.{Site}
use Rattle.frag_index.specs.Sites.{IsNumbered, inner_tree}

-- a number where it is below 2^64
abbrev pub small : ℕ → Option ℕ
small n = if nat_lt n (2 ^ 64) then Some n else None

abbrev pub found_seen : Found → RegisterAt
found_seen found = record { address = found.address; register = found.register.now }

-- the register, if there is one, starts below 2^64
abbrev pub StartsBelow : Option RegisterAt → Type 0
StartsBelow found = IfSome found (λ register. register.address < 2 ^ 64)

-- A step was made: to a module from which the other steps lead as they did before it.
pub record GoesTo (sites : List Site) (lead : List Call → Option RegisterAt) (at : Stand) : Type 0 where
  pub same : (steps : List Call) → leads steps (inner_tree at.unit.now) at.start ≡ lead steps
  pub numbered : IsNumbered sites at.unit.now

-- A step was made, or the others lead to no register that starts below 2^64.
abbrev pub GoesOn : List Site → Option Stand → (List Call → Option RegisterAt) → Type 0
GoesOn sites (Some at) lead = GoesTo sites lead at
GoesOn sites None lead = (steps : List Call) → StartsBelow (lead steps) → lead steps ≡ None

-- through an accessor of a block
abbrev pub Passes : List Site → Option Stand → BlockTree → ℕ → Call → Access → Type 0
Passes sites found unit start step access = GoesOn sites found (λ steps. through unit start step access (leads steps))

-- through the accessor that a step names
abbrev pub Goes : List Site → Option Stand → ModuleTree → ℕ → Call → Type 0
Goes sites found unit start step = GoesOn sites found (λ steps. leads (step ∷ steps) unit start)
