-- What is kept of a member of a register, and when two of them meet. That they meet where they overlap is proved.
use Rattle.std.specs.Prelude.{Bool, false, ◌&&◌, ◌||◌, not, nat_eq, cond, List, [], ◌∷◌, map}
use Rattle.std.specs.List.{list_any}
use Rattle.std.specs.Str.{bytes_eq}
use Rattle.pac_base.specs.declared.path.Step.{Step as Written}
use Rattle.overlap_sweep.specs.declared.spot.Spot.{Spot}
use Rattle.overlap_sweep.specs.declared.spot.Way.{Way}
use Rattle.overlap_sweep.specs.Fields.{share_one}
use Rattle.overlap_sweep.specs.Overlaps.{is_the_name}

-- the two steps lead to one element of their parent
unfoldable pub same_element : Way → Way → Bool
same_element one other = bytes_eq one.name other.name && nat_eq one.number other.number

-- the two ways lead into one peripheral
unfoldable pub same_peripheral : List Way → List Way → Bool
same_peripheral [] other = false
same_peripheral (first ∷ one) [] = false
same_peripheral (first ∷ one) (second ∷ other) = same_element first second

-- a step leads into a cluster that states `alternateCluster`
unfoldable pub some_alternate : List Way → Bool
some_alternate way = list_any (λ step. step.alternate) way

-- the first way leads into a cluster that states `alternateCluster` and into which the other doesn't lead
unfoldable pub parts : List Way → List Way → Bool
parts [] other = false
parts (first ∷ one) [] = some_alternate (first ∷ one)
parts (first ∷ one) (second ∷ other) = cond (same_element first second) (parts one other) (some_alternate (first ∷ one))

abbrev pub may_share : Spot → Spot → Bool
may_share one other =
    (one.grouped || other.grouped) || ((is_the_name one.alternate other.name || is_the_name other.alternate one.name) || (parts one.way other.way || parts other.way one.way))

-- two members share a byte and may not
unfoldable pub meets : Spot → Spot → Bool
meets one other =
    same_peripheral one.way other.way && (share_one one.start one.bytes other.start other.bytes && not (may_share one other))

-- the way as it is told
abbrev pub told_way : List Way → List Written
told_way way = map (λ step. record { name = step.name; index = step.index }) way
