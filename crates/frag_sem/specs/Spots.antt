-- Where a field lies in its word, in bits: at a number, or at `at_bit(offset, step, count, n)`, which is the offset and as many steps as the index n says (this project's own).
use Rattle.std.specs.Prelude.{ℕ, ◌+◌, ◌-◌, ◌*◌, Bool, true, nat_le, Option, Some, None, unwrap_or}
use Rattle.frag_tree.specs.declared.register.ReadForm.{ReadForm}
use Rattle.frag_tree.specs.declared.register.ReadForm.TheVariants as read
use Rattle.frag_tree.specs.declared.register.Spot.{Spot}
use Rattle.frag_tree.specs.declared.register.Spot.TheVariants as spot
use Rattle.frag_tree.specs.declared.register.WriteForm.{WriteForm}
use Rattle.frag_tree.specs.declared.register.WriteForm.TheVariants as write

-- how many members there are; none where the field takes no index
abbrev pub spot_count : Spot → Option ℕ
spot_count (spot.Fixed place) = None
spot_count (spot.Indexed offset step count) = Some count

-- the lowest bit of the member of this index
abbrev pub spot_at : Spot → Option ℕ → ℕ
spot_at (spot.Fixed place) index = place
spot_at (spot.Indexed offset step count) index = offset + unwrap_or index 0 * step

-- the lowest bit of the last member
abbrev pub last_spot : Spot → ℕ
last_spot (spot.Fixed place) = place
last_spot (spot.Indexed offset step count) = offset + step * (count - 1)

abbrev pub spot_has_members : Spot → Bool
spot_has_members (spot.Fixed place) = true
spot_has_members (spot.Indexed offset step count) = nat_le 1 count

-- where a reader takes its field from
abbrev pub read_spot : ReadForm → Spot
read_spot (read.Bit spot mask) = spot
read_spot (read.Field width spot mask) = spot

-- where a writer puts its field
abbrev pub write_spot : WriteForm → Spot
write_spot (write.Bit kind spot) = spot
write_spot (write.Field width bits spot) = spot
