-- The first pair that the search finds among members of registers. That it is the first of all pairs is proved.
use Rattle.std.specs.Prelude.{◌≡◌, ℕ, ◌+◌, ◌/◌, ◌%◌, Bool, ◌&&◌, not, nat_eq, List, [], ◌∷◌, ◌++◌, filter, Option, None, option_map, slice_get}
use Rattle.std.specs.List.{find}
use Rattle.std.specs.Map.{lookup}
pub use Rattle.overlap_sweep.specs.Overlaps.{or_else}
use Rattle.overlap_sweep.specs.declared.spot.Spot.{Spot}
use Rattle.overlap_sweep.specs.declared.search.Slot.{Slot}
use Rattle.pac_base.specs.declared.width.Width.{Width}
use Rattle.svd_model.specs.Checking.{bytes_of}

-- the first that passes the test against this one
abbrev pub first_against : {A : Type 0} → (A → A → Bool) → A → List A → Option A
first_against test x before = find (λ earlier. test earlier x) before

-- the first of these that passes the test against one before it, behind the first such
unfoldable pub first_pair : {A : Type 0} → (A → A → Bool) → List A → List A → Option (A × A)
first_pair test before [] = None
first_pair test before (x ∷ xs) =
    or_else (option_map (λ earlier. (earlier, x)) (first_against test x before)) (first_pair test (before ++ x ∷ []) xs)

-- eight bytes from a multiple of eight on: two members whose address is a multiple of their bytes share one only where
-- they stand in one such block
abbrev pub block_of : Spot → ℕ
block_of spot = spot.start / 8

-- the members with their places, counted from this one on
unfoldable pub numbered_from : ℕ → List Spot → List (ℕ × Spot)
numbered_from n [] = []
numbered_from n (spot ∷ spots) = (n, spot) ∷ numbered_from (n + 1) spots

-- a member is kept in this block
abbrev pub is_kept_in : ℕ → (ℕ × Spot) → Bool
is_kept_in block entry = nat_eq (block_of entry.1) block && not entry.1.grouped

-- the members that are kept in a block, with their places
unfoldable pub kept_in : ℕ → List Spot → List (ℕ × Spot)
kept_in block spots = filter (is_kept_in block) (numbered_from 0 spots)

abbrev pub same_slot : Slot → Slot → Bool
same_slot one other = nat_eq one.block other.block && nat_eq one.rank other.rank

-- each block's members are found at their ranks, counted from 0
unfoldable pub Keeps : List Spot → List (Slot × ℕ) → Type 0
Keeps spots entries =
    (block rank : ℕ) → lookup (same_slot (record { block = block; rank = rank })) entries ≡ option_map (λ entry. entry.0) (slice_get (kept_in block spots) rank)

-- the address of a member is a multiple of its bytes, which are those of a width
unfoldable pub IsEven : Spot → Type 0
IsEven spot = (width : Width) × (spot.bytes ≡ bytes_of width) × (spot.start % bytes_of width ≡ 0)
