-- Places in words by division (CMSIS-SVD 1.3: the bits of a field are `width` from the bit `offset` on).
use Rattle.std.specs.Prelude.{ℕ, ◌+◌, ◌-◌, ◌*◌, ◌/◌, ◌%◌, ◌^◌}

-- what stands at a place
unfoldable pub get : ℕ → ℕ → ℕ → ℕ
get word offset width = word / 2 ^ offset % 2 ^ width

-- the word with a value's lowest bits at a place, and its other bits as before
unfoldable pub put : ℕ → ℕ → ℕ → ℕ → ℕ
put word offset width value = word - get word offset width * 2 ^ offset + value % 2 ^ width * 2 ^ offset

-- the ones of a place
unfoldable pub mask : ℕ → ℕ → ℕ
mask offset width = (2 ^ width - 1) * 2 ^ offset
