-- Whether groups parted by `_` have at least one byte each, from left to right.
use Rattle.std.specs.Prelude.{ℕ, List, [], ◌∷◌, Bool, true, false, ◌&&◌, if◌then◌else◌}
use Rattle.frag_script.specs.Tokens.{is_underscore}

-- what is left of a text, in which the first group has a byte already or none yet
unfoldable pub grouped_on : Bool → List ℕ → Bool
grouped_on is_begun [] = is_begun
grouped_on is_begun (byte ∷ rest) = if is_underscore byte then is_begun && grouped_on false rest else grouped_on true rest
