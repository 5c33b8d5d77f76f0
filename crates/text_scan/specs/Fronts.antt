-- The longest front of a text whose bytes all pass a test, what follows it, and a fixed text at the front.
use Rattle.std.specs.Prelude.{ℕ, Bool, true, false, ◌≡◌, List, [], ◌∷◌, Option, Some, None, if◌then◌else◌, ◌==◌}
use Rattle.std.specs.List.{list_all}

-- each byte passes
abbrev pub Passes : (ℕ → Bool) → List ℕ → Type 0
Passes test text = list_all test text ≡ true

-- the longest front whose bytes all pass
unfoldable pub front_of : (ℕ → Bool) → List ℕ → List ℕ
front_of test [] = []
front_of test (byte ∷ text) = if test byte then byte ∷ front_of test text else []

-- what follows that front
unfoldable pub rest_of : (ℕ → Bool) → List ℕ → List ℕ
rest_of test [] = []
rest_of test (byte ∷ text) = if test byte then rest_of test text else byte ∷ text

-- the text ends, or goes on with a byte that doesn't pass
abbrev pub StopsAt : (ℕ → Bool) → List ℕ → Type 0
StopsAt test [] = Unit {0}
StopsAt test (byte ∷ text) = test byte ≡ false

-- what follows the fixed text, where the text begins with that
unfoldable pub stripped_of : List ℕ → List ℕ → Option (List ℕ)
stripped_of [] text = Some text
stripped_of (byte ∷ fixed) [] = None
stripped_of (byte ∷ fixed) (first ∷ text) = if byte == first then stripped_of fixed text else None
