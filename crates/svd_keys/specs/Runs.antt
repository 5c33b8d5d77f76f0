-- What runs over the elements in an element gather, one by one.
use Rattle.std.specs.Prelude.{ℕ, List, [], ◌∷◌, ◌++◌, Bool, ◌&&◌, ◌||◌, ◌==◌, not, map, Option, Some, None, if◌then◌else◌}
use Rattle.std.specs.List.{list_all}
use Rattle.pac_base.specs.declared.path.Step.{Step}
use Rattle.svd_keys.specs.declared.fault.PlacedFault.{PlacedFault}
use Rattle.svd_keys.specs.Forms.{is_name, step_to}
use Rattle.svd_keys.specs.Children.{Tree, has_name, unknown_in_key, double, when}

-- the elements in a key, where it has that name
unfoldable pub within : List ℕ → Tree → List PlacedFault
within name tree = if has_name name tree then unknown_in_key tree else []

-- the elements of that name that stand again among these, where one stood before or not
unfoldable pub doubles_among : List ℕ → Bool → List Tree → List PlacedFault
doubles_among name seen [] = []
doubles_among name seen (tree ∷ trees) = when (seen && has_name name tree) (double tree) ++ doubles_among name (seen || has_name name tree) trees

-- a byte of a part of a path: any but a dot
abbrev pub is_part_byte : ℕ → Bool
is_part_byte byte = not (byte == 46)

-- the text behind its first byte
unfoldable pub behind_mark : List ℕ → Option (List ℕ)
behind_mark [] = None
behind_mark (first ∷ rest) = Some rest

-- the steps so far with those of further parts, where these are names
unfoldable pub steps_with : List Step → List (List ℕ) → Option (List Step)
steps_with steps parts = if list_all is_name parts then Some (steps ++ map step_to parts) else None

-- the first, where there is one
abbrev pub first_of : {X : Type 0} → List X → Option X
first_of [] = None
first_of (first ∷ others) = Some first
