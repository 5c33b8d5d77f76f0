-- The text of a pattern without its open item, which names what the pattern gathers (this project's own rule).
use Rattle.std.specs.Prelude.{ℕ, Bool, true, false, List, [], ◌∷◌, Option, Some, None, ◌==◌}
use Rattle.std.specs.List.{count_by, flat_map}
use Rattle.glob_select.specs.Items.{Item}
use Rattle.glob_select.specs.Items.Item.{Exactly, Mark, Star, AnyByte, OneOf}
use Rattle.glob_select.specs.Matching.{mark_text}

-- an item that stands for more than one text
abbrev pub is_open : Item → Bool
is_open (Exactly byte) = false
is_open Mark = false
is_open Star = true
is_open AnyByte = true
is_open (OneOf members) = true

-- the text that an item stands for, where it isn't open
abbrev pub plain_text : Item → List ℕ
plain_text (Exactly byte) = byte ∷ []
plain_text Mark = mark_text
plain_text Star = []
plain_text AnyByte = []
plain_text (OneOf members) = []

abbrev pub plain_where : Bool → List Item → Option (List ℕ)
plain_where true items = Some (flat_map plain_text items)
plain_where false items = None

-- the text of the one alternative without its one open item
abbrev pub without_open : List (List Item) → Option (List ℕ)
without_open [] = None
without_open (items ∷ []) = plain_where (count_by is_open items == 1) items
without_open (items ∷ (other ∷ others)) = None
