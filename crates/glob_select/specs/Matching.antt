-- Which names a pattern matches.
use Rattle.std.specs.Prelude.{ℕ, Bool, true, false, ◌||◌, ◌&&◌, ◌==◌, nat_le, List, [], ◌∷◌, Option, Some, None, if◌then◌else◌}
use Rattle.std.specs.List.{list_any}
use Rattle.std.specs.Option.{option_map_or}
use Rattle.text_scan.specs.Fronts.{stripped_of}
use Rattle.glob_select.specs.declared.member.Member.{Member}
use Rattle.glob_select.specs.declared.member.Member.TheVariants.{Alone, Between}
use Rattle.glob_select.specs.Items.{Item}
use Rattle.glob_select.specs.Items.Item.{Exactly, Mark, Star, AnyByte, OneOf}

-- whether a byte is one of the member's
abbrev pub has : ℕ → Member → Bool
has byte (Alone only) = byte == only
has byte (Between first last) = nat_le first byte && nat_le byte last

abbrev pub is_star : Item → Bool
is_star (Exactly byte) = false
is_star Mark = false
is_star Star = true
is_star AnyByte = false
is_star (OneOf members) = false

-- whether an item that stands for one byte stands for this one
abbrev pub stands_for : Item → ℕ → Bool
stands_for (Exactly only) byte = byte == only
stands_for Mark byte = false
stands_for Star byte = false
stands_for AnyByte byte = true
stands_for (OneOf members) byte = list_any (has byte) members

-- what follows the first byte of a name, where the item stands for that
abbrev pub after_first : Item → List ℕ → Option (List ℕ)
after_first item [] = None
after_first item (byte ∷ rest) = if stands_for item byte then Some rest else None

-- `[%s]`
abbrev pub mark_text : List ℕ
mark_text = 91 ∷ 37 ∷ 115 ∷ 93 ∷ []

-- what follows the bytes at the front of a name for which an item other than a star stands
unfoldable pub taken : Item → List ℕ → Option (List ℕ)
taken (Exactly byte) name = after_first (Exactly byte) name
taken Mark name = stripped_of mark_text name
taken Star name = None
taken AnyByte name = after_first AnyByte name
taken (OneOf members) name = after_first (OneOf members) name

-- whether a test passes on a name or on what follows some bytes at its front
unfoldable pub passes_behind_some : (List ℕ → Bool) → List ℕ → Bool
passes_behind_some test [] = test []
passes_behind_some test (byte ∷ name) = test (byte ∷ name) || passes_behind_some test name

abbrev pub is_empty : List ℕ → Bool
is_empty [] = true
is_empty (byte ∷ name) = false

-- Whether items stand for a whole name: no items for the empty one; a star and more where the more stands for
-- the name behind any bytes at its front; another item and more where the more stands for what the item leaves.
unfoldable pub fits : List Item → List ℕ → Bool
fits [] name = is_empty name
fits (item ∷ items) name = if is_star item then passes_behind_some (fits items) name else option_map_or (fits items) (taken item name) false

-- one alternative stands for the whole name
abbrev pub matches : List (List Item) → List ℕ → Bool
matches alternatives name = list_any (λ items. fits items name) alternatives
