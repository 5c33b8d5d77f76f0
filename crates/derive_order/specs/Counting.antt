-- What counting goes by: from which element each begins, and the keys that tell names apart.
use Rattle.std.specs.Prelude.{◌≡◌, ℕ, ◌<◌, Bool, true, false, nat_eq, List, ◌∷◌, length, get_or, Option, None, Some}
use Rattle.std.specs.Str.{bytes_eq}
use Rattle.std.specs.List.{position_from}
use Rattle.std.specs.Map.{lookup}
use Rattle.derive_order.specs.Gone.{key_of}
use Rattle.derive_sources.specs.Graphs.{children_among}
use Rattle.derive_sources.specs.Numbers.{Item, item_at}
use Rattle.derive_sources.specs.Places.{is_place}
use Rattle.svd_model.specs.Steps.{Kind, field, same_kind}

abbrev pub is_field : Option Kind → Bool
is_field None = false
is_field (Some kind) = same_kind field kind

abbrev pub base_with : Bool → List ℕ → Option ℕ → Option ℕ
base_with true (part ∷ parts) source = None
base_with is_field parts source = source

-- an element begins with what its source has, but for a field with sets of its own
abbrev pub counted_base : Option Kind → List ℕ → Option ℕ → Option ℕ
counted_base kind parts source = base_with (is_field kind) parts source

-- these are the bases of all elements
pub record AreBases (items : List Item) (sources bases : List (Option ℕ)) : Type 0 where
  pub long : length bases ≡ length items
  pub each : (e : ℕ) → e < length items → get_or bases e None ≡ counted_base (item_at items e).kind (children_among e 0 items) (get_or sources e None)

-- keys tell names apart
pub record AreKeys (items : List Item) (keys : List ℕ) : Type 0 where
  pub below : (d : ℕ) → key_of keys d < length items
  pub apart : (d e : ℕ) → d < length items → e < length items → nat_eq (key_of keys d) (key_of keys e) ≡ bytes_eq (item_at items d).name (item_at items e).name

-- the index holds the first item of each name
abbrev pub HoldsFirsts : List Item → List ((ℕ × List ℕ) × ℕ) → Type 0
HoldsFirsts items index = (text : List ℕ) → lookup (is_place 0 text) index ≡ position_from (λ item. bytes_eq text item.name) 0 items
