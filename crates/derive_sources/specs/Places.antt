-- Names below elements, as keys of an index.
use Rattle.std.specs.Prelude.{◌≡◌, ℕ, Bool, ◌&&◌, nat_eq, List, map, Option, Some, if◌then◌else◌}
use Rattle.std.specs.Map.{lookup}
use Rattle.std.specs.Str.{bytes_eq}
use Rattle.std.specs.declared.hash.FoldHasher.{FoldHasher}
use Rattle.std.specs.declared.hash.BuildHasherDefault.{BuildHasherDefault}
use Rattle.indexmap.specs.IndexMap.{IndexMap}
use Rattle.derive_sources.specs.declared.index.Place.{Place}
use Rattle.derive_sources.specs.Numbers.{Item, is_number, is_name, first_owned}

-- a place as the number of its element and the name
abbrev pub place_of : Place → (ℕ × List ℕ)
place_of place = (place.owner, place.name.now)

abbrev pub is_place : ℕ → List ℕ → (ℕ × List ℕ) → Bool
is_place owner name place = nat_eq owner place.0 && bytes_eq name place.1

abbrev pub places_in : IndexMap Place ℕ (BuildHasherDefault FoldHasher) → List ((ℕ × List ℕ) × ℕ)
places_in held = map (λ entry. (place_of entry.0, entry.1)) held.entries

-- the index holds, for each element and each name, the first item that is sought there
abbrev pub Holds : List Item → Bool → List ((ℕ × List ℕ) × ℕ) → Type 0
Holds items sets index = (owner : ℕ) (text : List ℕ) → lookup (is_place owner text) index ≡ first_owned items sets owner text

-- a number was put below an element, if there is one, under a name, if there is one
abbrev pub Puts : List ((ℕ × List ℕ) × ℕ) → List ((ℕ × List ℕ) × ℕ) → Option ℕ → List ℕ → ℕ → Type 0
Puts old new below name number =
    (owner : ℕ) (text : List ℕ) → lookup (is_place owner text) new ≡ (if is_number owner below && is_name text name then Some number else lookup (is_place owner text) old)
