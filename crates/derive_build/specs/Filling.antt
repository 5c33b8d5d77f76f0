-- A table that is filled along an order: what stands at each number that is behind what it needs.
use Rattle.std.specs.Prelude.{◌≡◌, ℕ, Bool, true, false, not, List, [], Option, None, Some, slice_get}
use Rattle.std.specs.List.{list_all}
use Rattle.derive_build.specs.declared.own.Own.{Own}
use Rattle.derive_build.specs.declared.settled.Settled.{Settled}
use Rattle.derive_build.specs.Children.{node_at, children_of, plain_by}
use Rattle.derive_build.specs.Tables.{owns_in, keys_told}
use Rattle.derive_build.specs.Taking.{keys_by, takes}
use Rattle.derive_sources.specs.Graphs.{parts_at}
use Rattle.derived_graph.specs.Graphs.{Child, source_at}
use Rattle.derived_rows.specs.Merging.{taken}
use Rattle.need_order.specs.declared.element.Element.{Element}
use Rattle.need_order.specs.Needs.{among}
use Rattle.pac_base.specs.Names.{is_word_byte}
use Rattle.svd_model.specs.Keys.{Key}

abbrev pub numbers_in : Option Settled → List ℕ
numbers_in None = []
numbers_in (Some settled) = settled.children.items

-- the children of the element of a number, but for their places
unfoldable pub plain_told : List Own → List Settled → ℕ → List Child
plain_told owns table e = children_of owns (numbers_in (slice_get table e))

-- the keys of an element, where its source, if it has one, is settled
abbrev pub keys_made : List Own → List Settled → ℕ → Option ℕ → List Key
keys_made owns table e None = (node_at owns e).keys
keys_made owns table e (Some source) = taken (not (list_all is_word_byte (node_at owns e).name)) (node_at owns e).keys (keys_told table source)

-- its children
abbrev pub children_made : List Own → List Element → List Settled → ℕ → Option ℕ → List Child
children_made owns elements table e None = children_of owns (parts_at elements e)
children_made owns elements table e (Some source) = plain_by (node_at owns e).kind (plain_told owns table source) (children_of owns (parts_at elements e))

-- this is what the element of a number comes to
pub record Comes (owns : List Own) (sources : List (Option ℕ)) (elements : List Element) (table : List Settled) (e : ℕ) (settled : Settled) : Type 0 where
  pub own : slice_get owns e ≡ Some settled.own
  pub keys : keys_by settled.own settled.keys ≡ keys_made owns table e (source_at sources e)
  pub children : children_of owns settled.children.items ≡ children_made owns elements table e (source_at sources e)

-- what stands at a number is what its element comes to
pub record IsMade (owns : List Own) (sources : List (Option ℕ)) (elements : List Element) (table : List Settled) (e : ℕ) : Type 0 where
  pub keys : keys_told table e ≡ keys_made owns table e (source_at sources e)
  pub children : plain_told owns table e ≡ children_made owns elements table e (source_at sources e)

-- these elements are settled, with what they need among them
pub record IsFilled (owns : List Own) (sources : List (Option ℕ)) (elements : List Element) (table : List Settled) (numbers : List ℕ) : Type 0 where
  pub owns_are : owns_in table ≡ owns
  pub made : (e : ℕ) → among e numbers ≡ true → IsMade owns sources elements table e
  pub closed : (e source : ℕ) → among e numbers ≡ true → source_at sources e ≡ Some source → among source numbers ≡ true

abbrev pub takes_of : Option Own → Option Own → Bool
takes_of (Some own) (Some source) = takes own source
takes_of _ _ = false

-- an element has a source of its kind
abbrev pub TakesAt : List Own → List (Option ℕ) → ℕ → Type 0
TakesAt owns sources e = (source : ℕ) → source_at sources e ≡ Some source → takes_of (slice_get owns e) (slice_get owns source) ≡ true

-- and so have all
abbrev pub AllTake : List Own → List (Option ℕ) → Type 0
AllTake owns sources = (e : ℕ) → TakesAt owns sources e
