-- Elements in an order behind what each needs, and as counting takes them.
use Rattle.std.specs.Prelude.{◌≡◌, ℕ, ◌<◌, List, length, map, Option, Vec}
use Rattle.derive_order.specs.declared.arranged.Arranged.{Arranged}
use Rattle.derive_order.specs.declared.limits.Begins.{Begins}
use Rattle.derive_order.specs.Kids.{kid_numbers}
use Rattle.derive_sources.specs.declared.device.Sourced.{Sourced}
use Rattle.derive_sources.specs.declared.entry.Entry.{Entry}
use Rattle.derive_sources.specs.Entries.{plain}
use Rattle.derive_sources.specs.Graphs.{IsGraph}
use Rattle.derive_sources.specs.Missing.{TellsSources}
use Rattle.derive_sources.specs.Numbers.{AreNumbered, Item, Rows}
use Rattle.derived_rows.specs.Dependence.{HasNoCircle}
use Rattle.need_order.specs.declared.element.Element.{Element}
use Rattle.need_order.specs.Children.{AreChildren}
use Rattle.need_order.specs.Needs.{IsOrder, needs}

-- each element has its source as base, and its children as parts
abbrev pub IsGraphOf : Sourced → Arranged → Type 0
IsGraphOf sourced arranged = IsGraph (map plain sourced.entries.items) sourced.sources.items arranged.elements.items

-- the elements are in an order, each behind those on which it depends
abbrev pub IsInOrder : Arranged → Type 0
IsInOrder arranged = IsOrder (needs arranged.elements.items) (length arranged.elements.items) arranged.order.items

-- flat rows, with the numbers of the derived children of each element
pub record Known : Type 0 where
  pub all : Rows
  pub children : ℕ → List ℕ

-- the elements of the rows have their sources and stand in an order; no circle stands
pub record IsArranged (known : Known) (items : List Item) (sources : List (Option ℕ)) (elements : List Element) (order : List ℕ) : Type 0 where
  pub some : 0 < length items
  pub numbered : AreNumbered known.all items
  pub found : TellsSources known.all sources
  pub graph : IsGraph items sources elements
  pub ordered : IsOrder (needs elements) (length elements) order
  pub no_circle : HasNoCircle known.all
  pub children : known.children ≡ kid_numbers known.all items sources

abbrev pub AreArranged : Known → List Entry → List (Option ℕ) → Arranged → Type 0
AreArranged known entries sources arranged = IsArranged known (map plain entries) sources arranged.elements.items arranged.order.items

-- the elements of these items, each with that as which it begins, with its own children and with those that it has no more
pub record AreBegun {Z : Type 0} (children : ℕ → List ℕ) (items : List Item) (elements : List Element) (gone : List (Vec ℕ Z)) (order : List ℕ) : Type 0 where
  pub stand : AreChildren elements gone children
  pub ordered : IsOrder (needs elements) (length elements) order
  pub long : length elements ≡ length items

abbrev pub BeginAs : Known → List Entry → Arranged → Begins → Type 0
BeginAs known entries arranged begins = AreBegun known.children (map plain entries) begins.elements.items begins.gone.items arranged.order.items
