-- A device that is made of a table that is filled along the order is the derived one.
use Rattle.std.proofs.Common.{◌≡◌, List, ℕ, None, Some, Option, map, length, slice_get, sym, ◌∙◌, subst}
use Rattle.derive_build.specs.declared.own.Own.{Own}
use Rattle.derive_build.specs.declared.settled.Settled.{Settled}
use Rattle.derive_build.specs.Filling.{IsFilled, AllTake}
use Rattle.derive_build.specs.Nodes.{nodes_of, own_node}
use Rattle.derive_build.specs.Tables.{tree_of, HasKids}
use Rattle.derive_build.specs.Taking.{keys_by}
use Rattle.derive_build.proofs.Graph.{all-take, needs-sources}
use Rattle.derive_build.proofs.Nested.{device-nested}
use Rattle.derive_build.proofs.Paths.{as-many-owns}
use Rattle.derive_build.proofs.Stands.{first-is, first-there, made-is}
use Rattle.derive_order.proofs.Ties.{elements_long}
use Rattle.derive_sources.specs.Graphs.{IsGraph}
use Rattle.derive_sources.specs.Numbers.{AreNumbered, items_of}
use Rattle.derive_sources.proofs.Numbering.{numbered}
use Rattle.derive_sources.proofs.Seats.{as_many}
use Rattle.derived_graph.specs.Graphs.{NeedsSources, TellsSources}
use Rattle.derived_rows.specs.Deriving.{derived_rows}
use Rattle.derived_rows.specs.Faults.{IsFaultless}
use Rattle.need_order.specs.declared.element.Element.{Element}
use Rattle.need_order.specs.Needs.{needs, IsOrder}
use Rattle.svd_model.specs.declared.device.Device.{Device}
use Rattle.svd_model.specs.Facts.{IsDerived, IsDescribed}
use Rattle.svd_model.specs.Stating.{paths_of}
use Rattle.svd_model.specs.Steps.{same_key, same_step}
use Rattle.svd_model.specs.Trees.{device_places, device_rows, device_tree}
use Rattle.svd_model.proofs.Steps.{same_step-finer}
use Rattle.svd_rows.specs.Elements.{IsDistinct}
use Rattle.svd_rows.specs.Ranks.{stated}
use Rattle.svd_rows.specs.Rows.{rows}
use Rattle.svd_rows.proofs.Facts.{IsDistinct-finer}

module _ (device : Device) (sources : List (Option ℕ)) (elements : List Element) (order : List ℕ) (owns : List Own)
    (described : IsDescribed device) (told : TellsSources (device_rows device) sources) (graph : IsGraph (items_of (device_tree device)) sources elements)
    (faultless : IsFaultless (device_rows device)) (ordered : IsOrder (needs elements) (length elements) order) (listed : map own_node owns ≡ nodes_of (device_tree device)) where
  finer : IsDistinct same_step (device_tree device).below
  finer = IsDistinct-finer same_key same_step same_step-finer (device_tree device).below described.distinct

  are-numbered : AreNumbered (rows (device_tree device)) (items_of (device_tree device))
  are-numbered = numbered (device_tree device) finer

  many : length elements ≡ length (paths_of (rows (device_tree device)))
  many = elements_long (rows (device_tree device)) (items_of (device_tree device)) are-numbered sources told elements graph ∙ sym (as_many (rows (device_tree device)) (items_of (device_tree device)) are-numbered)

  -- what settling requires
  pub order-of-owns : IsOrder (needs elements) (length owns) order
  order-of-owns = subst (λ n. IsOrder (needs elements) n order) (many ∙ sym (as-many-owns (device_tree device) finer owns listed)) ordered

  pub sources-needed : NeedsSources sources (needs elements)
  sources-needed = needs-sources (device_tree device) described.distinct described.elements (device-nested device) (items_of (device_tree device)) are-numbered owns listed sources told elements graph

  pub sources-fit : AllTake owns sources
  sources-fit = all-take (device_tree device) described.distinct described.elements (device-nested device) (items_of (device_tree device)) are-numbered owns listed sources told elements graph

  module _ (table : List Settled) (filled : IsFilled owns sources elements table order) where
    order-of-paths : IsOrder (needs elements) (length (paths_of (rows (device_tree device)))) order
    order-of-paths = subst (λ n. IsOrder (needs elements) n order) many ordered

    pub device-there : slice_get table 0 ≡ None → ⊥
    device-there = first-there (device_tree device) described (device-nested device) faultless (items_of (device_tree device)) are-numbered owns listed sources told elements graph table order order-of-paths filled

    -- the first element is the device
    pub device-first : (settled : Settled) → slice_get table 0 ≡ Some settled → ((own_node settled.own).kind ≡ None) × (keys_by settled.own settled.keys ≡ stated (device_places device))
    unfolding device_tree
    device-first = first-is (device_tree device) described (device-nested device) faultless (items_of (device_tree device)) are-numbered owns listed sources told elements graph table order order-of-paths filled

    pub device-made : (settled : Settled) (made : Device) → slice_get table 0 ≡ Some settled → (HasKids table 64 settled → device_tree made ≡ tree_of table 64 settled) → (device_rows made ≡ derived_rows (device_rows device)) × IsDerived made
    device-made settled made = made-is (device_tree device) described (device-nested device) faultless (items_of (device_tree device)) are-numbered owns listed sources told elements graph table order order-of-paths filled settled (device_tree made)
