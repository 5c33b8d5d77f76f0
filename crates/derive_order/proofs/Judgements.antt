-- Depth and count of derived elements, by the numbers that are told of elements as counting takes them.
use Rattle.std.proofs.Common.{◌≡◌, ℕ, Bool, false, List, [], length, get_or, Option, option_map, sym, ap, ◌∙◌, subst, arith, Vec}
use Rattle.std.specs.List.{find}
use Rattle.std.proofs.lemmas.Option.{get_or_from_slice_get}
use Rattle.derive_order.specs.Arranging.{AreBegun, IsArranged, Known}
use Rattle.derive_order.specs.Counting.{AreBases, AreKeys}
use Rattle.derive_order.specs.Gone.{AreBelow, IsTold, Replaces}
use Rattle.derive_order.specs.Kids.{kid_numbers, TellsCounted}
use Rattle.derive_order.specs.Walking.{HasOrder}
use Rattle.derive_order.proofs.Counted.{begins_long, begins_order, children_law, gone_law, order_of}
use Rattle.derive_order.proofs.Kids.{deep_found, elements_counted}
use Rattle.derive_order.proofs.Ties.{child_later}
use Rattle.derive_order.proofs.Told.{find_agree, flag_is}
use Rattle.derive_sources.specs.Graphs.{children_among, IsGraph}
use Rattle.derive_sources.specs.Numbers.{Item, path_at}
use Rattle.derived_rows.specs.Deriving.{derived_rows}
use Rattle.derived_rows.specs.Faults.{first_deep, step_limit}
use Rattle.need_order.specs.declared.element.Element.{Element}
use Rattle.need_order.specs.Children.{AreChildren, Counts, Flags, is_deep, size, told}
use Rattle.need_order.specs.Needs.{IsOrder, needs}
use Rattle.need_order.specs.Settling.{Follows}
use Rattle.need_order.proofs.Steps.{follows}
use Rattle.svd_model.specs.Counting.{told_count}
use Rattle.svd_model.specs.Facts.{elements_of}

-- slices of what counting takes
pub as_called : {Z : Type 0} (children : ℕ → List ℕ) (items : List Item) (elements elements' : List Element) (gone gone' : List (Vec ℕ Z)) (order order' : List ℕ) → AreBegun children items elements gone order → elements' ≡ elements → gone' ≡ gone → order' ≡ order
    → AreChildren elements' gone' children × IsOrder (needs elements') (length elements') order'
as_called children items elements elements' gone gone' order order' h a b c = (
  subst (λ es. AreChildren es gone' children) (sym a) (subst (λ gs. AreChildren elements gs children) (sym b) h.stand),
  subst (IsOrder (needs elements') (length elements')) (sym c) (subst (λ es. IsOrder (needs es) (length es) order) (sym a) h.ordered),
)

module _ (known : Known) (items : List Item) (sources : List (Option ℕ)) (elements : List Element) (order : List ℕ) (h : IsArranged known items sources elements order) where
  ordered : IsOrder (needs elements) (length items) order
  ordered = order_of known.all items h.numbered sources h.found elements h.graph order h.ordered

  module _ (bases : List (Option ℕ)) (are : AreBases items sources bases) (begins : List Element) (graph : IsGraph items bases begins) (keys : List ℕ) (apart : AreKeys items keys) where
    -- what telling of those that are gone goes by
    pub gone_by : (begins' : List Element) (keys' : List ℕ) → begins' ≡ begins → keys' ≡ keys → Replaces begins' keys' known.children × (AreBelow keys' (length begins') × HasOrder begins')
    gone_by begins' keys' b k =
        let law = gone_law known.all items h.numbered sources h.found elements h.graph order ordered h.no_circle bases are begins graph keys apart known.children begins' keys' h.children b k in
        (law.0, (law.1, subst HasOrder (sym b) (order, begins_order known.all items h.numbered sources h.found elements h.graph order ordered h.no_circle bases are begins graph)))

    pub are_begun : {Z : Type 0} (gone : List (Vec ℕ Z)) (begins' : List Element) (keys' : List ℕ) → begins' ≡ begins → keys' ≡ keys → ((e : ℕ) → IsTold begins' keys' known.children gone e) → AreBegun known.children items begins gone order
    are_begun gone begins' keys' b k told = record {
      stand = children_law known.all items h.numbered sources h.found elements h.graph order ordered h.no_circle bases are begins graph keys apart known.children begins' keys' gone h.children b k told;
      ordered = begins_order known.all items h.numbered sources h.found elements h.graph order ordered h.no_circle bases are begins graph;
      long = begins_long known.all items h.numbered sources h.found elements h.graph order ordered h.no_circle bases are begins graph;
    }

  module _ {Z : Type 0} (begins : List Element) (gone : List (Vec ℕ Z)) (begun : AreBegun known.children items begins gone order) where
    -- by flags, the first peripheral below which a path is too long
    pub deep_told : (flags : List Bool) → Flags known.children (length begins) step_limit flags → option_map (path_at known.all) (find (λ d. get_or flags d false) (children_among 0 0 items)) ≡ first_deep known.all
    deep_told flags are =
        ap (option_map (path_at known.all)) (find_agree (λ d. get_or flags d false) (is_deep known.children step_limit) (children_among 0 0 items)
        (λ d p. flag_is known.children (length begins) step_limit flags are d (omega (arith, begun.long, (child_later known.all items h.numbered 0 d p).1))))
        ∙ ap (λ (children : ℕ → List ℕ). option_map (path_at known.all) (find (is_deep children step_limit) (children_among 0 0 items))) h.children
        ∙ sym (deep_found known.all items h.numbered sources h.found elements h.graph order ordered h.no_circle h.some)

    -- by counts, how many derived elements there are
    pub count_told : (flags : List Bool) (counts : List ℕ) → TellsCounted items flags → Counts flags known.children (length begins) counts → get_or counts 0 0 ≡ told_count (elements_of (derived_rows known.all))
    count_told flags counts counted are =
        get_or_from_slice_get counts 0 (told (size flags known.children (length begins) 0)) 0 (are 0 (omega (arith, begun.long, h.some)))
        ∙ ap (λ n. told (size flags known.children n 0)) begun.long
        ∙ ap (λ (children : ℕ → List ℕ). told (size flags children (length items) 0)) h.children
        ∙ ap told (sym (elements_counted known.all items h.numbered sources h.found elements h.graph order ordered h.no_circle flags counted child_follows h.some))
      where
        child_follows : Follows (kid_numbers known.all items sources) [] order
        child_follows = subst (λ (children : ℕ → List ℕ). Follows children [] order) h.children (follows begins gone known.children (length begins) order begun.stand begun.ordered)
