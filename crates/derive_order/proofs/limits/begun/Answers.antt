use Rattle.std.proofs.Common.{◌∙◌, List, Option, ℕ, map, subst, sym, arith}
use Rattle.std.proofs.lemmas.List.{length-map}
use Rattle.derive_order.proofs.Judgements.{are_begun, gone_by}
use Rattle.derive_order.proofs.Ties.{sources_long}
use Rattle.derive_sources.specs.Entries.{plain}
use Rattle.derive_sources.specs.Graphs.{IsGraph}
use Rattle.need_order.specs.declared.element.Element.{Element}
use Rattle.derive_order.proofs.limits.begun.Goals as goal

pub name_keys-requires : goal.name_keys-requires
name_keys-requires g c = omega (arith, c.requires.some, length-map c.args.entries.now plain)

pub counted_bases-requires : goal.counted_bases-requires
counted_bases-requires g c = record {
  graph = subst (λ (elements : List Element). IsGraph (map plain c.args.entries.now) c.args.sources.now elements) (sym c.as_slice.ensures.value) c.requires.graph;
  long = sources_long g.known.all (map plain c.args.entries.now) c.requires.numbered c.args.sources.now c.requires.found ∙ length-map c.args.entries.now plain;
}

pub all_gone-requires : goal.all_gone-requires
all_gone-requires g c =
    gone_by g.known (map plain c.args.entries.now) c.args.sources.now c.args.arranged.now.elements.items c.args.arranged.now.order.items c.requires c.in_ok-bases.bases.items c.in_ok-bases.ensures c.in_ok-elements.elements.items
    (subst (λ (bases : List (Option ℕ)). IsGraph (map plain c.args.entries.now) bases c.in_ok-elements.elements.items) c.as_slice-2.ensures.value c.in_ok-elements.ensures)
    c.in_ok-keys.keys.items c.in_ok-keys.ensures c.as_slice-3.result.now c.as_slice-4.result.now c.as_slice-3.ensures.value c.as_slice-4.ensures.value

pub returns : goal.returns
returns g c =
    are_begun g.known (map plain c.args.entries.now) c.args.sources.now c.args.arranged.now.elements.items c.args.arranged.now.order.items c.requires c.in_ok-bases.bases.items c.in_ok-bases.ensures c.in_ok-elements.elements.items
    (subst (λ (bases : List (Option ℕ)). IsGraph (map plain c.args.entries.now) bases c.in_ok-elements.elements.items) c.as_slice-2.ensures.value c.in_ok-elements.ensures)
    c.in_ok-keys.keys.items c.in_ok-keys.ensures c.in_ok-gone.gone.items c.as_slice-3.result.now c.as_slice-4.result.now c.as_slice-3.ensures.value c.as_slice-4.ensures.value c.in_ok-gone.ensures
