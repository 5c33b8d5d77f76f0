use Rattle.std.proofs.Common.{◌∙◌, ℕ, List, Bool, get_or, map, length, subst, ap}
use Rattle.derive_order.proofs.Judgements.{as_called, count_told}
use Rattle.derive_sources.specs.Entries.{plain}
use Rattle.need_order.specs.declared.element.Element.{Element}
use Rattle.need_order.specs.Children.{Counts}
use Rattle.derive_order.proofs.limits.amount.Goals as goal

pub counted-requires : goal.counted-requires
counted-requires g c =
    as_called g.known.children (map plain c.args.entries.now) c.args.begun.now.elements.items c.as_slice.result.now c.args.begun.now.gone.items c.as_slice-2.result.now c.args.arranged.now.order.items c.as_slice-3.result.now c.requires.1 c.as_slice.ensures.value c.as_slice-2.ensures.value c.as_slice-3.ensures.value

pub returns : goal.returns
returns g c =
    c.count_of.ensures
    ∙ ap (λ (counts : List ℕ). get_or counts 0 0) c.as_slice-5.ensures.value
    ∙ count_told g.known (map plain c.args.entries.now) c.args.sources.now c.args.arranged.now.elements.items c.args.arranged.now.order.items c.requires.0 c.args.begun.now.elements.items c.args.begun.now.gone.items c.requires.1 c.in_ok-flags.flags.items c.in_ok-counts.counts.items c.in_ok-flags.ensures
    (subst (λ (flags : List Bool). Counts flags g.known.children (length c.args.begun.now.elements.items) c.in_ok-counts.counts.items) c.as_slice-4.ensures.value
    (subst (λ (elements : List Element). Counts c.as_slice-4.result.now g.known.children (length elements) c.in_ok-counts.counts.items) c.as_slice.ensures.value c.in_ok-counts.ensures))
