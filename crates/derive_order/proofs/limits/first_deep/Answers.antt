use Rattle.std.proofs.Common.{◌∙◌, List, Bool, false, get_or, map, option_map, length, subst, ap}
use Rattle.std.specs.List.{find}
use Rattle.derive_order.proofs.Judgements.{as_called, deep_told}
use Rattle.derive_sources.specs.Entries.{plain}
use Rattle.derive_sources.specs.Graphs.{children_among}
use Rattle.derive_sources.specs.Numbers.{path_at}
use Rattle.derived_rows.specs.Faults.{step_limit}
use Rattle.need_order.specs.declared.element.Element.{Element}
use Rattle.need_order.specs.Children.{Flags}
use Rattle.derive_order.proofs.limits.first_deep.Goals as goal

pub deep-requires : goal.deep-requires
deep-requires g c =
    as_called g.known.children (map plain c.args.entries.now) c.args.begun.now.elements.items c.as_slice.result.now c.args.begun.now.gone.items c.as_slice-2.result.now c.args.arranged.now.order.items c.as_slice-3.result.now c.requires.1 c.as_slice.ensures.value c.as_slice-2.ensures.value c.as_slice-3.ensures.value

pub returns : goal.returns
returns g c =
    ap (option_map (path_at g.known.all)) (c.first_flagged.ensures ∙ ap (λ (flags : List Bool). find (λ d. get_or flags d false) (children_among 0 0 (map plain c.args.entries.now))) c.as_slice-4.ensures.value)
    ∙ deep_told g.known (map plain c.args.entries.now) c.args.sources.now c.args.arranged.now.elements.items c.args.arranged.now.order.items c.requires.0 c.args.begun.now.elements.items c.args.begun.now.gone.items c.requires.1 c.in_ok-flags.flags.items
    (subst (λ (elements : List Element). Flags g.known.children (length elements) step_limit c.in_ok-flags.flags.items) c.as_slice.ensures.value c.in_ok-flags.ensures)
