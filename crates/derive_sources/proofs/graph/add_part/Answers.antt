use Rattle.std.proofs.Common.{◌∙◌, ap, sym, Some, nat_lt, ◌&&◌, cond, ◌++◌, ◌∷◌, [], length}
use Rattle.std.proofs.Math.Seq.{map-set_same}
use Rattle.std.proofs.lemmas.Option.{slice_get-get_or}
use Rattle.derive_sources.specs.Graphs.{parts_at}
use Rattle.derive_sources.specs.Numbers.{is_number}
use Rattle.derive_sources.proofs.Parts.{parts_more}
use Rattle.need_order.specs.declared.element.Element.{Element}
use Rattle.derive_sources.proofs.graph.add_part.Goals as goal

pub returns-in_ok-push-in-Some-get_mut-clause-bases : goal.returns-in_ok-push-in-Some-get_mut-clause-bases
returns-in_ok-push-in-Some-get_mut-clause-bases c =
    map-set_same (λ (element : Element). element.base) c.args.elements.now.items c.in-Some.parent _ c.in-Some-get_mut.element.now (ap (λ (element : Element). element.base) c.in-Some-get_mut.ensures.value)

pub returns-in_ok-push-in-Some-get_mut-clause-parts : goal.returns-in_ok-push-in-Some-get_mut-clause-parts
returns-in_ok-push-in-Some-get_mut-clause-parts c = λ e.
    parts_more c.args.elements.now.items c.in-Some.parent c.args.number c.in-Some-get_mut.element.now _
    (slice_get-get_or c.args.elements.now.items c.in-Some.parent c.in-Some-get_mut.element.now c.in-Some-get_mut.ensures.item.3.0 ∙ ap Some (sym c.in-Some-get_mut.ensures.value))
    c.in_ok-push-in-Some-get_mut.ensures.items e
    ∙ sym (ap (λ parent. cond (is_number e parent && nat_lt e (length c.args.elements.now.items)) (parts_at c.args.elements.now.items e ++ c.args.number ∷ []) (parts_at c.args.elements.now.items e)) c.in-Some.is)
