use Rattle.std.proofs.Common.{◌∙◌, map, ap, refl}
use Rattle.need_order.specs.declared.element.Element.{Element}
use Rattle.derive_sources.specs.Graphs.{parts_at}
use Rattle.derive_sources.proofs.Parts.{none_bare, bare_more, bases_more}
use Rattle.derive_sources.proofs.graph.bare.Goals as goal

pub loop-base-init : goal.loop-base-init
loop-base-init c = record {
  bases = ap (map (λ (element : Element). element.base)) c.new-made.ensures.items;
  parts = λ e. ap (λ made. parts_at made e) c.new-made.ensures.items ∙ none_bare e;
}

pub loop-base-preserved : goal.loop-base-preserved
loop-base-preserved c = record {
  bases = ap (map (λ (element : Element). element.base)) c.in_ok-push.ensures.items ∙ bases_more c.loop-base.made.items _ c.args.bases.now c.loop-base.base-index _ c.loop-base-test.true refl c.loop-base.invariant.bases;
  parts = λ e. ap (λ made. parts_at made e) c.in_ok-push.ensures.items ∙ bare_more c.loop-base.made.items _ c.new.ensures.items c.loop-base.invariant.parts e;
}
