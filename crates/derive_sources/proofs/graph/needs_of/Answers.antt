use Rattle.std.proofs.Common.{◌≡◌, ◌∙◌, map, length, ap, sym, arith}
use Rattle.std.proofs.lemmas.List.{length-map}
use Rattle.derive_sources.specs.Entries.{plain}
use Rattle.derive_sources.specs.Numbers.{Item}
use Rattle.derive_sources.proofs.Parts.{children_none, part_step}
use Rattle.need_order.specs.declared.element.Element.{Element}
use Rattle.derive_sources.proofs.graph.needs_of.Goals as goal

pub loop-number-init : goal.loop-number-init
loop-number-init c = record {
  bases = c.in_ok-elements.ensures.bases;
  parts = λ e inside. c.in_ok-elements.ensures.parts e ∙ sym (children_none e);
}

pub loop-number-preserved : goal.loop-number-preserved
loop-number-preserved c =
    let same : length c.add_part.new.elements.items ≡ length c.loop-number.elements.items = sym (length-map c.add_part.new.elements.items (λ (element : Element). element.base)) ∙ ap (λ l. length l) c.in_ok-add_part.ensures.bases ∙ length-map c.loop-number.elements.items (λ (element : Element). element.base) in
    record {
      bases = c.in_ok-add_part.ensures.bases ∙ c.loop-number.invariant.bases;
      parts = λ e inside.
          part_step c.loop-number.elements.items c.add_part.new.elements.items (map plain c.args.entries.now) c.loop-number.number e c.entry_at.result.parent (omega (arith, c.loop-number-test.true, length-map c.args.entries.now plain)) (ap (λ (item : Item). item.parent) c.entry_at.ensures) (omega (arith, inside, same)) (c.in_ok-add_part.ensures.parts e) (c.loop-number.invariant.parts e (omega (arith, inside, same)));
    }
