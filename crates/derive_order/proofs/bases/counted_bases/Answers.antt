use Rattle.std.proofs.Common.{◌≡◌, ◌∙◌, ℕ, ◌+◌, None, Option, map, length, get_or, ap, ap₂, sym, arith}
use Rattle.std.proofs.lemmas.List.{length-map, length_push}
use Rattle.derive_order.specs.Counting.{counted_base}
use Rattle.derive_order.proofs.Lists.{each_more}
use Rattle.derive_sources.specs.Entries.{plain}
use Rattle.derive_sources.specs.Graphs.{children_among}
use Rattle.derive_sources.specs.Numbers.{Item, item_at}
use Rattle.need_order.specs.declared.element.Element.{Element}
use Rattle.derive_order.proofs.bases.counted_bases.Goals as goal

pub loop-number-preserved : goal.loop-number-preserved
loop-number-preserved c =
    let items = map plain c.args.entries.now in
    let l = c.loop-number in
    let long : length c.args.elements.now ≡ length c.args.entries.now = sym (length-map c.args.elements.now (λ (element : Element). element.base)) ∙ ap (λ xs. length xs) c.requires.graph.bases ∙ c.requires.long in
    let base : ℕ → Option ℕ = λ e. counted_base (item_at items e).kind (children_among e 0 items) (get_or c.args.sources.now e None) in
    let here : c.base_of.result ≡ base l.number =
    c.base_of.ensures
    ∙ ap₂ (λ kind parts. counted_base kind parts c.source_at.result) (ap (λ (item : Item). item.kind) c.entry_at.ensures) (c.parts_of.ensures ∙ c.requires.graph.parts l.number (omega (arith, c.loop-number-test.true, long)))
    ∙ ap (counted_base (item_at items l.number).kind (children_among l.number 0 items)) c.source_at.ensures in
    record {
      long = ap (λ xs. length xs) c.in_ok-push.ensures.items ∙ length_push l.made.items c.base_of.result ∙ ap (λ n. n + 1) l.invariant.long;
      each = λ e below.
          ap (λ xs. get_or xs e None) c.in_ok-push.ensures.items
          ∙ each_more (λ i x. x ≡ base i) l.made.items c.base_of.result None (λ i inside. l.invariant.each i (omega (arith, inside, l.invariant.long))) (here ∙ ap base (sym l.invariant.long)) e (omega (arith, below, l.invariant.long));
    }
