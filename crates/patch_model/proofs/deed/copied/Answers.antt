use Rattle.std.proofs.Common.{◌+◌, [], ◌∷◌, drop, sym, ap, ◌∙◌}
use Rattle.std.proofs.lemmas.List.{drop_all}
use Rattle.yaml_block.proofs.Places.{from_place}
use Rattle.patch_model.specs.Acts.{PatternItems}
use Rattle.patch_form.proofs.FromPlace.{made-more, made-done}
use Rattle.patch_model.proofs.deed.copied.Goals as goal

pub loop-pattern-preserved : goal.loop-pattern-preserved
loop-pattern-preserved c =
    let all = c.as_slice-pattern-items.result.now in
    let i = c.loop-pattern.pattern-index in
    made-more c.loop-pattern.copy c.push.new.self (c.in_ok-copy.field-0 ∷ []) (drop i all) (drop (i + 1) all) all c.in_ok-push.ensures.ok
    (from_place all i c.pattern-item.result c.loop-pattern-test.true c.pattern-item.is ∙ ap (λ (one : PatternItems). one ∷ drop (i + 1) all) (sym c.in_ok-copy.ensures))
    c.loop-pattern.invariant

pub returns : goal.returns
returns c =
    let all = c.as_slice-pattern-items.result.now in
    made-done c.loop-pattern.copy (drop c.loop-pattern.pattern-index all) all (drop_all c.loop-pattern.pattern-index all c.loop-pattern-test.false) c.loop-pattern.invariant ∙ c.as_slice-pattern-items.ensures
