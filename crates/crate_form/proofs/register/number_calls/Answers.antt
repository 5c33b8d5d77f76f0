use Rattle.std.proofs.Common.{ℕ, List, ◌++◌, ◌∷◌, [], ◌∙◌, map, take, sym, ap, ap₂}
use Rattle.std.proofs.lemmas.List.{map_more}
use Rattle.frag_tree.specs.declared.register.NumberCall.{NumberCall}
use Rattle.crate_form.specs.Registers.{number_call}
use Rattle.crate_form.proofs.register.number_calls.Goals as goal

pub loop-call-preserved : goal.loop-call-preserved
loop-call-preserved c =
    let calls = c.args.calls.now in
    let i = c.loop-call.call-index in
    let item = c.call-item.result in
    let named = c.in_ok-known.ensures ∙ c.bytes.ensures.same in
    c.in_ok-push.ensures.ok
    ∙ (ap₂ (λ (made : List NumberCall) (name : List ℕ). made ++ record { name = name; value = item.value } ∷ []) c.loop-call.invariant named
    ∙ (ap (λ call. map number_call (take i calls) ++ number_call call ∷ []) c.call-item.is
    ∙ sym (map_more number_call calls i item c.loop-call-test.true)))
