-- The last of the steps that are left goes next.
use Rattle.std.proofs.Common.{◌≡◌, ◌++◌, ◌∷◌, [], List, length, reverse, sym, ap, ap₂, ◌∙◌, append_assoc, append-nil, arith}
use Rattle.std.proofs.lemmas.List.{reverse-append}
use Rattle.pac_base.specs.declared.path.Step.{Step}
use Rattle.dim_expand.proofs.unfolding.turned.Goals as goal

one_more : (path rest : List Step) (step : Step) → (path ++ step ∷ []) ++ reverse rest ≡ path ++ reverse (rest ++ step ∷ [])
one_more path rest step =
    append_assoc path (step ∷ []) (reverse rest) ∙ sym (ap (λ r. path ++ r) (reverse-append rest (step ∷ [])))

none_left : (path rest : List Step) → length rest ≡ 0 → path ≡ path ++ reverse rest
none_left path [] none = sym (append-nil path)
none_left path (step ∷ rest) none = absurd (omega arith)

pub loop-step-init : goal.loop-step-init
loop-step-init c =
    ap₂ (λ path rest. path ++ reverse rest) c.new-path.ensures
    (ap (λ (it : _). it.iter.rest.now) c.into_iter-step-iterator.ensures.into_iter_gives ∙ ap (λ (it : _). it.rest.now) c.rev-step-items.ensures.source ∙ c.iter.ensures.rest ∙ c.as_slice.ensures)

pub loop-step-preserved : goal.loop-step-preserved
loop-step-preserved c =
    ap (λ path. path ++ reverse c.next.new.self.iter.rest.now) (c.in_ok-push.ensures.ok ∙ ap (λ name. c.loop-step.path ++ record { name = name; index = c.in-Some.step.now.index } ∷ []) c.in_ok-copy.ensures)
    ∙ one_more c.loop-step.path c.next.new.self.iter.rest.now c.in-Some.step.now
    ∙ sym (ap (λ rest. c.loop-step.path ++ reverse rest) c.in-Some.ensures.steps)
    ∙ c.loop-step.invariant

pub returns : goal.returns
returns c = none_left c.loop-step.path c.loop-step.step-iterator.iter.rest.now c.in-None.ensures.steps.0 ∙ c.loop-step.invariant
