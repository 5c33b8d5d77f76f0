use Rattle.std.proofs.Common.{ap, sym, ◌∙◌}
use Rattle.svd_keys.specs.Forms.{path_of, parts_of}
use Rattle.svd_keys.specs.Runs.{steps_with}
use Rattle.svd_keys.proofs.Paths.{path-begun, path-taken, path-refused, path-done, path-left, path-smaller}
use Rattle.patch_settings.proofs.path.path.Goals as goal

pub parts-init : goal.parts-init
parts-init c = ap (λ steps. steps_with steps (parts_of 46 c.args.text.now)) c.new-steps.ensures ∙ path-begun c.args.text.now

pub returns-in-None : goal.returns-in-None
returns-in-None c =
    path-refused c.parts.steps c.parts.rest.now c.split_at.result.0.now c.split_at.result.1.now c.part_len.result (path_of c.args.text.now) c.part_len.ensures.count c.split_at.ensures.front c.split_at.ensures.back
    (sym c.in-None.is ∙ c.in_ok-name.ensures)
    c.parts.invariant

pub returns-in-None-behind_mark : goal.returns-in-None-behind_mark
returns-in-None-behind_mark c =
    path-done c.push.new.self c.split_at.result.1.now (path_of c.args.text.now) c.in-None-behind_mark.ensures
    (path-taken c.parts.steps c.push.new.self c.parts.rest.now c.split_at.result.0.now c.split_at.result.1.now c.in-Some.name c.part_len.result (path_of c.args.text.now) c.part_len.ensures.count c.split_at.ensures.front c.split_at.ensures.back
    (sym c.in-Some.is ∙ c.in_ok-name.ensures)
    c.in_ok-push-in-Some.ensures.ok
    c.parts.invariant)

pub parts-smaller : goal.parts-smaller
parts-smaller c = path-smaller c.parts.rest.now c.split_at.result.1.now c.in-Some-behind_mark.next.now c.part_len.result c.split_at.ensures.back c.in-Some-behind_mark.ensures

pub parts-preserved : goal.parts-preserved
parts-preserved c =
    path-left c.push.new.self c.split_at.result.1.now c.in-Some-behind_mark.next.now (path_of c.args.text.now) c.in-Some-behind_mark.ensures
    (path-taken c.parts.steps c.push.new.self c.parts.rest.now c.split_at.result.0.now c.split_at.result.1.now c.in-Some.name c.part_len.result (path_of c.args.text.now) c.part_len.ensures.count c.split_at.ensures.front c.split_at.ensures.back
    (sym c.in-Some.is ∙ c.in_ok-name.ensures)
    c.in_ok-push-in-Some.ensures.ok
    c.parts.invariant)
