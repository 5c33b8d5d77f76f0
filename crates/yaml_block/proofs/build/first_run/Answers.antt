use Rattle.std.proofs.Common.{◌≡◌, [], sym, ◌∙◌, arith, append-nil}
use Rattle.std.proofs.lemmas.Grind.{common_steps}
use Rattle.std.proofs.lemmas.List.{nil_from_length}
use Rattle.yaml_block.proofs.Building.{built_in-put, built_in-none}
use Rattle.yaml_block.proofs.build.first_run.Goals as goal

pub returns-in-Some : goal.returns-in-Some
returns-in-Some c = built_in-put c.pop.new.self.items c.args.runs.now.items c.in-Some.run' c.in-Some.ensures.items

pub returns-in-None : goal.returns-in-None
returns-in-None c =
    let old : c.args.runs.now.items ≡ [] = nil_from_length c.args.runs.now.items (grind (arith, common_steps, c.in-None.ensures.len, c.in-None.ensures.variant)) in
    let new : c.pop.new.self.items ≡ [] = sym (append-nil c.pop.new.self.items) ∙ sym c.in-None.ensures.items ∙ old in
    (built_in-none c.args.runs.now.items old, built_in-none c.pop.new.self.items new)
