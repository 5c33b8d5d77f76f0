use Rattle.std.proofs.Common.{ap, ap₂, ◌∙◌, ◌&&◌}
use Rattle.std.specs.List.{list_all}
use Rattle.frag_sem.specs.CrateTyping.{is_free}
use Rattle.frag_sem.specs.ProxyTypes.{number_calls, truth_calls}
use Rattle.frag_rules.proofs.Keys.{all-free}
use Rattle.frag_rules.proofs.values.values_free.Goals as goal

pub returns : goal.returns
returns c =
    c.both.ensures
    ∙ (ap₂ (λ a b. a && b)
    (c.truths_free.ensures ∙ ap (list_all (λ call. is_free c.args.version call.name)) c.truths_of.ensures)
    (c.numbers_free.ensures ∙ ap (list_all (λ call. is_free c.args.version call.name)) c.numbers_of.ensures)
    ∙ all-free c.args.version (truth_calls c.args.block.now) (number_calls c.args.block.now))
