use Rattle.std.proofs.Common.{sym, ap, ◌∙◌, option_map, Some}
use Rattle.frag_sem.proofs.Rules.{fits_by_tests, refused_by_tests}
use Rattle.frag_rules.specs.Rules.{rule_kind}
use Rattle.frag_tree.specs.Trees.{crate_tree}
use Rattle.frag_types.specs.Refusals.{crate_kind}
use Rattle.frag_types.proofs.krate.type_crate.Goals as goal

pub returns-in-Ok-None-clause-fits : goal.returns-in-Ok-None-clause-fits
returns-in-Ok-None-clause-fits c = (fits_by_tests (crate_tree c.args.krate)).1 (sym c.in-Ok-None.ensures ∙ ap (option_map (λ broken. rule_kind broken.rule)) c.in-Ok-None.field-0-is)

pub returns-in-Ok-Some-clause-fault : goal.returns-in-Ok-Some-clause-fault
returns-in-Ok-Some-clause-fault c =
    (refused_by_tests (crate_tree c.args.krate) (crate_kind c.kind_of.result)).1
    (sym c.in-Ok-Some.ensures ∙ (ap (option_map (λ broken. rule_kind broken.rule)) c.in-Ok-Some.field-0-is ∙ ap Some (sym c.kind_of.ensures)))

pub new-requires : goal.new-requires
new-requires c = (fits_by_tests (crate_tree c.args.krate)).1 (sym c.in-Ok-None.ensures ∙ ap (option_map (λ broken. rule_kind broken.rule)) c.in-Ok-None.field-0-is)
