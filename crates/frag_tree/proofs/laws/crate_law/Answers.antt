use Rattle.std.proofs.Common.{ap, sym, ◌∙◌}
use Rattle.frag_tree.specs.ModuleProductions.{read_crate}
use Rattle.frag_tree.proofs.CrateProductions.{crate_again, crate_takes, one_crate}
use Rattle.frag_tree.proofs.Fine.{printed_words}
use Rattle.frag_tree.proofs.laws.crate_law.Goals as goal

pub returns-clause-words : goal.returns-clause-words
returns-clause-words c krate valid = printed_words krate valid

pub returns-clause-one : goal.returns-clause-one
returns-clause-one c bytes one other valid valid_other parses parses_other =
    one_crate one other valid valid_other (sym (printed_words one valid) ∙ (sym parses ∙ (parses_other ∙ printed_words other valid_other)))

pub returns-clause-read : goal.returns-clause-read
returns-clause-read c bytes krate valid parses = ap read_crate (parses ∙ printed_words krate valid) ∙ crate_again krate valid

pub returns-clause-parsed : goal.returns-clause-parsed
returns-clause-parsed c bytes krate h =
    let taken = crate_takes _ krate h in (taken.0 ∙ sym (printed_words krate taken.1), taken.1)
