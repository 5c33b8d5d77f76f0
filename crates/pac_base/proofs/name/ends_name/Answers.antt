use Rattle.std.proofs.Common.{◌≡◌, false, [], rules, ◌∙◌, ap}
use Rattle.std.specs.Str.{bytes_eq}
use Rattle.std.specs.List.{list_all}
use Rattle.pac_base.specs.Names.{is_word_byte, array_mark}
use Rattle.pac_base.proofs.NameForms.{at_list-ends}
use Rattle.pac_base.proofs.name.ends_name.Goals as goal

pub returns-in-Some : goal.returns-in-Some
returns-in-Some c =
    let empty : bytes_eq c.args.rest.now [] ≡ false = search rules in
    let array : bytes_eq c.args.rest.now array_mark ≡ false = search rules in
    c.is_word.ensures ∙ ap (list_all is_word_byte) c.in-Some.ensures.cases.1 ∙ at_list-ends c.args.word.now c.args.rest.now empty array c.in-Some.ensures.cases.0
