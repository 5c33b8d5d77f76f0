use Rattle.std.proofs.Common.{None}
use Rattle.frag_eval.proofs.Growing.{as_let, as_modify, as_reset, as_say, as_write, as_write_with_zero, grows_as, if_ok_map, none_said, nothing_grows}
use Rattle.frag_eval.specs.Lowered.{standing_of}
use Rattle.frag_sem.specs.Meaning.{say_outcome}
use Rattle.frag_eval.specs.Lowering.{outcome_at}
use Rattle.frag_eval.specs.Prefixes.{dues_of}
use Rattle.std.proofs.Common.{[]}
use Rattle.frag_eval.proofs.lower.lower_nowhere.Goals as goal

pub returns-in-Let : goal.returns-in-Let
returns-in-Let c = λ krate calls. nothing_grows krate c.args.line.now c.args.lowering.now c.requires calls (as_let krate c.args.line.now c.in-Let.name c.in-Let.place None c.in-Let.is calls)

pub returns-in-Write : goal.returns-in-Write
returns-in-Write c = λ krate calls. nothing_grows krate c.args.line.now c.args.lowering.now c.requires calls (as_write krate c.args.line.now c.in-Write.place c.in-Write.chain None c.in-Write.is calls)

pub returns-in-WriteWithZero : goal.returns-in-WriteWithZero
returns-in-WriteWithZero c = λ krate calls. nothing_grows krate c.args.line.now c.args.lowering.now c.requires calls (as_write_with_zero krate c.args.line.now c.in-WriteWithZero.place c.in-WriteWithZero.chain None c.in-WriteWithZero.is calls)

pub returns-in-Modify : goal.returns-in-Modify
returns-in-Modify c = λ krate calls. nothing_grows krate c.args.line.now c.args.lowering.now c.requires calls (as_modify krate c.args.line.now c.in-Modify.place c.in-Modify.names_reader c.in-Modify.chain None c.in-Modify.is calls)

pub returns-in-Reset : goal.returns-in-Reset
returns-in-Reset c = λ krate calls. nothing_grows krate c.args.line.now c.args.lowering.now c.requires calls (as_reset krate c.args.line.now c.in-Reset.place None c.in-Reset.is calls)

pub returns-in-Say : goal.returns-in-Say
returns-in-Say c =
    if_ok_map c.lower_say.result
    (λ done grows krate calls. grows_as c.args.lowering.now c.lower_say.new.lowering (λ answers names. say_outcome c.in-Say.value (standing_of answers names)) (λ answers names. outcome_at krate answers names c.args.line.now) [] (dues_of krate c.args.line.now) grows
    (as_say krate c.args.line.now c.in-Say.value c.in-Say.is) (none_said krate c.args.line.now c.in-Say.value c.in-Say.is))
    c.lower_say.ensures
