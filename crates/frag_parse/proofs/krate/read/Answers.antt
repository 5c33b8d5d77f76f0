use Rattle.frag_words.specs.Words.{words_in}
use Rattle.frag_parse.proofs.Told.{is_deep, is_none}
use Rattle.frag_parse.proofs.krate.read.Goals as goal

pub returns-in-Ok-surveyed : goal.returns-in-Ok-surveyed
returns-in-Ok-surveyed c = is_deep (words_in c.args.bytes.now) c.in-Err-TooDeep.field-0 c.in-Err-TooDeep.left c.in-Err-TooDeep.field-0-is c.in-Err-TooDeep.ensures c.in-Ok-surveyed.ensures

pub returns-in-Err-Unfit-surveyed : goal.returns-in-Err-Unfit-surveyed
returns-in-Err-Unfit-surveyed c = is_none (words_in c.args.bytes.now) c.in-Err-Unfit-surveyed.field-0 c.in-Err-Unfit-surveyed.left c.in-Err-Unfit-surveyed.field-0-is c.in-Err-Unfit-surveyed.ensures
