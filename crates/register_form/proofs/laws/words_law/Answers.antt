use Rattle.register_form.proofs.Words.{fields_give, fields_put, fields_write, starts_are}
use Rattle.register_form.proofs.laws.words_law.Goals as goal

pub returns : goal.returns
returns c = record { given = fields_give; write = fields_write; put = fields_put; start = starts_are }
