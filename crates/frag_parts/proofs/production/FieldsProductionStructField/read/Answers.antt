use Rattle.frag_words.specs.Words.{words_in}
use Rattle.frag_parts.proofs.Same.{field_same}
use Rattle.frag_parts.proofs.production.FieldsProductionStructField.read.Goals as goal

pub returns : goal.returns
returns c = rw (field_same (words_in c.args.text.now)) c.field.ensures
