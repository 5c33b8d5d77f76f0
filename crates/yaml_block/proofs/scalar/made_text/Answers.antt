use Rattle.std.proofs.Common.{ap, sym, ◌∙◌, Err, Some, List, ℕ}
use Rattle.yaml_block.proofs.Texts.{text_of-utf8, text_of-other}
use Rattle.yaml_block.proofs.scalar.made_text.Goals as goal

pub returns-in-Ok : goal.returns-in-Ok
returns-in-Ok c = text_of-utf8 c.args.bytes.now c.in-Ok.ensures.ok.1 ∙ ap (λ (t : List ℕ). Some t) (sym c.in-Ok.ensures.ok.0)

pub returns-in-Err-NotUtf8 : goal.returns-in-Err-NotUtf8
returns-in-Err-NotUtf8 c = text_of-other c.args.bytes.now (c.in-Err-NotUtf8.ensures.refused.0 (ap Err c.in-Err-NotUtf8.field-0-is))
