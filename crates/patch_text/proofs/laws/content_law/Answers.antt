use Rattle.patch_text.proofs.Contents.{content_again, content_takes}
use Rattle.patch_text.proofs.Texts.{stops_where}
use Rattle.patch_text.proofs.laws.content_law.Goals as goal

pub returns : goal.returns
returns c text content clear = (content_takes text content (stops_where text clear), content_again text content)
