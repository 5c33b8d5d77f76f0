use Rattle.std.proofs.Common.{IsTrue, ◌≡◌, true, ◌∙◌, sym}
use Rattle.std.proofs.lemmas.List.Sums.{prefix_len-le-length}
use Rattle.std.specs.Bool.{Decides}
use Rattle.std.specs.List.{prefix_len}
use Rattle.pac_base.specs.Names.{IsName, is_word_byte, ends_name}
use Rattle.pac_base.proofs.NameForms.{is_name-Decides}
use Rattle.pac_base.proofs.name.is_name.Goals as goal

pub split_at-requires : goal.split_at-requires
split_at-requires c = rw c.word_len.ensures (prefix_len-le-length is_word_byte c.args.bytes.now)

pub returns : goal.returns
returns c = rw (c.ends_name.ensures, c.split_at.ensures.front, c.split_at.ensures.back, c.word_len.ensures) (is_name-Decides c.args.bytes.now)
