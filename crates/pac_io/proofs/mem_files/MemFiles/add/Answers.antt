use Rattle.std.proofs.Common.{arith, rules}
use Rattle.std.proofs.lemmas.Map.Text.{text_keys}
use Rattle.pac_io.proofs.mem_files.MemFiles.add.Goals as goal

pub returns-clause-ok : goal.returns-clause-ok
returns-clause-ok c = record {
  set = grind (arith, text_keys);
  others = λ other differs. grind (arith, text_keys);
  same_asked = search rules;
  same_calls = search rules;
}
