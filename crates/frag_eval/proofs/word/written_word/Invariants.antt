use Rattle.std.proofs.Common.{◌≡◌, take}
use Rattle.pac_base.specs.Widths.{bits_of}
use Rattle.frag_eval.specs.Deeds.{all_put, start_of}
use Rattle.frag_eval.proofs.word.written_word.Given as goal

abbrev pub invariant-loop-put : goal.invariant-loop-put
invariant-loop-put l = l.word ≡ all_put (bits_of l.fn.width) l.fn.words (start_of (bits_of l.fn.width) l.fn.words l.fn.start) (take l.put-index l.puts)
