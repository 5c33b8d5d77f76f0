-- Neither a head nor a tail stands round the lines.
use Rattle.std.proofs.Common.{ℕ, List, subst}
use Rattle.std.proofs.lemmas.List.{append-nil}
use Rattle.pac_io.specs.Writing.{Writes}
use Rattle.pac_sample.specs.Script.{sample_script}
use Rattle.pac_sample.proofs.script.sample_script.Goals as goal

pub returns-clause-growth : goal.returns-clause-growth
unfolding sample_script
returns-clause-growth g c =
    subst (λ (text : List ℕ). Writes c.write_parts.result (g.S.Sink.written c.args.sink.now) (g.S.Sink.written c.write_parts.new.sink) text) (append-nil (sample_script c.args.count)) c.write_parts.ensures.growth
