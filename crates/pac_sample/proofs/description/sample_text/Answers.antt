-- The parts are the peripherals.
use Rattle.std.proofs.Common.{ℕ, subst}
use Rattle.std.specs.List.{flat_map}
use Rattle.pac_io.specs.Writing.{Writes}
use Rattle.pac_sample.specs.Description.{device_text, sample_peripheral, sample_text}
use Rattle.pac_sample.specs.Numbered.{between}
use Rattle.pac_sample.proofs.description.sample_text.Goals as goal

pub returns-clause-growth : goal.returns-clause-growth
unfolding sample_text
returns-clause-growth g c =
    subst (λ (end : ℕ). Writes c.write_parts.result (g.S.Sink.written c.args.sink.now) (g.S.Sink.written c.write_parts.new.sink) (device_text (flat_map (sample_peripheral c.args.number c.args.count) (between 0 end)))) c.div_ceil.ensures c.write_parts.ensures.growth
