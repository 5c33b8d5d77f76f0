use Rattle.std.proofs.Common.{◌≡◌, ◌∷◌, [], ◌-◌, List, length, take, slice_index_or, rules, None, ap, ap₂, sym, ◌∙◌, subst, arith}
use Rattle.pac_cli.specs.Buses.{bus_of, kinds_of, missing_kind, place_in, slots_of}
use Rattle.pac_cli.specs.Worlds.{paper}
use Rattle.pac_cli.specs.Resolving.{bytes_in}
use Rattle.pac_cli.proofs.Sources.{has_generated, last_input}
use Rattle.pac_cli.proofs.Scripts.{executed, has_run, others_executed, others_run, two_inputs}
use Rattle.pac_cli.proofs.Slots.{others_stay, told_after, told_before}
use Rattle.pac_cli.proofs.Samples.{no_inputs, others_sampled, sampled}
use Rattle.pac_words.specs.declared.command.BusKind.TheVariants as bus
use Rattle.pac_words.specs.declared.command.Command.{Command}
use Rattle.pac_cli.proofs.performing.perform.Goals as goal

pub returns-in-Executing-len2-clause-does : goal.returns-in-Executing-len2-clause-does
returns-in-Executing-len2-clause-does g c =
    let told = g.B.Bus.told in
    let lent = c.args.buses.now.items in
    let kind = c.in-Executing-len2.run'.bus in
    let slot = c.index_mut.result.now in
    let is_place = c.place_of-place.ensures ∙ ap (λ (all : List _). place_in kind (kinds_of (slots_of told all))) c.as_slice.ensures.value in
    let there : missing_kind (bus_of c.args.command.now) (kinds_of (slots_of told lent)) ≡ None = c.requires.lent in
    let not_missing = subst (λ (command : Command). missing_kind (bus_of command) (kinds_of (slots_of told lent)) ≡ None) c.in-Executing-len2.is-0 there in
    executed c.args.command.now c.in-Executing-len2.krate-0 c.in-Executing-len2.run' c.args.inputs.now c.as_slice-in-Executing-len2.result.now c.as_slice-in-Executing-len2-2.result.now
    (paper (g.S.Sink.written c.args.out.now) (g.S.Sink.faults c.args.out.now)) (paper (g.S.Sink.written c.execute.new.out) (g.S.Sink.faults c.execute.new.out))
    (slots_of told lent) _ (told slot.bus) (told c.execute.new.bus) c.execute.result c.in-Executing-len2.is-0
    (two_inputs c.args.inputs.now c.krate-item.result c.script-item.result (omega (arith, c.in-Executing-len2.len_at_least, c.in-Executing-len2.len_below)) c.krate-item.is c.script-item.is
    ∙ ap₂ (λ a b. a ∷ b ∷ []) (sym c.as_slice-in-Executing-len2.ensures) (sym c.as_slice-in-Executing-len2-2.ensures))
    (told_before told kind lent slot c.execute.new.bus c.place_of-place.result is_place not_missing c.index_mut.ensures.value)
    (told_after told kind lent slot c.execute.new.bus c.place_of-place.result is_place not_missing c.index_mut.ensures.value)
    c.execute.ensures

pub returns-in-Executing-len2-clause-others : goal.returns-in-Executing-len2-clause-others
returns-in-Executing-len2-clause-others g c =
    let told = g.B.Bus.told in
    let lent = c.args.buses.now.items in
    let kind = c.in-Executing-len2.run'.bus in
    let slot = c.index_mut.result.now in
    let is_place = c.place_of-place.ensures ∙ ap (λ (all : List _). place_in kind (kinds_of (slots_of told all))) c.as_slice.ensures.value in
    let there : missing_kind (bus_of c.args.command.now) (kinds_of (slots_of told lent)) ≡ None = c.requires.lent in
    let not_missing = subst (λ (command : Command). missing_kind (bus_of command) (kinds_of (slots_of told lent)) ≡ None) c.in-Executing-len2.is-0 there in
    others_executed c.args.command.now c.in-Executing-len2.krate-0 c.in-Executing-len2.run' _ _ c.in-Executing-len2.is-0
    (others_stay told kind lent slot c.execute.new.bus c.place_of-place.result is_place not_missing c.index_mut.ensures.value)

pub returns-in-Generating-default-clause-does : goal.returns-in-Generating-default-clause-does
returns-in-Generating-default-clause-does g c =
    has_generated c.args.command.now c.in-Generating-default.source c.args.inputs.now (bytes_in c.described-in-Generating-default.result)
    (paper (g.S.Sink.written c.args.out.now) (g.S.Sink.faults c.args.out.now)) (paper (g.S.Sink.written c.generate.new.out) (g.S.Sink.faults c.generate.new.out))
    (slots_of g.B.Bus.told c.args.buses.now.items) (slots_of g.B.Bus.told c.args.buses.now.items) c.generate.result
    c.in-Generating-default.is-0 c.described-in-Generating-default.ensures.files c.generate.ensures.does

pub returns-in-Running-len1-up-clause-does : goal.returns-in-Running-len1-up-clause-does
returns-in-Running-len1-up-clause-does g c =
    let told = g.B.Bus.told in
    let lent = c.args.buses.now.items in
    let kind = c.in-Running-len1-up.run'.bus in
    let slot = c.index_mut-in-Running-len1-up.result.now in
    let is_place = c.place_of-place-in-Running-len1-up.ensures ∙ ap (λ (all : List _). place_in kind (kinds_of (slots_of told all))) c.as_slice-in-Running-len1-up.ensures.value in
    let there : missing_kind (bus_of c.args.command.now) (kinds_of (slots_of told lent)) ≡ None = c.requires.lent in
    let not_missing = subst (λ (command : Command). missing_kind (bus_of command) (kinds_of (slots_of told lent)) ≡ None) c.in-Running-len1-up.is-0 there in
    let script = c.as_slice-in-Running-len1-up-2.result.now in
    let is_last : script ≡ slice_index_or c.args.inputs.now (length c.args.inputs.now - 1) script = search rules in
    has_run c.args.command.now c.in-Running-len1-up.source c.in-Running-len1-up.run' c.args.inputs.now (take (length c.args.inputs.now - 1) c.args.inputs.now)
    (bytes_in c.described-source.result) script
    (paper (g.S.Sink.written c.args.out.now) (g.S.Sink.faults c.args.out.now)) (paper (g.S.Sink.written c.run_against.new.out) (g.S.Sink.faults c.run_against.new.out))
    (slots_of told lent) _ (told slot.bus) (told c.run_against.new.bus) c.run_against.result c.in-Running-len1-up.is-0
    (last_input c.args.inputs.now script c.in-Running-len1-up.len_at_least is_last) c.described-source.ensures.files
    (told_before told kind lent slot c.run_against.new.bus c.place_of-place-in-Running-len1-up.result is_place not_missing c.index_mut-in-Running-len1-up.ensures.value)
    (told_after told kind lent slot c.run_against.new.bus c.place_of-place-in-Running-len1-up.result is_place not_missing c.index_mut-in-Running-len1-up.ensures.value)
    c.run_against.ensures

pub returns-in-Running-len1-up-clause-others : goal.returns-in-Running-len1-up-clause-others
returns-in-Running-len1-up-clause-others g c =
    let told = g.B.Bus.told in
    let lent = c.args.buses.now.items in
    let kind = c.in-Running-len1-up.run'.bus in
    let slot = c.index_mut-in-Running-len1-up.result.now in
    let is_place = c.place_of-place-in-Running-len1-up.ensures ∙ ap (λ (all : List _). place_in kind (kinds_of (slots_of told all))) c.as_slice-in-Running-len1-up.ensures.value in
    let there : missing_kind (bus_of c.args.command.now) (kinds_of (slots_of told lent)) ≡ None = c.requires.lent in
    let not_missing = subst (λ (command : Command). missing_kind (bus_of command) (kinds_of (slots_of told lent)) ≡ None) c.in-Running-len1-up.is-0 there in
    others_run c.args.command.now c.in-Running-len1-up.source c.in-Running-len1-up.run' _ _ c.in-Running-len1-up.is-0
    (others_stay told kind lent slot c.run_against.new.bus c.place_of-place-in-Running-len1-up.result is_place not_missing c.index_mut-in-Running-len1-up.ensures.value)

pub returns-in-Some-clause-does : goal.returns-in-Some-clause-does
returns-in-Some-clause-does g c =
    let told = g.B.Bus.told in
    let lent = c.args.buses.now.items in
    let slot = c.index_mut-in-Sampling-default.result.now in
    let is_place = c.place_of-place-in-Sampling-default.ensures ∙ ap (λ (all : List _). place_in bus.Memory (kinds_of (slots_of told all))) c.as_slice-in-Sampling-default.ensures.value in
    let there : missing_kind (bus_of c.args.command.now) (kinds_of (slots_of told lent)) ≡ None = c.requires.lent in
    let not_missing = subst (λ (command : Command). missing_kind (bus_of command) (kinds_of (slots_of told lent)) ≡ None) c.in-Sampling-default.is-0 there in
    sampled c.args.command.now c.in-Sampling-default.number c.in-Sampling-default.count c.args.inputs.now (c.in-Some.number, c.in-Some.count)
    (paper (g.S.Sink.written c.args.out.now) (g.S.Sink.faults c.args.out.now)) (paper (g.S.Sink.written c.sample.new.out) (g.S.Sink.faults c.sample.new.out))
    (slots_of told lent) _ (told slot.bus) (told c.sample.new.bus) c.sample.result c.in-Sampling-default.is-0
    (no_inputs c.args.command.now c.in-Sampling-default.number c.in-Sampling-default.count c.args.inputs.now c.in-Sampling-default.is-0 c.requires.limits)
    (sym c.numbers_of.ensures.given ∙ c.in-Some.is)
    (told_before told bus.Memory lent slot c.sample.new.bus c.place_of-place-in-Sampling-default.result is_place not_missing c.index_mut-in-Sampling-default.ensures.value)
    (told_after told bus.Memory lent slot c.sample.new.bus c.place_of-place-in-Sampling-default.result is_place not_missing c.index_mut-in-Sampling-default.ensures.value)
    c.sample.ensures

pub returns-in-Some-clause-others : goal.returns-in-Some-clause-others
returns-in-Some-clause-others g c =
    let told = g.B.Bus.told in
    let lent = c.args.buses.now.items in
    let slot = c.index_mut-in-Sampling-default.result.now in
    let is_place = c.place_of-place-in-Sampling-default.ensures ∙ ap (λ (all : List _). place_in bus.Memory (kinds_of (slots_of told all))) c.as_slice-in-Sampling-default.ensures.value in
    let there : missing_kind (bus_of c.args.command.now) (kinds_of (slots_of told lent)) ≡ None = c.requires.lent in
    let not_missing = subst (λ (command : Command). missing_kind (bus_of command) (kinds_of (slots_of told lent)) ≡ None) c.in-Sampling-default.is-0 there in
    others_sampled c.args.command.now c.in-Sampling-default.number c.in-Sampling-default.count _ _ c.in-Sampling-default.is-0
    (others_stay told bus.Memory lent slot c.sample.new.bus c.place_of-place-in-Sampling-default.result is_place not_missing c.index_mut-in-Sampling-default.ensures.value)
