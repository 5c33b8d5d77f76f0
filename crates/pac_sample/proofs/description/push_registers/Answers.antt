use Rattle.std.proofs.Common.{ℕ, List, ◌++◌, ◌*◌, ap, sym, ◌∙◌}
use Rattle.std.specs.List.{flat_map}
use Rattle.std.proofs.lemmas.Result.{on_ok_weaker}
use Rattle.pac_sample.specs.Description.{sample_register}
use Rattle.pac_sample.specs.Numbered.{between}
use Rattle.pac_sample.proofs.Registers.{registers_of-between}
use Rattle.pac_sample.proofs.description.push_registers.Goals as goal

pub returns : goal.returns
returns c =
    let push = λ (numbers : List ℕ). c.args.page.now ++ flat_map (sample_register c.args.peripherals.now.registers.number) numbers in
    let registers = ap (between (64 * c.args.p)) c.min-end.ensures ∙ sym (registers_of-between c.args.p c.args.peripherals.now.count) in
    on_ok_weaker c.push_parts.result (λ e. e ∙ ap push registers) c.push_parts.ensures
