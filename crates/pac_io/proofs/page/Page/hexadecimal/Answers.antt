use Rattle.std.proofs.Common.{◌≤◌, ◌-◌, ◌++◌, length, drop, ap, ◌∙◌, arith}
use Rattle.std.proofs.lemmas.List.{take_all, length-drop}
use Rattle.std.proofs.lemmas.Result.{on_ok_weaker}
use Rattle.pac_io.proofs.HexadecimalDigits.{padded}
use Rattle.pac_io.proofs.page.Page.hexadecimal.Goals as goal

pub returns-clause-ok : goal.returns-clause-ok
returns-clause-ok c =
    let start = c.write_hexadecimal-start.result in
    let text = c.write_hexadecimal-start.new.text in
    let within : length (drop start text) ≤ 64 - start = omega (arith, length-drop start text, c.write_hexadecimal-start.auto.text) in
    let digits = take_all (64 - start) (drop start text) within ∙ c.write_hexadecimal-start.ensures.digits in
    let both = padded c.saturating_sub-zeros.result c.args.least c.args.number _ digits c.saturating_sub-zeros.ensures (omega arith) in
    on_ok_weaker c.push_both.result (λ e. e ∙ ap (λ xs. c.args.self.now ++ xs) both) c.push_both.ensures.ok
