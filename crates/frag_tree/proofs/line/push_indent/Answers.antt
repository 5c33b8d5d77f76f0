use Rattle.std.proofs.Common.{◌≡◌, ◌≤◌, ◌*◌, ◌++◌, ap, ◌∙◌, arith}
use Rattle.std.proofs.lemmas.List.{take-replicate}
use Rattle.std.proofs.lemmas.Result.{on_ok_weaker}
use Rattle.frag_tree.proofs.line.push_indent.Goals as goal

pub returns : goal.returns
returns c =
    let within : 4 * c.args.depth ≤ 64 = omega (arith, c.if-depth-gt16.false) in
    on_ok_weaker c.push.result (λ e. e ∙ ap (λ bytes. c.args.page.now ++ bytes) (take-replicate (4 * c.args.depth) 64 32 within)) c.push.ensures.ok
