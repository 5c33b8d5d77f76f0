use Rattle.std.proofs.Common.{◌≡◌, ◌-◌, List, ℕ, ◌∷◌, length, take, drop, ap, sym, ◌∙◌, arith, length-drop}
use Rattle.std.proofs.lemmas.List.{nil_from_length, take_all}
use Rattle.yaml_block.specs.Lines.{raw_lines}
use Rattle.yaml_block.proofs.Cutting.{cut-last, cut-ended, cut-length}
use Rattle.yaml_block.proofs.lines.split_line.Goals as goal

pub overflow_sub-text : goal.overflow_sub-text
overflow_sub-text c = cut-length c.args.text.now c.from_feed-rest.result.now c.from_feed-rest.ensures

pub returns-in-empty-clause-lines : goal.returns-in-empty-clause-lines
returns-in-empty-clause-lines c =
    cut-last c.args.text.now c.split_at.result.0.now c.from_feed-rest.result.now c.from_feed-rest.ensures c.split_at.ensures.front (nil_from_length c.from_feed-rest.result.now (omega (arith, c.in-empty.len_below)))

pub returns-in-len1-up-clause-lines : goal.returns-in-len1-up-clause-lines
returns-in-len1-up-clause-lines c =
    let rest = c.from_feed-rest.result.now in
    let all : take (length rest - 1) (drop 1 rest) ≡ drop 1 rest = take_all (length rest - 1) (drop 1 rest) (omega (arith, length-drop 1 rest)) in
    cut-ended c.args.text.now c.split_at.result.0.now rest c.from_feed-rest.ensures c.split_at.ensures.front (omega (arith, c.in-len1-up.len_at_least))
    ∙ ap (λ (line : List ℕ). line ∷ raw_lines (drop 1 rest)) (sym c.without_return.ensures)
    ∙ ap (λ (t : List ℕ). c.without_return.result.now ∷ raw_lines t) (sym all)

pub returns-in-len1-up-clause-shorter : goal.returns-in-len1-up-clause-shorter
returns-in-len1-up-clause-shorter c =
    let rest = c.from_feed-rest.result.now in
    let all : take (length rest - 1) (drop 1 rest) ≡ drop 1 rest = take_all (length rest - 1) (drop 1 rest) (omega (arith, length-drop 1 rest)) in
    omega (arith, ap length all, length-drop 1 rest, cut-length c.args.text.now rest c.from_feed-rest.ensures, c.in-len1-up.len_at_least)
