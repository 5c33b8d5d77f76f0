use Rattle.std.proofs.Common.{ℕ, List, sym, ap, ◌∙◌}
use Rattle.pac_base.specs.Widths.{bits_of}
use Rattle.frag_tree.specs.declared.statement.Link.{Link}
use Rattle.frag_sem.specs.Meaning.{chain_written}
use Rattle.frag_sem.specs.TextMeaning.{text_acts}
use Rattle.frag_eval.specs.Deeds.{all_put}
use Rattle.frag_eval.proofs.Lines.{none-left}
use Rattle.frag_eval.proofs.put.chain_puts.Goals as goal

pub loop-link-preserved : goal.loop-link-preserved
loop-link-preserved c =
    λ words bindings word knows.
    let N = bits_of c.args.unit.now.word in
    let acts = text_acts c.args.unit.now in
    ap (λ (w : ℕ). chain_written acts bindings w c.in-Some.others.now) (c.in_ok-push_put.ensures N words word ∙ c.link_put.ensures words bindings (all_put N words word c.loop-link.puts.items) knows)
    ∙ (ap (λ (links : List Link). chain_written acts bindings (all_put N words word c.loop-link.puts.items) links) (sym c.in-Some.ensures.cases.0)
    ∙ c.loop-link.invariant words bindings word knows)

pub returns : goal.returns
returns c =
    λ words bindings word knows.
    ap (λ (links : List Link). chain_written (text_acts c.args.unit.now) bindings (all_put (bits_of c.args.unit.now.word) words word c.loop-link.puts.items) links) (sym (none-left c.loop-link.rest.now c.in_default.ensures.cases))
    ∙ c.loop-link.invariant words bindings word knows
