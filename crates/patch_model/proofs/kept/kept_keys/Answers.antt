use Rattle.std.proofs.Common.{◌≡◌, ◌+◌, ◌++◌, ap, ◌∙◌, arith}
use Rattle.yaml_block.specs.Nodes.{node_tree}
use Rattle.patch_model.specs.Orders.{counts, kept_key, kept_keys}
use Rattle.patch_form.specs.Words.{key_kind}
use Rattle.patch_form.proofs.FromPlace.{from, from-done, from-here, made-more, made-done}
use Rattle.patch_model.proofs.kept.kept_keys.Goals as goal

pub loop-entry-preserved : goal.loop-entry-preserved
loop-entry-preserved c =
    let ask = kept_keys c.args.purpose in
    let named = c.args.entries.now in
    let i = c.loop-entry.entry-index in
    let here = c.entry-item.result in
    let tree = node_tree here.2 in
    let key : c.as_bytes-key.result.now ≡ here.1 = c.as_bytes-key.ensures.value ∙ c.as_str.ensures in
    let counting : c.counts.result ≡ counts c.args.purpose here.1 = c.counts.ensures ∙ ap (counts c.args.purpose) key in
    let kind : c.key_kind.result ≡ key_kind here.1 = c.key_kind.ensures ∙ ap key_kind key in
    made-more c.loop-entry.keys c.keep_key.new.keys (kept_key (counts c.args.purpose here.1) (key_kind here.1) here.1 tree) (from ask named i) (from ask named (i + 1)) (from ask named 0)
    (c.in_ok-keep_key.ensures ∙ (λ j. c.loop-entry.keys ++ kept_key (counting j) (kind j) here.1 tree))
    (from-here ask named i here c.loop-entry-test.true c.entry-item.is) c.loop-entry.invariant

pub returns : goal.returns
returns c =
    let ask = kept_keys c.args.purpose in
    made-done c.loop-entry.keys (from ask c.args.entries.now c.loop-entry.entry-index) (from ask c.args.entries.now 0) (from-done ask c.args.entries.now c.loop-entry.entry-index (omega arith)) c.loop-entry.invariant
