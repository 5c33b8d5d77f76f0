use Rattle.std.proofs.Common.{◌≡◌, ◌+◌, ◌++◌, map, ap, subst, sym, ◌∙◌, arith}
use Rattle.yaml_block.specs.Nodes.{node_tree}
use Rattle.patch_form.specs.declared.word.KeyWord.{KeyWord}
use Rattle.patch_model.specs.Acts.{order_of}
use Rattle.patch_form.specs.Unmet.{AllMet}
use Rattle.patch_model.specs.Held.{command_part}
use Rattle.patch_form.specs.Mappings.{entry_demands, mapping_demands, opened_demands}
use Rattle.patch_model.specs.Orders.{orders_at, orders_of}
use Rattle.patch_form.specs.Words.{key_word}
use Rattle.patch_model.proofs.Copying.{met_left, met_right}
use Rattle.patch_form.proofs.FromPlace.{from, from-done, from-here, made-more, made-done}
use Rattle.patch_model.proofs.HeldParts.{command_met}
use Rattle.patch_model.proofs.own.commands_of.Goals as goal

pub commands_at-requires : goal.commands_at-requires
commands_at-requires c =
    let named = c.args.entries.now in
    let i = c.loop-entry.entry-index in
    let here = c.entry-item.result in
    let tree = node_tree here.2 in
    let word : c.key_word-found.result ≡ key_word here.1 = c.key_word-found.ensures ∙ ap key_word (c.as_bytes.ensures.value ∙ c.as_str.ensures) in
    record {
      met = subst (λ (found : KeyWord). AllMet (command_part found c.args.device here.0 tree)) (sym word)
          (command_met c.args.device here.0 here.1 tree (key_word here.1)
          (met_left (entry_demands (key_word here.1) c.args.device here.0 here.1 tree (opened_demands here.0 tree)) (from (mapping_demands c.args.device) named (i + 1))
          (subst AllMet (from-here (mapping_demands c.args.device) named i here c.loop-entry-test.true c.entry-item.is) c.loop-entry.invariant.met)));
    }

pub loop-entry-preserved : goal.loop-entry-preserved
loop-entry-preserved c =
    let named = c.args.entries.now in
    let i = c.loop-entry.entry-index in
    let here = c.entry-item.result in
    let tree = node_tree here.2 in
    let ask = orders_of c.args.wanted c.args.device c.args.parents.now in
    let word : c.key_word-found.result ≡ key_word here.1 = c.key_word-found.ensures ∙ ap key_word (c.as_bytes.ensures.value ∙ c.as_str.ensures) in
    record {
      orders = made-more (map order_of c.loop-entry.made) (map order_of c.commands_at.new.made) (orders_at c.args.wanted (key_word here.1) c.args.device c.args.parents.now here.0 tree) (from ask named i) (from ask named (i + 1))
          (map order_of c.args.made.now ++ from ask named 0)
          (c.in_ok-commands_at.ensures ∙ ap (λ (found : KeyWord). map order_of c.loop-entry.made ++ orders_at c.args.wanted found c.args.device c.args.parents.now here.0 tree) word)
          (from-here ask named i here c.loop-entry-test.true c.entry-item.is) c.loop-entry.invariant.orders;
      met = met_right (entry_demands (key_word here.1) c.args.device here.0 here.1 tree (opened_demands here.0 tree)) (from (mapping_demands c.args.device) named (i + 1))
          (subst AllMet (from-here (mapping_demands c.args.device) named i here c.loop-entry-test.true c.entry-item.is) c.loop-entry.invariant.met);
    }

pub returns : goal.returns
returns c =
    let ask = orders_of c.args.wanted c.args.device c.args.parents.now in
    made-done (map order_of c.loop-entry.made) (from ask c.args.entries.now c.loop-entry.entry-index) (map order_of c.args.made.now ++ from ask c.args.entries.now 0)
    (from-done ask c.args.entries.now c.loop-entry.entry-index (omega arith)) c.loop-entry.invariant.orders
