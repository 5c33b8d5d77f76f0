use Rattle.std.proofs.Common.{◌+◌, ◌++◌, map, ap, subst, ◌∙◌, arith}
use Rattle.yaml_block.specs.Nodes.{node_tree}
use Rattle.patch_model.specs.Acts.{Deed, order_of}
use Rattle.patch_model.specs.Held.{EachDeed}
use Rattle.patch_model.specs.Orders.{entry_deed, entry_orders, order}
use Rattle.patch_form.proofs.FromPlace.{from, from-done, from-here, made-more, made-done}
use Rattle.patch_model.proofs.listed.entry_commands.Goals as goal

pub entry_act-requires : goal.entry_act-requires
entry_act-requires c = record {
  met = (subst (EachDeed c.args.word c.args.device) (from-here (λ named. named) c.args.entries.now c.loop-entry.entry-index c.entry-item.result c.loop-entry-test.true c.entry-item.is) c.loop-entry.invariant.met).0;
}

pub loop-entry-preserved : goal.loop-entry-preserved
loop-entry-preserved c =
    let named = c.args.entries.now in
    let i = c.loop-entry.entry-index in
    let here = c.entry-item.result in
    let ask = entry_orders c.args.word c.args.device c.args.parents.now in
    record {
      orders = made-more (map order_of c.loop-entry.made) (map order_of c.put.new.made) (order here.0 c.args.parents.now (entry_deed c.args.word c.args.device here.1 (node_tree here.2))) (from ask named i) (from ask named (i + 1))
          (map order_of c.args.made.now ++ from ask named 0)
          (c.in_ok-put.ensures ∙ ap (λ (deed : Deed). map order_of c.loop-entry.made ++ order here.0 c.args.parents.now deed) c.in_ok-act.ensures)
          (from-here ask named i here c.loop-entry-test.true c.entry-item.is) c.loop-entry.invariant.orders;
      met = (subst (EachDeed c.args.word c.args.device) (from-here (λ es. es) named i here c.loop-entry-test.true c.entry-item.is) c.loop-entry.invariant.met).1;
    }

pub returns : goal.returns
returns c =
    let ask = entry_orders c.args.word c.args.device c.args.parents.now in
    made-done (map order_of c.loop-entry.made) (from ask c.args.entries.now c.loop-entry.entry-index) (map order_of c.args.made.now ++ from ask c.args.entries.now 0)
    (from-done ask c.args.entries.now c.loop-entry.entry-index (omega arith)) c.loop-entry.invariant.orders
