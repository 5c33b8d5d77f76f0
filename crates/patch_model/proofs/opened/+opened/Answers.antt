use Rattle.std.proofs.Common.{◌≡◌, ◌+◌, [], ◌∷◌, ◌++◌, map, false, ap, subst, sym, ◌∙◌, arith}
use Rattle.glob_select.specs.Reading.{alternatives_of}
use Rattle.yaml_block.specs.Nodes.{entry_under, node_tree}
use Rattle.yaml_block.specs.Trees.{Tree, entries_of}
use Rattle.patch_form.specs.declared.word.KeyWord.{KeyWord}
use Rattle.patch_model.specs.Acts.{GrowsBy, order_of}
use Rattle.patch_form.specs.Unmet.{AllMet}
use Rattle.patch_model.specs.Held.{opened_part}
use Rattle.patch_form.specs.Mappings.{entry_demands, mapping_demands, opened_demands}
use Rattle.patch_model.specs.Orders.{mapping_orders, opened_at, opened_orders, orders_below}
use Rattle.patch_form.specs.Words.{key_word}
use Rattle.patch_form.proofs.Arms.{in_empty, in_scalar, in_any_list, in_map, out_map}
use Rattle.patch_model.proofs.Copying.{met_left, met_right}
use Rattle.patch_form.proofs.FromPlace.{from, from-done, from-here, made-more, made-done}
use Rattle.patch_model.proofs.Growing.{grown-none, on_ok}
use Rattle.patch_model.proofs.HeldParts.{opened_met}
use Rattle.patch_model.proofs.Weighing.{less_at, less_inside}
use Rattle.patch_model.proofs.opened.+opened.Goals as goal

pub mapping_commands-opened_at-requires : goal.mapping_commands-opened_at-requires
mapping_commands-opened_at-requires t c =
    let named = c.args.entries.now in
    let i = c.loop-entry.entry-index in
    let here = c.entry-item.result in
    let tree = node_tree here.2 in
    let word : c.key_word-word.result ≡ key_word here.1 = c.key_word-word.ensures ∙ ap key_word (c.as_bytes.ensures.value ∙ c.as_str.ensures) in (
      omega (arith, c.decreases, less_at named i here c.loop-entry-test.true c.entry-item.is),
      subst (λ (found : KeyWord). AllMet (opened_part found here.0 here.1 tree)) (sym word)
          (opened_met c.args.device here.0 here.1 tree (key_word here.1)
          (met_left (entry_demands (key_word here.1) c.args.device here.0 here.1 tree (opened_demands here.0 tree)) (from (mapping_demands c.args.device) named (i + 1))
          (subst AllMet (from-here (mapping_demands c.args.device) named i here c.loop-entry-test.true c.entry-item.is) c.loop-entry.invariant.met))),
    )

pub commands_below-mapping_commands-requires : goal.commands_below-mapping_commands-requires
commands_below-mapping_commands-requires t c = (
  omega (arith, c.decreases, less_inside c.args.node.now c.in-Map.entries c.as_slice.result.now c.in-Map.is c.as_slice.ensures.value),
  out_map (λ (tree : Tree). AllMet (opened_demands c.args.line tree)) c.args.node.now c.in-Map.entries c.as_slice.result.now c.in-Map.is c.as_slice.ensures.value c.requires.met,
)

pub commands_below-returns-in-Empty : goal.commands_below-returns-in-Empty
commands_below-returns-in-Empty t c = in_empty (λ (tree : Tree). GrowsBy c.args.made.now c.args.made.now (orders_below c.args.parents.now tree)) c.args.node.now c.in-Empty.is (grown-none c.args.made.now)

pub commands_below-returns-in-Scalar : goal.commands_below-returns-in-Scalar
commands_below-returns-in-Scalar t c = in_scalar (λ (tree : Tree). GrowsBy c.args.made.now c.args.made.now (orders_below c.args.parents.now tree)) c.args.node.now c.in-Scalar.field-0 c.in-Scalar.is (grown-none c.args.made.now)

pub commands_below-returns-in-List : goal.commands_below-returns-in-List
commands_below-returns-in-List t c = in_any_list (λ (tree : Tree). GrowsBy c.args.made.now c.args.made.now (orders_below c.args.parents.now tree)) c.args.node.now c.in-List.field-0 c.in-List.is (grown-none c.args.made.now)

pub commands_below-returns-in-Map : goal.commands_below-returns-in-Map
commands_below-returns-in-Map t c =
    let old = c.args.made.now in
    let new = c.mapping_commands.new.made in
    let parents = c.args.parents.now in
    on_ok (GrowsBy old new (mapping_orders false parents (entries_of (map entry_under c.as_slice.result.now)))) (GrowsBy old new (orders_below parents (node_tree c.args.node.now))) c.mapping_commands.result
    (λ grows. in_map (λ (tree : Tree). GrowsBy old new (orders_below parents tree)) c.args.node.now c.in-Map.entries c.as_slice.result.now c.in-Map.is c.as_slice.ensures.value grows)
    c.mapping_commands.ensures

pub opened_at-commands_below-requires : goal.opened_at-commands_below-requires
opened_at-commands_below-requires t c = (omega (arith, c.decreases), (subst (λ (word : KeyWord). AllMet (opened_part word c.args.line c.args.key.now (node_tree c.args.node.now))) c.in-Pattern.is c.requires.met).1)

pub mapping_commands-loop-entry-preserved : goal.mapping_commands-loop-entry-preserved
mapping_commands-loop-entry-preserved t c =
    let named = c.args.entries.now in
    let i = c.loop-entry.entry-index in
    let here = c.entry-item.result in
    let tree = node_tree here.2 in
    let parents = c.args.parents.now in
    let ask = opened_orders parents in
    let inside = orders_below (parents ++ alternatives_of here.1 ∷ []) tree in
    let word : c.key_word-word.result ≡ key_word here.1 = c.key_word-word.ensures ∙ ap key_word (c.as_bytes.ensures.value ∙ c.as_str.ensures) in
    record {
      orders = made-more (map order_of c.loop-entry.made) (map order_of c.opened_at.new.made) (opened_at (key_word here.1) parents here.0 here.1 inside) (from ask named i) (from ask named (i + 1))
          (map order_of c.args.made.now ++ from (mapping_orders c.args.device parents) named 0)
          (c.in_ok-opened_at.ensures ∙ ap (λ (found : KeyWord). map order_of c.loop-entry.made ++ opened_at found parents here.0 here.1 inside) word)
          (from-here ask named i here c.loop-entry-test.true c.entry-item.is) c.loop-entry.invariant.orders;
      met = met_right (entry_demands (key_word here.1) c.args.device here.0 here.1 tree (opened_demands here.0 tree)) (from (mapping_demands c.args.device) named (i + 1))
          (subst AllMet (from-here (mapping_demands c.args.device) named i here c.loop-entry-test.true c.entry-item.is) c.loop-entry.invariant.met);
    }

pub mapping_commands-returns : goal.mapping_commands-returns
mapping_commands-returns t c =
    let ask = opened_orders c.args.parents.now in
    made-done (map order_of c.loop-entry.made) (from ask c.args.entries.now c.loop-entry.entry-index) (map order_of c.args.made.now ++ from (mapping_orders c.args.device c.args.parents.now) c.args.entries.now 0)
    (from-done ask c.args.entries.now c.loop-entry.entry-index (omega arith)) c.loop-entry.invariant.orders
