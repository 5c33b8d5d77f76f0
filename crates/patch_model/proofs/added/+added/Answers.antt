use Rattle.std.proofs.Common.{◌≡◌, ◌+◌, List, map, drop, codes, ap, subst, sym, ◌∙◌, arith}
use Rattle.std.proofs.lemmas.Slice.Eq.{bytes_eq-Decides}
use Rattle.patch_form.specs.Words.{key_kind}
use Rattle.yaml_block.specs.Nodes.{entry_under, node_tree}
use Rattle.yaml_block.specs.Trees.{Tree, entries_of}
use Rattle.yaml_block.proofs.Answers.{if_ok}
use Rattle.patch_model.specs.declared.act.Additions.{Additions}
use Rattle.patch_form.specs.declared.word.Purpose.TheVariants.{Adding}
use Rattle.patch_model.specs.Acts.{AddedOne, added, added_of, addition_under, additions_under}
use Rattle.patch_form.specs.Unmet.{AllMet}
use Rattle.patch_form.specs.Demands.{addition_demands, each_key}
use Rattle.patch_model.specs.Held.{AreAdditionsMet, AreKeysMet}
use Rattle.patch_model.specs.Orders.{added_at, added_below, added_in, added_under, kept_keys, keys_of}
use Rattle.patch_model.proofs.Adding.{addition_under-roll, joined, joined-none, joined-more, keys_met, children_met, others_met, registers_kind, fields_kind, at-passed, entry_met, rest_met}
use Rattle.patch_form.proofs.Arms.{in_empty, in_scalar, in_any_list, in_map, out_map}
use Rattle.patch_form.proofs.FromPlace.{from, from-done, from-here}
use Rattle.patch_model.proofs.Weighing.{less_at, less_inside}
use Rattle.patch_model.proofs.added.+added.Goals as goal

-- what is held to

pub added_one-added_under-requires : goal.added_one-added_under-requires
added_one-added_under-requires t c = (omega (arith, c.decreases), (registers_kind, keys_met c.args.line (node_tree c.args.node.now) c.requires.met.1))

pub added_one-added_under-requires-2 : goal.added_one-added_under-requires-2
added_one-added_under-requires-2 t c = (omega (arith, c.decreases), (fields_kind, keys_met c.args.line (node_tree c.args.node.now) c.requires.met.1))

pub added_under-added_at-requires : goal.added_under-added_at-requires
added_under-added_at-requires t c = (omega (arith, c.decreases, less_inside c.args.node.now c.in-Map.entries c.as_slice.result.now c.in-Map.is c.as_slice.ensures.value), (c.requires.children, out_map AreKeysMet c.args.node.now c.in-Map.entries c.as_slice.result.now c.in-Map.is c.as_slice.ensures.value c.requires.met))

pub added_at-added_below-requires : goal.added_at-added_below-requires
added_at-added_below-requires t c =
    let named = c.args.entries.now in
    let i = c.loop-entry.entry-index in
    let here = c.entry-item.result in (
      omega (arith, c.decreases, less_at named i here c.loop-entry-test.true c.entry-item.is),
      children_met here.0 here.1 (node_tree here.2) (entries_of (map entry_under (drop (i + 1) named)))
          (subst AllMet (from-here each_key named i here c.loop-entry-test.true c.entry-item.is) c.loop-entry.invariant.met)
          (ap key_kind ((bytes_eq-Decides here.1 c.args.key.now).0 (sym c.is_key.ensures ∙ c.if-is_key.true)) ∙ c.requires.children),
    )

pub added_below-added_in-requires : goal.added_below-added_in-requires
added_below-added_in-requires t c = (omega (arith, c.decreases, less_inside c.args.node.now c.in-Map.entries c.as_slice.result.now c.in-Map.is c.as_slice.ensures.value), out_map AreAdditionsMet c.args.node.now c.in-Map.entries c.as_slice.result.now c.in-Map.is c.as_slice.ensures.value c.requires.met)

pub added_in-added_one-requires : goal.added_in-added_one-requires
added_in-added_one-requires t c =
    let named = c.args.entries.now in
    let i = c.loop-entry.entry-index in
    let here = c.entry-item.result in (
      omega (arith, c.decreases, less_at named i here c.loop-entry-test.true c.entry-item.is),
      entry_met here.0 here.1 (node_tree here.2) (entries_of (map entry_under (drop (i + 1) named)))
          (subst AllMet (from-here addition_demands named i here c.loop-entry-test.true c.entry-item.is) c.loop-entry.invariant.met),
    )

-- the arms

pub added_under-returns-in-Empty : goal.added_under-returns-in-Empty
added_under-returns-in-Empty t c = in_empty (λ (tree : Tree). added_of (additions_under c.none_added.result) ≡ added_under c.args.key.now tree) c.args.node.now c.in-Empty.is c.none_added.ensures

pub added_under-returns-in-Scalar : goal.added_under-returns-in-Scalar
added_under-returns-in-Scalar t c = in_scalar (λ (tree : Tree). added_of (additions_under c.none_added-in-Scalar.result) ≡ added_under c.args.key.now tree) c.args.node.now c.in-Scalar.field-0 c.in-Scalar.is c.none_added-in-Scalar.ensures

pub added_under-returns-in-List : goal.added_under-returns-in-List
added_under-returns-in-List t c = in_any_list (λ (tree : Tree). added_of (additions_under c.none_added-in-List.result) ≡ added_under c.args.key.now tree) c.args.node.now c.in-List.field-0 c.in-List.is c.none_added-in-List.ensures

pub added_under-returns-in-Map : goal.added_under-returns-in-Map
added_under-returns-in-Map t c =
    if_ok c.added_at.result (λ (made : Additions). added_of (additions_under made) ≡ added_at c.args.key.now (entries_of (map entry_under c.as_slice.result.now))) (λ (made : Additions). added_of (additions_under made) ≡ added_under c.args.key.now (node_tree c.args.node.now))
    (λ made is. in_map (λ (tree : Tree). added_of (additions_under made) ≡ added_under c.args.key.now tree) c.args.node.now c.in-Map.entries c.as_slice.result.now c.in-Map.is c.as_slice.ensures.value is)
    c.added_at.ensures

pub added_below-returns-in-Empty : goal.added_below-returns-in-Empty
added_below-returns-in-Empty t c = in_empty (λ (tree : Tree). added_of (additions_under c.none_added.result) ≡ added_below tree) c.args.node.now c.in-Empty.is c.none_added.ensures

pub added_below-returns-in-Scalar : goal.added_below-returns-in-Scalar
added_below-returns-in-Scalar t c = in_scalar (λ (tree : Tree). added_of (additions_under c.none_added-in-Scalar.result) ≡ added_below tree) c.args.node.now c.in-Scalar.field-0 c.in-Scalar.is c.none_added-in-Scalar.ensures

pub added_below-returns-in-List : goal.added_below-returns-in-List
added_below-returns-in-List t c = in_any_list (λ (tree : Tree). added_of (additions_under c.none_added-in-List.result) ≡ added_below tree) c.args.node.now c.in-List.field-0 c.in-List.is c.none_added-in-List.ensures

pub added_below-returns-in-Map : goal.added_below-returns-in-Map
added_below-returns-in-Map t c =
    if_ok c.added_in.result (λ (made : Additions). added_of (additions_under made) ≡ added_in (entries_of (map entry_under c.as_slice.result.now))) (λ (made : Additions). added_of (additions_under made) ≡ added_below (node_tree c.args.node.now))
    (λ made is. in_map (λ (tree : Tree). added_of (additions_under made) ≡ added_below tree) c.args.node.now c.in-Map.entries c.as_slice.result.now c.in-Map.is c.as_slice.ensures.value is)
    c.added_in.ensures

pub added_one-returns : goal.added_one-returns
added_one-returns t c =
    let tree = node_tree c.args.node.now in
    let name : c.in_ok-name.name ≡ c.args.name.now = c.in_ok-name.ensures ∙ c.as_bytes.ensures.value ∙ c.as_str.ensures in
    let keys : c.in_ok-keys.keys ≡ keys_of Adding tree = c.in_ok-keys.ensures ∙ ap (kept_keys Adding) c.entries_in.ensures in
    let registers : added_of (additions_under c.in_ok-registers.registers) ≡ added_under (codes "registers") tree = c.in_ok-registers.ensures in
    let fields : added_of (additions_under c.in_ok-fields.fields) ≡ added_under (codes "fields") tree = c.in_ok-fields.ensures in
    addition_under-roll (record { name = c.in_ok-name.name; keys = c.in_ok-keys.keys; registers = c.in_ok-registers.registers; fields = c.in_ok-fields.fields })
    ∙ (λ j. record { name = name j; keys = keys j; registers = registers j; fields = fields j })

pub added_at-loop-entry-preserved : goal.added_at-loop-entry-preserved
added_at-loop-entry-preserved t c =
    let named = c.args.entries.now in
    let i = c.loop-entry.entry-index in
    let here = c.entry-item.result in
    let others = entries_of (map entry_under (drop (i + 1) named)) in
    record {
      left = sym (at-passed c.args.key.now here.0 here.1 (node_tree here.2) others (sym c.is_key.ensures ∙ c.if-is_key.false)) ∙ sym (from-here (added_at c.args.key.now) named i here c.loop-entry-test.true c.entry-item.is) ∙ c.loop-entry.invariant.left;
      met = others_met here.0 here.1 (node_tree here.2) others (subst AllMet (from-here each_key named i here c.loop-entry-test.true c.entry-item.is) c.loop-entry.invariant.met);
    }

pub added_in-loop-entry-preserved : goal.added_in-loop-entry-preserved
added_in-loop-entry-preserved t c =
    let named = c.args.entries.now in
    let i = c.loop-entry.entry-index in
    let here = c.entry-item.result in
    let tree = node_tree here.2 in
    let others = entries_of (map entry_under (drop (i + 1) named)) in
    record {
      made = ap (λ (made : List AddedOne). joined made (from added_in named (i + 1))) c.in_ok-push.ensures.ok
          ∙ joined-more (additions_under c.loop-entry.made) (addition_under c.in_ok-added_one.field-0) (from added_in named (i + 1))
          ∙ ap (λ (one : AddedOne). joined (additions_under c.loop-entry.made) (added one.name one.keys one.registers one.fields (from added_in named (i + 1)))) c.in_ok-added_one.ensures
          ∙ ap (joined (additions_under c.loop-entry.made)) (sym (from-here added_in named i here c.loop-entry-test.true c.entry-item.is))
          ∙ c.loop-entry.invariant.made;
      met = rest_met here.0 here.1 tree others (subst AllMet (from-here addition_demands named i here c.loop-entry-test.true c.entry-item.is) c.loop-entry.invariant.met);
    }

pub added_in-returns : goal.added_in-returns
added_in-returns t c =
    let made = additions_under c.loop-entry.made in
    sym (joined-none made) ∙ ap (joined made) (sym (from-done added_in c.args.entries.now c.loop-entry.entry-index (omega arith))) ∙ c.loop-entry.invariant.made
