use Rattle.std.proofs.Common.{◌≡◌, codes, ap, subst, sym, ◌∙◌}
use Rattle.std.proofs.lemmas.Slice.Eq.{bytes_eq-Decides}
use Rattle.yaml_block.specs.Nodes.{node_tree}
use Rattle.patch_form.specs.declared.word.Purpose.TheVariants.{Copying}
use Rattle.patch_model.specs.Acts.{copies}
use Rattle.patch_form.specs.Demands.{at_key}
use Rattle.patch_model.specs.Orders.{NamedAt, kept_keys, keys_of, text_of, text_there}
use Rattle.patch_model.proofs.Copying.{copy_named}
use Rattle.patch_model.proofs.deed.copy_act.Goals as goal

pub name_at-requires : goal.name_at-requires
name_at-requires c = record {
  named = subst NamedAt (sym (c.at_key.ensures ∙ ap (at_key (codes "from")) c.entries_in-entries.ensures))
      (copy_named c.args.line c.args.name.now (node_tree c.args.node.now) (λ other is. (bytes_eq-Decides other (codes "from")).0 is) c.requires.met);
}

pub returns : goal.returns
returns c =
    let tree = node_tree c.args.node.now in
    let name : c.in_ok-name.name ≡ c.args.name.now = c.in_ok-name.ensures ∙ c.as_bytes.ensures.value ∙ c.as_str.ensures in
    let from : c.in_ok-from.from ≡ text_of (codes "from") tree =
    c.in_ok-from.ensures ∙ ap text_there (c.at_key.ensures ∙ ap (at_key (codes "from")) c.entries_in-entries.ensures) in
    let keys : c.in_ok-keys.keys ≡ keys_of Copying tree = c.in_ok-keys.ensures ∙ ap (kept_keys Copying) c.entries_in-entries.ensures in
    λ j. copies (name j) (from j) (keys j)
