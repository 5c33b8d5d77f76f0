-- The next entry goes last, since no two come to one name.
use Rattle.std.proofs.Common.{map, ap, ◌∙◌}
use Rattle.indexmap.specs.IndexMap.{insert_entry}
use Rattle.patch_names.proofs.Rebuilt.{distinct-keys, made_more}
use Rattle.patch_names.specs.Renaming.{stripped_entry}
use Rattle.svd_model.proofs.Copies.{sibling_eq}
use Rattle.patch_names.proofs.renaming.strip_entries.Goals as goal

pub loop-key-preserved-in_ok-insert : goal.loop-key-preserved-in_ok-insert
loop-key-preserved-in_ok-insert g c =
    made_more (map (stripped_entry c.args.prefix.now) c.args.entries.now.entries) c.loop-key.made.entries (map (stripped_entry c.args.prefix.now) c.loop-key.key-iterator) (stripped_entry c.args.prefix.now (c.in-Some.key, c.in-Some.value)) (map (stripped_entry c.args.prefix.now) c.next.new.self) c.insert.new.self.entries
    (distinct-keys c.args.prefix.now c.args.entries.now.entries c.requires)
    c.loop-key.invariant
    (ap (map (stripped_entry c.args.prefix.now)) c.in-Some.ensures.steps)
    (c.in_ok-insert.ensures.entries ∙ ap (λ key. insert_entry sibling_eq c.loop-key.made.entries key c.in-Some.value) c.in_ok-stripped_key.ensures)

pub loop-key-preserved : goal.loop-key-preserved
loop-key-preserved g c =
    made_more (map (stripped_entry c.args.prefix.now) c.args.entries.now.entries) c.loop-key.made.entries (map (stripped_entry c.args.prefix.now) c.loop-key.key-iterator) (stripped_entry c.args.prefix.now (c.in-Some.key, c.in-Some.value)) (map (stripped_entry c.args.prefix.now) c.next.new.self) c.insert.new.self.entries
    (distinct-keys c.args.prefix.now c.args.entries.now.entries c.requires)
    c.loop-key.invariant
    (ap (map (stripped_entry c.args.prefix.now)) c.in-Some.ensures.steps)
    (c.in_ok-insert.ensures.entries ∙ ap (λ key. insert_entry sibling_eq c.loop-key.made.entries key c.in-Some.value) c.in_ok-stripped_key.ensures)
