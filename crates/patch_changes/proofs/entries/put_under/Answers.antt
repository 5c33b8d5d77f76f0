-- The next entry goes last, since no two have one key.
use Rattle.std.proofs.Common.{Some, map, ap, ◌∙◌}
use Rattle.indexmap.specs.IndexMap.{insert_entry}
use Rattle.patch_changes.proofs.NewKeys.{entries-distinct}
use Rattle.patch_changes.specs.Listed.{new_entry}
use Rattle.patch_names.proofs.Rebuilt.{made_more}
use Rattle.svd_model.proofs.Copies.{sibling_eq}
use Rattle.patch_changes.proofs.entries.put_under.Goals as goal

pub loop-key-preserved-in_ok-insert : goal.loop-key-preserved-in_ok-insert
loop-key-preserved-in_ok-insert g c =
    made_more (map (new_entry c.args.pattern.now (Some c.args.name.now)) c.args.entries.now.entries) c.loop-key.made.entries (map (new_entry c.args.pattern.now (Some c.args.name.now)) c.loop-key.key-iterator) (new_entry c.args.pattern.now (Some c.args.name.now) (c.in-Some.key, c.in-Some.value)) (map (new_entry c.args.pattern.now (Some c.args.name.now)) c.next.new.self) c.insert.new.self.entries
    (entries-distinct c.args.pattern.now c.args.name.now c.args.entries.now.entries c.replace-old.result.entries (ap (λ (all : _). all.entries) c.replace-old.ensures.value) c.into_iter-key-iterator.ensures.into_iter_gives.4 c.requires)
    c.loop-key.invariant
    (ap (map (new_entry c.args.pattern.now (Some c.args.name.now))) c.in-Some.ensures.steps)
    (c.in_ok-insert.ensures.entries ∙ ap (λ key. insert_entry sibling_eq c.loop-key.made.entries key c.in-Some.value) c.in_ok-new_key.ensures)

pub loop-key-preserved : goal.loop-key-preserved
loop-key-preserved g c =
    made_more (map (new_entry c.args.pattern.now (Some c.args.name.now)) c.args.entries.now.entries) c.loop-key.made.entries (map (new_entry c.args.pattern.now (Some c.args.name.now)) c.loop-key.key-iterator) (new_entry c.args.pattern.now (Some c.args.name.now) (c.in-Some.key, c.in-Some.value)) (map (new_entry c.args.pattern.now (Some c.args.name.now)) c.next.new.self) c.insert.new.self.entries
    (entries-distinct c.args.pattern.now c.args.name.now c.args.entries.now.entries c.replace-old.result.entries (ap (λ (all : _). all.entries) c.replace-old.ensures.value) c.into_iter-key-iterator.ensures.into_iter_gives.4 c.requires)
    c.loop-key.invariant
    (ap (map (new_entry c.args.pattern.now (Some c.args.name.now))) c.in-Some.ensures.steps)
    (c.in_ok-insert.ensures.entries ∙ ap (λ key. insert_entry sibling_eq c.loop-key.made.entries key c.in-Some.value) c.in_ok-new_key.ensures)
